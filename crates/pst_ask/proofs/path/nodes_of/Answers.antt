use Rattle.std.proofs.Common.{rules, ap, sym, map, option_map, drop, ◌+◌, ◌++◌, ◌∙◌}
use Rattle.pst_ask.specs.declared.ask.Lack.TheVariants.{Nid}
use Rattle.pst_ask.specs.Ask.{or_lack}
use Rattle.pst_ask.specs.Nid.{all_named, nid_of_word}
use Rattle.pst_ask.proofs.WordLemmas.{named_end, named_next, named_none}
use Rattle.pst_ask.proofs.path.nodes_of.Goals as goal

pub returns-in-None : goal.returns-in-None
returns-in-None c =
    ap (or_lack Nid) (named_none nid_of_word c.args.words.now c.loop-word.word-index _ c.loop-word.nids.items (all_named nid_of_word (map (λ w. w.now) c.args.words.now))
    (search rules) c.in-None.ensures c.loop-word.invariant.left)

pub loop-word-preserved : goal.loop-word-preserved
loop-word-preserved c = record {
  left = named_next nid_of_word c.args.words.now c.loop-word.word-index _ c.in-Some.nid c.loop-word.nids.items (all_named nid_of_word (map (λ w. w.now) c.args.words.now))
      (search rules) c.in-Some.ensures c.loop-word.invariant.left
      ∙ ap (λ l. option_map (λ rest. l ++ rest) (all_named nid_of_word (map (λ w. w.now) (drop (c.loop-word.word-index + 1) c.args.words.now)))) (sym c.in_ok-push-in-Some.ensures.items);
}

pub returns : goal.returns
returns c =
    ap (or_lack Nid) (named_end nid_of_word c.args.words.now c.loop-word.word-index c.loop-word.nids.items (all_named nid_of_word (map (λ w. w.now) c.args.words.now))
    (search rules) c.loop-word.invariant.left)
