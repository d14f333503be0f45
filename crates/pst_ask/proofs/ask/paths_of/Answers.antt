use Rattle.std.proofs.Common.{rules, ap, sym, map, option_map, drop, Vec, ◌+◌, ◌++◌, ◌∙◌}
use Rattle.std.specs.Global.{Global}
use Rattle.pst_ask.specs.declared.path.Path.{Path}
use Rattle.pst_ask.specs.declared.ask.Lack.TheVariants.{Nid}
use Rattle.pst_ask.specs.Ask.{nids_of, or_lack}
use Rattle.pst_ask.specs.Nid.{path_of_word, paths_of}
use Rattle.pst_ask.proofs.WordLemmas.{mapped_behind, named_end, named_next, named_refused, named_there}
use Rattle.pst_ask.proofs.ask.paths_of.Goals as goal

pub returns-in-Err : goal.returns-in-Err
returns-in-Err c =
    let words = c.args.words.now in
    named_refused path_of_word nids_of (λ (v : Vec Path Global). map nids_of v.items) words c.loop-word.word-index _ (map nids_of c.loop-word.paths.items) c.in-Err.none (paths_of (map (λ w. w.now) words))
    (search rules) c.in-Err.ensures c.loop-word.invariant.left

pub loop-word-preserved : goal.loop-word-preserved
loop-word-preserved c =
    let words = c.args.words.now in
    let path = c.in-Ok.path in
    let before = c.loop-word.paths.items in
    record {
      left = named_next path_of_word words c.loop-word.word-index _ (nids_of path) (map nids_of before) (paths_of (map (λ w. w.now) words))
          (search rules) (named_there _ (nids_of path) c.in-Ok.ensures) c.loop-word.invariant.left
          ∙ ap (λ l. option_map (λ rest. l ++ rest) (paths_of (map (λ w. w.now) (drop (c.loop-word.word-index + 1) words))))
          (sym (mapped_behind nids_of before path) ∙ ap (map nids_of) (sym c.in_ok-push-in-Ok.ensures.items));
    }

pub returns : goal.returns
returns c =
    let words = c.args.words.now in
    ap (or_lack Nid) (named_end path_of_word words c.loop-word.word-index (map nids_of c.loop-word.paths.items) (paths_of (map (λ w. w.now) words)) (search rules) c.loop-word.invariant.left)
