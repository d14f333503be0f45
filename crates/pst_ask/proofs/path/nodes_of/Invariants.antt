use Rattle.std.proofs.Common.{◌≡◌, map, option_map, ◌++◌, drop}
use Rattle.pst_ask.specs.Nid.{all_named, nid_of_word}
use Rattle.pst_ask.proofs.path.nodes_of.Given as goal

-- the nodes so far, with those that the words left name, are all
abbrev pub invariant-loop-word : goal.invariant-loop-word
invariant-loop-word l = record {
  left : all_named nid_of_word (map (λ w. w.now) l.words) ≡ option_map (λ rest. l.nids.items ++ rest) (all_named nid_of_word (map (λ w. w.now) (drop l.word-index l.words)));
}
