use Rattle.std.proofs.Common.{◌≡◌, map, option_map, ◌++◌, drop}
use Rattle.pst_ask.specs.Ask.{nids_of}
use Rattle.pst_ask.specs.Nid.{paths_of}
use Rattle.pst_ask.proofs.ask.paths_of.Given as goal

-- the paths so far, with those that the words left write, are all
abbrev pub invariant-loop-word : goal.invariant-loop-word
invariant-loop-word l = record {
  left : paths_of (map (λ w. w.now) l.words) ≡ option_map (λ rest. map nids_of l.paths.items ++ rest) (paths_of (map (λ w. w.now) (drop l.word-index l.words)));
}
