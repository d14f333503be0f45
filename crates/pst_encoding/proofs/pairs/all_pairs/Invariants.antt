use Rattle.std.proofs.Common.{◌≡◌}
use Rattle.pst_encoding.specs.Pairs.{pairs_of}
use Rattle.pst_encoding.proofs.pairs.all_pairs.Given as goal

abbrev pub invariant-loop-n : goal.invariant-loop-n
invariant-loop-n l = l.pairs.items ≡ pairs_of l.n
