use Rattle.std.proofs.Common.{◌≡◌}
use Rattle.pst_encoding.specs.Cyclic.{turns_of}
use Rattle.pst_encoding.proofs.cyclic.all_turns.Given as goal

abbrev pub invariant-loop-n : goal.invariant-loop-n
invariant-loop-n l = l.turns.items ≡ turns_of l.n
