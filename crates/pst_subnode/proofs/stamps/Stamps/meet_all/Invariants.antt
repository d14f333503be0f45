use Rattle.std.proofs.Common.{ℕ, List, ◌++◌, take}
use Rattle.pst_subnode.specs.Numbers.{AreMetOnce}
use Rattle.pst_subnode.proofs.stamps.Stamps.meet_all.Given as goal

abbrev pub invariant-loop-number : goal.invariant-loop-number
invariant-loop-number l = (before : List ℕ) → AreMetOnce l.initial.self before → AreMetOnce l.self (before ++ take l.number-index l.numbers)
