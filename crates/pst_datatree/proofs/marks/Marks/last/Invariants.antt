use Rattle.std.proofs.Common.{◌≤◌, ◌≡◌, ℕ}
use Rattle.pst_datatree.specs.Marks.{AreMarks}
use Rattle.pst_datatree.proofs.marks.Marks.last.Given as goal

abbrev pub invariant-loop-k : goal.invariant-loop-k
invariant-loop-k l = record {
  start : (start : ℕ → ℕ) → start 0 ≡ 0 → AreMarks start l.self → l.found.1 ≡ start l.found.0;
  before : l.found.1 ≤ l.n;
}
