use Rattle.std.proofs.Common.{◌≡◌, ◌-◌, ◌≤◌}
use Rattle.pst_datatree.specs.Leaves.{leaves_table, leaves_tree}
use Rattle.pst_datatree.specs.Marks.{AreMarks, start_of}
use Rattle.pst_datatree.proofs.leaves.Leaves.find.Given as goal

abbrev pub invariant-loop-part : goal.invariant-loop-part
invariant-loop-part l = record {
  marks : AreMarks (start_of (leaves_table l.self) (leaves_tree l.self)) l.marks;
  start : l.before ≡ start_of (leaves_table l.self) (leaves_tree l.self) l.part;
  before : l.before ≤ l.n;
}

abbrev pub decreases-loop-part : goal.decreases-loop-part
decreases-loop-part l = l.count - l.part
