use Rattle.std.proofs.Common.{vec_len}
use Rattle.pst_block.specs.Table.{Table}
use Rattle.pst_datatree.specs.declared.seen.Seen.{Seen}
use Rattle.pst_subnode.specs.Faults.{AreSubFaultsTrue}
use Rattle.pst_subnode.specs.Stack.{Start, IsGivingUp}
use Rattle.pst_subnode.proofs.walk.give_up.Given as goal

abbrev pub invariant-loop-frame : goal.invariant-loop-frame
invariant-loop-frame l = record {
  goes : (t : Table) (a : Start) (s : Seen) → IsGivingUp t a l.initial.stack.items l.fault s l.initial.heights → IsGivingUp t a l.stack.items l.fault s l.heights;
  faults : (t : Table) (a : Start) (s : Seen) → IsGivingUp t a l.initial.stack.items l.fault s l.initial.heights → AreSubFaultsTrue t l.initial.faults → AreSubFaultsTrue t l.faults;
}

abbrev pub decreases-loop-frame : goal.decreases-loop-frame
decreases-loop-frame l = vec_len l.stack
