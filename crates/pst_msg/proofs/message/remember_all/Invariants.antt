use Rattle.pst_ndb.specs.Views.{table_of_node}
use Rattle.pst_msg.specs.Growth.{Grows}
use Rattle.pst_msg.specs.Known.{IsTrueOf}
use Rattle.pst_msg.proofs.message.remember_all.Given as goal

abbrev pub invariant-loop-frame : goal.invariant-loop-frame
invariant-loop-frame l = record {
  known : IsTrueOf (table_of_node l.node) l.known;
  grows : Grows (table_of_node l.node) (λ nodes. Unit {0}) l.fn.known l.known;
}
