use Rattle.std.proofs.Common.{◌≡◌, length}
use Rattle.pst_ndb.specs.Views.{table_of_node, roots_of}
use Rattle.pst_fault.specs.Each.{first_of}
use Rattle.pst_heap.specs.View.{node_of}
use Rattle.pst_heap.specs.Items.{heap_of_items}
use Rattle.pst_bth.specs.View.{records_of}
use Rattle.pst_bth.specs.Left.{records_left, bth_left}
use Rattle.pst_pc.specs.Fault.{property_fault}
use Rattle.pst_pc.proofs.check.check_properties.Given as goal

abbrev pub decreases-loop-taken : goal.decreases-loop-taken
decreases-loop-taken l = length (records_left l.rest)

abbrev pub invariant-loop-taken : goal.invariant-loop-taken
invariant-loop-taken l = record {
  left :
      first_of (property_fault (table_of_node (node_of l.heap)) (roots_of (node_of l.heap))) (records_left l.rest)
      ≡ first_of (property_fault (table_of_node (node_of l.heap)) (roots_of (node_of l.heap))) (records_of l.bth);
  bth : bth_left l.rest ≡ l.bth;
  items : heap_of_items l.items ≡ l.heap;
}
