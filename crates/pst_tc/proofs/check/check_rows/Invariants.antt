use Rattle.std.proofs.Common.{◌≡◌, length}
use Rattle.pst_ndb.specs.Views.{table_of_node}
use Rattle.pst_ndb.specs.Views.{roots_of}
use Rattle.pst_fault.specs.Each.{first_of}
use Rattle.pst_heap.specs.View.{node_of, data_of}
use Rattle.pst_heap.specs.Items.{heap_of_items}
use Rattle.pst_bth.specs.View.{records_of}
use Rattle.pst_bth.specs.Left.{records_left, bth_left}
use Rattle.pst_tc.specs.Info.{matrix_hnid}
use Rattle.pst_tc.specs.Fault.{row_record_fault}
use Rattle.pst_tc.specs.Matrix.{LiesIn, HasRowsOf}
use Rattle.pst_tc.proofs.check.check_rows.Given as goal

abbrev pub decreases-loop-taken : goal.decreases-loop-taken
decreases-loop-taken l = length (records_left l.rest)

abbrev pub invariant-loop-taken : goal.invariant-loop-taken
invariant-loop-taken l = record {
  left :
      first_of (row_record_fault (table_of_node (node_of l.heap)) (roots_of (node_of l.heap)) l.info) (records_left l.rest)
      ≡ first_of (row_record_fault (table_of_node (node_of l.heap)) (roots_of (node_of l.heap)) l.info) (records_of l.bth);
  bth : bth_left l.rest ≡ l.bth;
  items : heap_of_items l.items ≡ l.heap;
  lies : LiesIn (data_of l.heap).image l.matrix;
  rows : HasRowsOf (table_of_node (node_of l.heap)) (roots_of (node_of l.heap)) (matrix_hnid (table_of_node (node_of l.heap)).image l.info) l.matrix;
}
