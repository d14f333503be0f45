use Rattle.std.proofs.Common.{◌≡◌, length, None}
use Rattle.pst_ndb.specs.Views.{table_of_node, roots_of}
use Rattle.pst_fault.specs.Each.{first_of}
use Rattle.pst_heap.specs.View.{node_of, data_of}
use Rattle.pst_bth.specs.View.{records_of}
use Rattle.pst_bth.specs.Left.{records_left, bth_left}
use Rattle.pst_value.specs.Met.{AsksMore}
use Rattle.pst_value.proofs.AskLemmas.{HoldsLeft}
use Rattle.pst_tc.specs.Info.{matrix_hnid}
use Rattle.pst_tc.specs.Fault.{row_record_fault}
use Rattle.pst_tc.specs.Matrix.{LiesIn, HasRowsOf}
use Rattle.pst_tc.proofs.ask.ask_rows.Given as goal

abbrev pub decreases-loop-taken : goal.decreases-loop-taken
decreases-loop-taken l = length (records_left l.rest)

abbrev pub invariant-loop-taken : goal.invariant-loop-taken
invariant-loop-taken l =
    let t = table_of_node (node_of l.heap) in
    let r = roots_of (node_of l.heap) in
    record {
      left : HoldsLeft t r l.asks (λ s. row_record_fault t s l.info) (records_of l.bth) (records_left l.rest);
      sound : first_of (row_record_fault t r l.info) (records_left l.rest) ≡ None;
      more : AsksMore l.initial.asks l.asks;
      bth : bth_left l.rest ≡ l.bth;
      lies : LiesIn (data_of l.heap).image l.matrix;
      rows : HasRowsOf t r (matrix_hnid t.image l.info) l.matrix;
    }
