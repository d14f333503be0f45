use Rattle.std.proofs.Common.{◌≡◌, length, None}
use Rattle.pst_ndb.specs.Views.{table_of_node, roots_of}
use Rattle.pst_fault.specs.Each.{first_of}
use Rattle.pst_heap.specs.View.{node_of}
use Rattle.pst_bth.specs.View.{records_of}
use Rattle.pst_bth.specs.Left.{records_left, bth_left}
use Rattle.pst_value.proofs.AskLemmas.{HoldsLeft}
use Rattle.pst_pc.specs.Fault.{property_fault}
use Rattle.pst_pc.proofs.ask.ask_properties.Given as goal

abbrev pub decreases-loop-taken : goal.decreases-loop-taken
decreases-loop-taken l = length (records_left l.rest)

abbrev pub invariant-loop-taken : goal.invariant-loop-taken
invariant-loop-taken l =
    let t = table_of_node (node_of l.heap) in
    let r = roots_of (node_of l.heap) in
    record {
      left : HoldsLeft t r l.asks (property_fault t) (records_of l.bth) (records_left l.rest);
      sound : first_of (property_fault t r) (records_left l.rest) ≡ None;
      bth : bth_left l.rest ≡ l.bth;
    }
