use Rattle.std.proofs.Common.{◌≡◌}
use Rattle.pst_fault.specs.Each.{first_of}
use Rattle.pst_ndb.specs.Views.{table_of_node, roots_of}
use Rattle.pst_value.specs.Met.{HoldsWith}
use Rattle.pst_tc.specs.Asks.{AsksMatrix}
use Rattle.pst_tc.specs.Fault.{row_record_fault}
use Rattle.pst_tc.specs.Tc.{node_of_tc}
use Rattle.pst_tc.specs.Values.{info_of, tc_records}
use Rattle.pst_tc.proofs.AskLemmas.{matrix_holds, tc_holds}
use Rattle.pst_tc.proofs.tc.Tc.asks.Goals as goal

pub returns-clause-holds : goal.returns-clause-holds
returns-clause-holds c =
    let node = node_of_tc c.args.self.now in
    let t = table_of_node node in
    let r = roots_of node in
    let i = c.of-front.result.item in
    let is : i ≡ info_of t r = rw c.of-front.ensures at c.is_sound.ensures.is in
    let matrix : AsksMatrix t r i c.matrix_ask.result = rw (c.heap-heap.ensures, c.item.ensures, c.of-front.ensures) at c.matrix_ask.ensures in
    let asked = matrix_holds t r i c.matrix_ask.result c.of_matrix-asks.result matrix c.of_matrix-asks.ensures in
    let rows : HoldsWith t r c.ask_rows.new.asks (λ s. first_of (row_record_fault t s i) (tc_records t r i)) = rw (c.index.ensures.records, c.item-2.ensures, c.heap-heap.ensures, c.of-front.ensures) at c.in_ok-ask_rows.ensures.holds in
    tc_holds t r i c.of_matrix-asks.result c.ask_rows.new.asks c.args.self.now.sound is asked c.ask_rows.ensures.more rows
