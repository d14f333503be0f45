use Rattle.std.proofs.Common.{rules, ◌≡◌, Some}
use Rattle.pst_ndb.specs.Views.{table_of_node, roots_of}
use Rattle.pst_heap.specs.View.{node_of}
use Rattle.pst_tc.specs.Values.{row_of_record}
use Rattle.pst_tc.proofs.AskLemmas.{row_holds}
use Rattle.pst_tc.proofs.ask.ask_row.Goals as goal

pub returns-clause-holds : goal.returns-clause-holds
unfolding row_of_record
returns-clause-holds c =
    let node = node_of c.args.heap.now in
    let t = table_of_node node in
    let r = roots_of node in
    let there : Some c.in-Some.row ≡ row_of_record t r c.args.info c.args.taken = search rules in
    row_holds t r c.args.info c.args.taken c.in-Some.row c.args.asks.now c.ask_cells.new.asks c.requires.asked c.ask_cells.ensures.more there c.requires.sound c.in_ok-ask_cells.ensures.holds
