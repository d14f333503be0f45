use Rattle.std.proofs.Common.{◌≡◌}
use Rattle.pst_ndb.specs.Views.{table_of_node, nodes_of, roots_of}
use Rattle.pst_fault.specs.Each.{first_of}
use Rattle.pst_tc.specs.Values.{tc_rows}
use Rattle.pst_tc.specs.Tc.{node_of_tc}
use Rattle.pst_tc.specs.Left.{tc_rows_left}
use Rattle.pst_mail.specs.Fault.{listed_item_fault}
use Rattle.pst_msg.proofs.folder.check_items.Given as goal

-- the first fault of the rows that are left is that of all
abbrev pub invariant-loop-row : goal.invariant-loop-row
invariant-loop-row l =
    let part = listed_item_fault (nodes_of l.ndb) l.items l.bid in
    first_of part (tc_rows_left l.row-iterator) ≡ first_of part (tc_rows (table_of_node (node_of_tc l.fn.table)) (roots_of (node_of_tc l.fn.table)))
