use Rattle.std.proofs.Common.{◌≡◌}
use Rattle.pst_fault.specs.Each.{first_of}
use Rattle.pst_ndb.specs.Views.{table_of_node, roots_of}
use Rattle.pst_tc.specs.Left.{tc_rows_left}
use Rattle.pst_tc.specs.Tc.{node_of_tc}
use Rattle.pst_tc.specs.Values.{tc_rows}
use Rattle.pst_damage.specs.Folder.{row_damage}
use Rattle.pst_damage.specs.Left.{left_nodes, left_pages}
use Rattle.pst_damage.proofs.folder.check_each.Given as goal

-- the first fault of the rows that are left is that of all
abbrev pub invariant-loop-row : goal.invariant-loop-row
invariant-loop-row l =
    let part = row_damage (left_nodes l.left) (left_pages l.left) l.items l.bid in
    first_of part (tc_rows_left l.row-iterator) ≡ first_of part (tc_rows (table_of_node (node_of_tc l.fn.table)) (roots_of (node_of_tc l.fn.table)))
