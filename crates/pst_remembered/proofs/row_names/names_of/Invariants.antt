use Rattle.std.proofs.Common.{◌≡◌, ◌++◌, map}
use Rattle.pst_ndb.specs.Views.{table_of_node, roots_of}
use Rattle.pst_tc.specs.Left.{tc_rows_left}
use Rattle.pst_remembered.specs.RowNames.{name_of_row, row_names}
use Rattle.pst_remembered.proofs.row_names.names_of.Given as goal

-- those that were met, with those of the rows that are left, are all
abbrev pub invariant-loop-row : goal.invariant-loop-row
invariant-loop-row l = l.names.items ++ map name_of_row (tc_rows_left l.row-iterator) ≡ row_names (table_of_node l.table) (roots_of l.table)
