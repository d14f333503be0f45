use Rattle.std.proofs.Common.{◌≡◌, [], map}
use Rattle.pst_tc.specs.Left.{columns_left}
use Rattle.pst_tc.specs.View.{column_of}
use Rattle.pst_value_json.specs.Columns.{with_columns}
use Rattle.pst_value_json.proofs.cells.shown_columns.Given as goal

-- those that stand there, with what is left, are all
abbrev pub invariant-loop-column : goal.invariant-loop-column
invariant-loop-column l = with_columns (map column_of l.shown.items) (columns_left l.column-iterator) ≡ with_columns [] (columns_left l.fn.columns)
