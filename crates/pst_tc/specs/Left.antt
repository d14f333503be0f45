-- What an iterator over the columns or the rows of a table context has left.
use Rattle.std.specs.Prelude.{◌≡◌, ℕ, ⊤, List, Option, Some, None, map}
use Rattle.std.specs.Iterator.{YieldsFirstBy}
use Rattle.pst_bytes.specs.declared.span.Span.{Span}
use Rattle.pst_bytes.specs.Image.{bytes_of}
use Rattle.pst_ndb.specs.Views.{table_of_node, roots_of}
use Rattle.pst_bth.specs.Left.{records_left}
use Rattle.pst_tc.specs.declared.tc.Tc.{Tc}
use Rattle.pst_tc.specs.declared.columns.Column.{Column}
use Rattle.pst_tc.specs.declared.columns.Columns.{Columns}
use Rattle.pst_tc.specs.declared.row.Row.{Row}
use Rattle.pst_tc.specs.declared.rows.Rows.{Rows}
use Rattle.pst_tc.specs.Info.{columns_from}
use Rattle.pst_tc.specs.Values.{ColumnParts, column_parts_at, RowParts, row_parts_at}
use Rattle.pst_tc.specs.Tc.{node_of_tc}
use Rattle.pst_tc.specs.Grid.{grid_tc}
use Rattle.pst_tc.specs.View.{column_of, row_parts, tc_of_row}

-- ---- columns

abbrev pub columns_left : Columns → List ColumnParts
columns_left c = map (column_parts_at (bytes_of c.image)) (columns_from c.item c.next c.left)

abbrev pub TakesColumn : Columns → Option Column → Columns → Type 0
TakesColumn old taken new = YieldsFirstBy column_of columns_left old taken new

-- ---- rows

-- the table context
abbrev pub tc_left : Rows → Tc
tc_left rows = grid_tc rows.grid

-- the records of the row index that are left, and their rows
abbrev pub row_records_left : Rows → List (ℕ × Span)
row_records_left rows = records_left rows.rest

abbrev pub tc_rows_left : Rows → List RowParts
tc_rows_left rows = let node = node_of_tc (tc_left rows) in map (row_parts_at (table_of_node node) (roots_of node)) (row_records_left rows)

-- a row of a table context
abbrev pub MayBeRowOf : Tc → Option Row → Type 0
MayBeRowOf tc None = ⊤
MayBeRowOf tc (Some row) = tc_of_row row ≡ tc

abbrev pub TakesRow : Rows → Option Row → Rows → Type 0
TakesRow old taken new =
    YieldsFirstBy row_parts tc_rows_left old taken new × MayBeRowOf (tc_left old) taken × (tc_left new ≡ tc_left old)
