-- What a contract sees of a column, and of a row.
use Rattle.pst_bytes.specs.declared.span.Span.{Span}
use Rattle.pst_tc.specs.declared.tc.Tc.{Tc}
use Rattle.pst_tc.specs.declared.columns.Column.{Column}
use Rattle.pst_tc.specs.declared.row.Row.{Row}
use Rattle.pst_tc.specs.Values.{ColumnParts, RowParts}
use Rattle.pst_tc.specs.Front.{front_tc, front_item}

-- what is told of a column
abbrev pub column_of : Column → ColumnParts
column_of c = record { tag = c.tag; at = c.at; width = c.width; bit = c.bit; place = c.place }

-- what is told of a row
abbrev pub row_parts : Row → RowParts
row_parts row = record { id = row.id; at = row.at; place = row.place }

-- the table context that it is a row of, and TCINFO there
abbrev pub tc_of_row : Row → Tc
tc_of_row row = front_tc row.front

abbrev pub row_item : Row → Span
row_item row = front_item row.front
