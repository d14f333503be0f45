-- The rows of an attachment table that are left.
use Rattle.std.specs.Prelude.{◌≡◌, List, [], ◌∷◌, drop}
use Rattle.pst_block.specs.Table.{Table}
use Rattle.pst_ndb.specs.Views.{table_of_node, roots_of}
use Rattle.pst_tc.specs.Left.{tc_left, tc_rows_left}
use Rattle.pst_tc.specs.Tc.{node_of_tc}
use Rattle.pst_tc.specs.Values.{RowParts, tc_rows}
use Rattle.pst_remembered.specs.declared.row_names.RowName.{RowName}
use Rattle.pst_remembered.specs.RowNames.{name_of_row}
use Rattle.pst_msg.specs.declared.rest.CountedRows.{CountedRows}
use Rattle.pst_msg.specs.declared.rest.NumberedRows.{NumberedRows}
use Rattle.pst_msg.specs.declared.rest.Rest.{Rest}
use Rattle.pst_msg.specs.declared.rest.Rest.TheVariants.{Rows, Numbered}

-- those that are left of a table, and the blocks of which it is made
abbrev pub counted_left : CountedRows → List RowParts
counted_left c = tc_rows_left c.rows

abbrev pub counted_table : CountedRows → Table
counted_table c = table_of_node (node_of_tc (tc_left c.rows))

-- those of a table from a number on, and its blocks
abbrev pub numbered_left : NumberedRows → List RowParts
numbered_left n = drop n.next (tc_rows (table_of_node n.table) (roots_of n.table))

abbrev pub numbered_table : NumberedRows → Table
numbered_table n = table_of_node n.table

abbrev pub rows_of_table_left : Rest → List RowParts
rows_of_table_left (Rows rows) = counted_left rows
rows_of_table_left (Numbered rows) = numbered_left rows

abbrev pub table_of_rest : Rest → Table
table_of_rest (Rows rows) = counted_table rows
table_of_rest (Numbered rows) = numbered_table rows

-- the first of the rows that were left is taken, and this is what it names
pub record IsNextRow (old : List RowParts) (name : RowName) (new : List RowParts) : Type 0 where
  pub row : RowParts
  pub named : name ≡ name_of_row row
  pub first : old ≡ row ∷ new

-- none was left, and none is
abbrev pub AreNoRows : List RowParts → List RowParts → Type 0
AreNoRows old new = (old ≡ []) × (new ≡ [])
