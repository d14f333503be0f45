-- What the look-ups of a table context answer, in the words of the file that it is of: its grammar, its blocks, its memory.
use Rattle.std.specs.Prelude.{◌≡◌, ℕ, length, Option, IfSome, option_map}
use Rattle.std.specs.Iterator.{YieldsFirstBy}
use Rattle.pst_bytes.specs.declared.Image.{Image}
use Rattle.pst_block.specs.Table.{Table}
use Rattle.pst_btree.specs.Entries.{first_with}
use Rattle.pst_datatree.specs.declared.value_view.Value.{Value}
use Rattle.pst_ndb.specs.Roots.{Roots}
use Rattle.pst_ndb.specs.Views.{image_of_node, table_of_node, roots_of}
use Rattle.pst_value.specs.View.{IsValueOf}
use Rattle.pst_tc.specs.declared.tc.Tc.{Tc}
use Rattle.pst_tc.specs.declared.columns.Columns.{Columns}
use Rattle.pst_tc.specs.declared.row.Row.{Row}
use Rattle.pst_tc.specs.declared.rows.Rows.{Rows}
use Rattle.pst_tc.specs.Grammar.{IsTc}
use Rattle.pst_tc.specs.Values.{tc_columns, row_id_of, tc_rows, tc_cell}
use Rattle.pst_tc.specs.Tc.{node_of_tc}
use Rattle.pst_tc.specs.View.{row_parts, tc_of_row}
use Rattle.pst_tc.specs.Left.{columns_left, tc_left, tc_rows_left, MayBeRowOf, TakesRow}

-- ---- the clauses of the look-ups: `columns`, `rows`, `row_count`, `row`, and `cell` of a row

abbrev pub GivesColumns : Tc → Columns → Type 0
GivesColumns tc all = let node = node_of_tc tc in columns_left all ≡ tc_columns (table_of_node node) (roots_of node)

abbrev pub GivesRows : Tc → Rows → Type 0
GivesRows tc all =
    let node = node_of_tc tc in (tc_rows_left all ≡ tc_rows (table_of_node node) (roots_of node)) × (tc_left all ≡ tc)

abbrev pub GivesRowCount : Tc → ℕ → Type 0
GivesRowCount tc n = let node = node_of_tc tc in n ≡ length (tc_rows (table_of_node node) (roots_of node))

abbrev pub GivesRow : Tc → ℕ → Option Row → Type 0
GivesRow tc id found =
    let node = node_of_tc tc in
    (option_map row_parts found ≡ first_with row_id_of id (tc_rows (table_of_node node) (roots_of node)))
    × IfSome found (λ row. tc_of_row row ≡ tc)

abbrev pub GivesCell : Row → ℕ → Option Value → Type 0
GivesCell row tag found =
    let node = node_of_tc (tc_of_row row) in
    IsValueOf (image_of_node node) (tc_cell (table_of_node node) (roots_of node) (row_parts row).place.at tag) found

-- ---- what they are then

pub record TcLookUps (file : Image) (t : Table) (r : Roots) (tc : Tc) : Type 0 where
  -- it is a table context by the grammar
  pub context : IsTc t r
  -- `columns`: all of them, in order
  pub columns : (all : Columns) → GivesColumns tc all → columns_left all ≡ tc_columns t r
  -- `rows`: all of them, in order; how many there are; and each that the iterator yields
  pub rows : (all : Rows) → GivesRows tc all → (tc_rows_left all ≡ tc_rows t r) × (tc_left all ≡ tc)
  pub row_count : (n : ℕ) → GivesRowCount tc n → n ≡ length (tc_rows t r)
  pub next : (old new : Rows) (taken : Option Row) → tc_left old ≡ tc → TakesRow old taken new →
      YieldsFirstBy row_parts tc_rows_left old taken new × MayBeRowOf tc taken × (tc_left new ≡ tc)
  -- `row`: the row with an identifier; None exactly where the table has none
  pub row : (id : ℕ) (found : Option Row) → GivesRow tc id found →
      (option_map row_parts found ≡ first_with row_id_of id (tc_rows t r)) × IfSome found (λ row. tc_of_row row ≡ tc)
  -- `cell`, and `cell_in` for the tag of its column: the value of a row's cell in the first column with a tag, lent from the file;
  -- None exactly where it has none
  pub cell : (row : Row) (tag : ℕ) (found : Option Value) → tc_of_row row ≡ tc → GivesCell row tag found →
      IsValueOf file (tc_cell t r (row_parts row).place.at tag) found

-- so it is of every table context
abbrev pub TcLookUpsLaw : Type 0
TcLookUpsLaw =
    (tc : Tc) → let node = node_of_tc tc in TcLookUps (image_of_node node) (table_of_node node) (roots_of node) tc
