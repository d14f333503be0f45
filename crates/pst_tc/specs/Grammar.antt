-- The grammar of table contexts ([MS-PST] 2.3.4). It speaks of no fault.
use Rattle.std.specs.Prelude.{◌≡◌, ℕ, ◌<◌, true, List, Some}
use Rattle.std.specs.List.{Contains}
use Rattle.pst_bytes.specs.declared.span.Span.{Span}
use Rattle.pst_bytes.specs.Image.{num}
use Rattle.pst_block.specs.Table.{Table}
use Rattle.pst_ndb.specs.Roots.{Roots}
use Rattle.pst_heap.specs.Values.{heap_at, client_of, user_root_of, item_of}
use Rattle.pst_heap.specs.Grammar.{IsHeap}
use Rattle.pst_bth.specs.Grammar.{IsBth}
use Rattle.pst_value.specs.Grammar.{HasHnid, HasValue}
use Rattle.pst_tc.specs.Info.{column_count, index_hid, matrix_hnid, is_info, is_column, column_place, column_kind, cell_span, is_present, is_typed}
use Rattle.pst_tc.specs.Values.{tc_client, tc_sizes, row_of_record}

-- a cell that is present, of a column with the width of its type, has a value
abbrev pub HasCell : Table → Roots → Span → ℕ → ℕ → Type 0
HasCell t r s row c =
    is_present t.image s row c ≡ true → is_typed t.image c ≡ true →
    (spans : List Span) × HasValue t r (column_kind t.image c) (cell_span t.image row c) spans

-- the row of a record of the row index is in the matrix, begins with its identifier, and its cells have values
abbrev pub HasRow : Table → Roots → Span → ℕ × Span → Type 0
HasRow t r s x =
    (row : Span) × (row_of_record t r s x ≡ Some row) × (num t.image row.at 4 ≡ x.0)
    × ((i : ℕ) → i < column_count t.image s → HasCell t r s row.at (column_place s i))

-- TCINFO, its columns, and what it names: a row index, a matrix or none, and the rows of these records
pub record HasRows (t : Table) (r : Roots) (s : Span) (records : List (ℕ × Span)) : Type 0 where
  pub info : is_info t.image s ≡ true
  pub columns : (i : ℕ) → i < column_count t.image s → is_column t.image s (column_place s i) ≡ true
  pub index : IsBth (heap_at t r) tc_sizes (index_hid t.image s) records
  pub matrix : (spans : List Span) × HasHnid t r (matrix_hnid t.image s) spans
  pub rows : (x : ℕ × Span) → Contains records x → HasRow t r s x

-- a heap with the client signature of table contexts, whose user root names TCINFO
pub record HasTc (t : Table) (r : Roots) (s : Span) (records : List (ℕ × Span)) : Type 0 where
  pub heap : IsHeap (heap_at t r)
  pub client : client_of (heap_at t r) ≡ tc_client
  pub item : item_of (heap_at t r) (user_root_of (heap_at t r)) ≡ Some s
  pub body : HasRows t r s records

abbrev pub IsTc : Table → Roots → Type 0
IsTc t r = (s : Span) × (records : List (ℕ × Span)) × HasTc t r s records
