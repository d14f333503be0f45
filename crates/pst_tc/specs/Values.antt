-- What a table context holds ([MS-PST] 2.3.4): a heap with the client signature 0x7C, whose user root names TCINFO; the row index,
-- a BTH of the numbers of rows under their identifiers; and the row matrix: none, an item of the heap, or the data of a subnode,
-- each of whose blocks has as many whole rows as fit into 8,176 bytes (2.3.4.4).
use Rattle.std.specs.Prelude.{◌≡◌, ℕ, ◌+◌, ◌-◌, ◌*◌, ◌/◌, ◌%◌, nat_le, List, map, Option, Some, None, slice_get, if◌then◌else◌}
use Rattle.pst_bytes.specs.declared.span.Span.{Span}
use Rattle.pst_bytes.specs.Image.{num}
use Rattle.pst_block.specs.Table.{Table}
use Rattle.pst_btree.specs.Entries.{first_with}
use Rattle.pst_datatree.specs.Data.{data_spans}
use Rattle.pst_ndb.specs.Roots.{Roots, subnode_of}
use Rattle.pst_heap.specs.Values.{heap_at, user_root_of, item_of}
use Rattle.pst_bth.specs.declared.sizes.Sizes.{Sizes}
use Rattle.pst_bth.specs.Rows.{sizes_of}
use Rattle.pst_bth.specs.Values.{bth_records}
use Rattle.pst_value.specs.declared.hnid.Hnid.{Hnid}
use Rattle.pst_value.specs.declared.hnid.Hnid.TheVariants.{Nothing, Item, Subnode}
use Rattle.pst_value.specs.Hnid.{hnid_of}
use Rattle.pst_value.specs.Values.{one_span, value_spans}
use Rattle.pst_tc.specs.Info.{row_size, index_hid, matrix_hnid, column_places, column_tag, column_kind, column_start, column_width, column_bit, cell_span, is_present, is_typed}

abbrev pub tc_client : ℕ
tc_client = 0x7C

abbrev pub span_or_empty : Option Span → Span
span_or_empty None = record { at = 0; len = 0 }
span_or_empty (Some s) = s

-- TCINFO
unfoldable pub info_of : Table → Roots → Span
info_of t r = let h = heap_at t r in span_or_empty (item_of h (user_root_of h))

-- ---- the row index: its records, each the identifier of a row, and the span of its number

abbrev pub tc_sizes : Sizes
tc_sizes = sizes_of 4 4

unfoldable pub tc_records : Table → Roots → Span → List (ℕ × Span)
tc_records t r s = bth_records (heap_at t r) tc_sizes (index_hid t.image s)

-- where a record begins
abbrev pub row_record_place : Span → ℕ
row_record_place s = s.at - 4

-- ---- the row matrix

-- the row with a number among those of so many bytes in a span
unfoldable pub row_of_span : ℕ → ℕ → Span → Option Span
row_of_span size n s = if nat_le (n * size + size) s.len then Some (record { at = s.at + n * size; len = size }) else None

abbrev pub row_or_none : ℕ → ℕ → Option Span → Option Span
row_or_none size n None = None
row_or_none size n (Some s) = row_of_span size n s

-- how many rows a block has
abbrev pub rows_per_block : ℕ → ℕ
rows_per_block size = 8176 / size

-- the row with a number among those of blocks: no row lies in two of them
abbrev pub row_of_blocks : ℕ → ℕ → List Span → Option Span
row_of_blocks size n spans = let m = rows_per_block size in row_or_none size (n % m) (slice_get spans (n / m))

abbrev pub row_of_data : Table → ℕ → ℕ → Option Roots → Option Span
row_of_data t size n None = None
row_of_data t size n (Some x) = row_of_blocks size n (data_spans t x.bid_data)

-- the row with a number in the matrix that an HNID names
abbrev pub row_under : Table → Roots → ℕ → ℕ → Hnid → Option Span
row_under t r size n Nothing = None
row_under t r size n (Item hid) = row_or_none size n (item_of (heap_at t r) hid)
row_under t r size n (Subnode nid) = row_of_data t size n (subnode_of t r nid)

unfoldable pub row_of_matrix : Table → Roots → ℕ → ℕ → ℕ → Option Span
row_of_matrix t r hnid size n = row_under t r size n (hnid_of hnid)

-- the row of a record of the row index
unfoldable pub row_of_record : Table → Roots → Span → ℕ × Span → Option Span
row_of_record t r s x = row_of_matrix t r (matrix_hnid t.image s) (row_size t.image s) (num t.image x.1.at 4)

-- ---- the columns

-- what is told of one: its tag, where its cells begin in a row, how many bytes they have, which bit says that they are there, and
-- where the column stands in the file
pub record ColumnParts : Type 0 where
  pub tag : ℕ
  pub at : ℕ
  pub width : ℕ
  pub bit : ℕ
  pub place : ℕ

abbrev pub tag_of_column : ColumnParts → ℕ
tag_of_column c = c.tag

-- of the column at a place
abbrev pub column_parts_at : List ℕ → ℕ → ColumnParts
column_parts_at I c =
    record { tag = column_tag I c; at = column_start I c; width = column_width I c; bit = column_bit I c; place = c }

-- all columns, in order
unfoldable pub tc_columns : Table → Roots → List ColumnParts
tc_columns t r = map (column_parts_at t.image) (column_places t.image (info_of t r))

-- of the columns with its tag it is the first
abbrev pub IsFirstColumn : Table → Roots → ColumnParts → Type 0
IsFirstColumn t r c = first_with tag_of_column c.tag (tc_columns t r) ≡ Some c

-- ---- the rows

-- what is told of one: its identifier, where its record in the row index begins, and where the row lies
pub record RowParts : Type 0 where
  pub id : ℕ
  pub at : ℕ
  pub place : Span

abbrev pub row_id_of : RowParts → ℕ
row_id_of x = x.id

-- of a record of the row index
abbrev pub row_parts_at : Table → Roots → ℕ × Span → RowParts
row_parts_at t r x = record { id = x.0; at = row_record_place x.1; place = span_or_empty (row_of_record t r (info_of t r) x) }

-- all rows, identifiers rising
unfoldable pub tc_rows : Table → Roots → List RowParts
tc_rows t r = map (row_parts_at t r) (tc_records t r (info_of t r))

-- ---- the cells of a row, which begins at a place

-- the spans of the cell of a column: those of a value or, where the column is opaque, the cell itself
unfoldable pub cell_spans : Table → Roots → ℕ → ℕ → List Span
cell_spans t r row c =
    let cell = cell_span t.image row c in
    if is_typed t.image c then value_spans t r (column_kind t.image c) cell else one_span cell

-- none where the cell is absent
abbrev pub present_spans : Table → Roots → ℕ → ℕ → Option (List Span)
present_spans t r row c = if is_present t.image (info_of t r) row c then Some (cell_spans t r row c) else None

abbrev pub spans_in_column : Table → Roots → ℕ → Option ℕ → Option (List Span)
spans_in_column t r row None = None
spans_in_column t r row (Some c) = present_spans t r row c

-- of the first column with a tag; none where there is none, or the cell is absent
unfoldable pub tc_cell : Table → Roots → ℕ → ℕ → Option (List Span)
tc_cell t r row tag = spans_in_column t r row (first_with (column_tag t.image) tag (column_places t.image (info_of t r)))
