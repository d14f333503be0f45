-- The first fault of a table context: the heap, its client signature, TCINFO, its columns in order, the row index, the row matrix;
-- then for each record of the row index its row, and the cells of that in the order of the columns.
use Rattle.std.specs.Prelude.{ℕ, nat_eq, List, Option, None, option_map, if◌then◌else◌}
use Rattle.pst_bytes.specs.declared.span.Span.{Span}
use Rattle.pst_bytes.specs.Image.{num}
use Rattle.pst_fault.specs.declared.fault.Fault.{Fault}
use Rattle.pst_fault.specs.declared.kind.Kind.TheVariants.{Table as BadTable}
use Rattle.pst_fault.specs.Fault.{fault_at}
use Rattle.pst_fault.specs.First.{◌then◌, holds_or, first_below}
use Rattle.pst_fault.specs.Each.{first_of, there_or}
use Rattle.pst_block.specs.Table.{Table}
use Rattle.pst_ndb.specs.Roots.{Roots}
use Rattle.pst_heap.specs.Values.{heap_at, user_root_of, user_root_place, item_of}
use Rattle.pst_heap.specs.Fault.{heap_fault, client_fault, item_or, told_under}
use Rattle.pst_bth.specs.Fault.{bth_fault}
use Rattle.pst_value.specs.Values.{hnid_spans}
use Rattle.pst_value.specs.Fault.{missing_at, value_fault}
use Rattle.pst_tc.specs.Info.{column_count, index_place, index_hid, matrix_place, matrix_hnid, is_info, column_place, column_kind, is_column, is_present, cell_span, is_typed}
use Rattle.pst_tc.specs.Values.{tc_client, tc_sizes, tc_records, row_record_place, row_of_record}

-- ---- TCINFO

-- of a column: told at the column
unfoldable pub column_fault : List ℕ → Span → ℕ → Option Fault
column_fault I s i = holds_or (is_column I s (column_place s i)) (fault_at BadTable (column_place s i))

-- of TCINFO and its columns: told at TCINFO
unfoldable pub info_fault : List ℕ → Span → Option Fault
info_fault I s = holds_or (is_info I s) (fault_at BadTable s.at) then first_below (column_fault I s) (column_count I s)

-- ---- a row

-- of the cell of a column in a row: none where it is absent or its column is opaque
unfoldable pub cell_fault : Table → Roots → Span → ℕ → ℕ → Option Fault
cell_fault t r s row c =
    if is_present t.image s row c
    then (if is_typed t.image c then value_fault t r (column_kind t.image c) (cell_span t.image row c).at (cell_span t.image row c) else None)
    else None

-- of the cells of a row, in the order of their columns
unfoldable pub cells_fault : Table → Roots → Span → ℕ → Option Fault
cells_fault t r s row = first_below (λ i. cell_fault t r s row (column_place s i)) (column_count t.image s)

abbrev pub bad_row : ℕ × Span → Fault
bad_row x = fault_at BadTable (row_record_place x.1)

-- of a row: it begins with its identifier, and its cells have values
abbrev pub row_fault : Table → Roots → Span → ℕ × Span → Span → Option Fault
row_fault t r s x row = holds_or (nat_eq (num t.image row.at 4) x.0) (bad_row x) then cells_fault t r s row.at

-- of a record of the row index: its row is in the matrix; told at the record
unfoldable pub row_record_fault : Table → Roots → Span → ℕ × Span → Option Fault
row_record_fault t r s x = there_or (bad_row x) (row_fault t r s x) (row_of_record t r s x)

-- ---- the whole

abbrev pub no_fault : List Span → Option Fault
no_fault spans = None

-- of the matrix: its HNID is 0, or names an item or a subnode
unfoldable pub matrix_fault : Table → Roots → Span → Option Fault
matrix_fault t r s = there_or (missing_at (matrix_place s) (matrix_hnid t.image s)) no_fault (hnid_spans t r (matrix_hnid t.image s))

-- of TCINFO and all that it names
unfoldable pub tc_body_fault : Table → Roots → Span → Option Fault
tc_body_fault t r s =
    info_fault t.image s then bth_fault (heap_at t r) tc_sizes (index_place s) (index_hid t.image s) then matrix_fault t r s
    then first_of (row_record_fault t r s) (tc_records t r s)

-- of the heap, of its client signature, and of TCINFO with all that it names; told of no node
unfoldable pub untold_tc_fault : Table → Roots → Option Fault
untold_tc_fault t r =
    heap_fault (heap_at t r) then client_fault tc_client (heap_at t r)
    then item_or (user_root_place (heap_at t r)) (tc_body_fault t r) (item_of (heap_at t r) (user_root_of (heap_at t r)))

-- of the table context of a node
unfoldable pub tc_fault : Table → Roots → Option Fault
tc_fault t r = option_map (told_under r) (untold_tc_fault t r)
