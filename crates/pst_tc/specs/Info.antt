-- TCINFO ([MS-PST] 2.3.4.1), the item that the user root of a table context names: bType, a byte, 0x7C; cCols, a byte; four end
-- offsets in a row, of 2 bytes each: behind the cells of 4 and 8 bytes, of 2 bytes, of 1 byte, and behind the bits; hidRowIndex, 4
-- bytes; hnidRows, 4 bytes; hidIndex, 4 bytes; then cCols columns (TCOLDESC, 2.3.4.2) of 8 bytes: tag, 4 bytes, the type in the low
-- half; ibData, 2 bytes; cbData, a byte; iBit, a byte.
use Rattle.std.specs.Prelude.{ℕ, zero, suc, ◌+◌, ◌-◌, ◌*◌, ◌/◌, ◌%◌, ◌^◌, Bool, false, ◌&&◌, nat_eq, nat_le, nat_lt, List, [], ◌∷◌, Option, Some, None}
use Rattle.pst_bytes.specs.declared.span.Span.{Span}
use Rattle.pst_bytes.specs.Image.{num}
use Rattle.pst_value.specs.Class.{cell_width_of}

-- ---- the fields of TCINFO, the item s

abbrev pub column_count : List ℕ → Span → ℕ
column_count I s = num I (s.at + 1) 1

abbrev pub ones_end : List ℕ → Span → ℕ
ones_end I s = num I (s.at + 6) 2

-- how many bytes a row has
unfoldable pub row_size : List ℕ → Span → ℕ
row_size I s = num I (s.at + 8) 2

-- where the identifier of the row index stands, and what it is
abbrev pub index_place : Span → ℕ
index_place s = s.at + 10

abbrev pub index_hid : List ℕ → Span → ℕ
index_hid I s = num I (index_place s) 4

-- where that of the row matrix stands, and what it is
abbrev pub matrix_place : Span → ℕ
matrix_place s = s.at + 14

abbrev pub matrix_hnid : List ℕ → Span → ℕ
matrix_hnid I s = num I (matrix_place s) 4

-- it has room for its columns, and the end offsets rise
unfoldable pub is_info : List ℕ → Span → Bool
is_info I s =
    nat_le 22 s.len && nat_eq (num I s.at 1) 0x7C && nat_le (22 + 8 * column_count I s) s.len && nat_le 4 (num I (s.at + 2) 2)
    && nat_le (num I (s.at + 2) 2) (num I (s.at + 4) 2) && nat_le (num I (s.at + 4) 2) (ones_end I s) && nat_le (ones_end I s) (row_size I s)
    && nat_le (row_size I s) 8176

-- ---- a column, at a place

abbrev pub column_place : Span → ℕ → ℕ
column_place s i = s.at + 22 + 8 * i

-- the places of so many columns, from the one with a number on
unfoldable pub columns_from : Span → ℕ → ℕ → List ℕ
columns_from s i zero = []
columns_from s i (suc n) = column_place s i ∷ columns_from s (i + 1) n

-- of all columns
abbrev pub column_places : List ℕ → Span → List ℕ
column_places I s = columns_from s 0 (column_count I s)

abbrev pub column_tag : List ℕ → ℕ → ℕ
column_tag I c = num I c 4

-- the low half of the tag
abbrev pub column_kind : List ℕ → ℕ → ℕ
column_kind I c = num I c 2

abbrev pub column_start : List ℕ → ℕ → ℕ
column_start I c = num I (c + 4) 2

abbrev pub column_width : List ℕ → ℕ → ℕ
column_width I c = num I (c + 6) 1

abbrev pub column_bit : List ℕ → ℕ → ℕ
column_bit I c = num I (c + 7) 1

-- its cells and their bits lie in a row
unfoldable pub is_column : List ℕ → Span → ℕ → Bool
is_column I s c = nat_le (column_start I c + column_width I c) (row_size I s) && nat_lt (ones_end I s + column_bit I c / 8) (row_size I s)

-- ---- a cell: of the column at a place c, in the row that begins at a place

-- its bit in the row is set: the most significant bit of a byte is the first
unfoldable pub is_present : List ℕ → Span → ℕ → ℕ → Bool
is_present I s row c = nat_eq (num I (row + ones_end I s + column_bit I c / 8) 1 / 2 ^ (7 - column_bit I c % 8) % 2) 1

abbrev pub cell_span : List ℕ → ℕ → ℕ → Span
cell_span I row c = record { at = row + column_start I c; len = column_width I c }

abbrev pub has_width : Option ℕ → ℕ → Bool
has_width None n = false
has_width (Some w) n = nat_eq w n

-- its column has the width that its type has in a table; else the column is opaque, its cells are only their bytes
unfoldable pub is_typed : List ℕ → ℕ → Bool
is_typed I c = has_width (cell_width_of (column_kind I c)) (column_width I c)
