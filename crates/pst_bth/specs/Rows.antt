-- The records of an item of a BTH ([MS-PST] 2.3.2.2, 2.3.2.3), each by its place in the file. A record begins with its key, a
-- little-endian number. Bytes behind the last whole record say nothing.
use Rattle.std.specs.Prelude.{ℕ, ◌+◌, ◌-◌, ◌*◌, ◌/◌, Bool, ◌||◌, nat_eq, List, [], ◌∷◌, Option, Some}
use Rattle.pst_bytes.specs.declared.span.Span.{Span}
use Rattle.pst_bytes.specs.Image.{num}
use Rattle.pst_page.specs.Page.{places}
use Rattle.pst_bth.specs.declared.sizes.Sizes.{Sizes}

-- ---- how many bytes keys and records take

-- 2 or 4, the keys that properties and rows of tables have
unfoldable pub is_key_size : ℕ → Bool
is_key_size cb = nat_eq cb 2 || nat_eq cb 4

-- cbKey and cbEnt
abbrev pub sizes_of : ℕ → ℕ → Sizes
sizes_of cb_key cb_ent = record { key = cb_key; ent = cb_ent }

-- a record of a leaf is a key and data, one of a branch a key and the identifier of an item
abbrev pub leaf_size : Sizes → ℕ
leaf_size z = z.key + z.ent

abbrev pub branch_size : Sizes → ℕ
branch_size z = z.key + 4

-- ---- the records of an item

-- the key of the record at a place, of so many bytes
unfoldable pub row_key : List ℕ → ℕ → ℕ → ℕ
row_key I cb at = num I at cb

-- how many records of a size an item has
unfoldable pub row_count : ℕ → Span → ℕ
row_count size s = s.len / size

-- the place of record i
abbrev pub row_place : ℕ → Span → ℕ → ℕ
row_place size s i = s.at + i * size

-- the places of all records, first to last
unfoldable pub rows_at : ℕ → Span → List ℕ
rows_at size s = places s.at size (row_count size s)

-- those from record i on
unfoldable pub rows_from : ℕ → Span → ℕ → List ℕ
rows_from size s i = places (row_place size s i) size (row_count size s - i)

-- the bound of the keys below a record: the next record's key, or the bound of the item
abbrev pub next_row_key : List ℕ → ℕ → List ℕ → Option ℕ → Option ℕ
next_row_key I cb [] high = high
next_row_key I cb (at ∷ rest) high = Some (row_key I cb at)
