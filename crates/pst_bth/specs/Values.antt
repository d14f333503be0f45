-- What a BTH holds ([MS-PST] 2.3.2): the fields of its header item (BTHHEADER, 2.3.2.1), and its records, each a key and the
-- span of its data, from the leftmost leaf to the rightmost.
--
-- The header: bType, a byte, 0xB5; cbKey, a byte; cbEnt, a byte; bIdxLevels, a byte, at most 15; hidRoot, 4 bytes, 0 where there
-- are no records. Below it an item is named by an identifier of 4 bytes, by whose place it is told here.
use Rattle.std.specs.Prelude.{ℕ, zero, suc, ◌+◌, Bool, ◌&&◌, nat_eq, nat_le, List, [], ◌∷◌, ◌++◌, map, Option, Some, None, if◌then◌else◌}
use Rattle.pst_bytes.specs.declared.span.Span.{Span}
use Rattle.pst_bytes.specs.Image.{num}
use Rattle.pst_heap.specs.Values.{HeapData, item_of}
use Rattle.pst_bth.specs.declared.sizes.Sizes.{Sizes}
use Rattle.pst_bth.specs.declared.check.TheConstants.{LEVELS}
use Rattle.pst_bth.specs.Rows.{leaf_size, branch_size, row_key, rows_at}

-- ---- the header

abbrev pub levels_in : List ℕ → Span → ℕ
levels_in I s = num I (s.at + 3) 1

abbrev pub root_place : Span → ℕ
root_place s = s.at + 4

abbrev pub root_in : List ℕ → Span → ℕ
root_in I s = num I (root_place s) 4

unfoldable pub has_bth_header : List ℕ → Sizes → Span → Bool
has_bth_header I z s =
    nat_le 8 s.len && nat_eq (num I s.at 1) 0xB5 && nat_eq (num I (s.at + 1) 1) z.key && nat_eq (num I (s.at + 2) 1) z.ent
    && nat_le (levels_in I s) LEVELS

-- ---- the places of the records

-- the item whose identifier stands at a place
unfoldable pub item_at : HeapData → ℕ → Option Span
item_at h named = item_of h (num h.image named 4)

-- of an item; none where it is missing
abbrev pub rows_or_none : (Span → List ℕ) → Option Span → List ℕ
rows_or_none rows None = []
rows_or_none rows (Some s) = rows s

-- of the items that records name, from left to right
unfoldable pub rows_below : (ℕ → List ℕ) → ℕ → List ℕ → List ℕ
rows_below below cb [] = []
rows_below below cb (at ∷ rest) = below (at + cb) ++ rows_below below cb rest

-- of the item that is named at a place, which has so many levels below it
unfoldable pub tree_rows : HeapData → Sizes → ℕ → ℕ → List ℕ
tree_rows h z zero named = rows_or_none (rows_at (leaf_size z)) (item_at h named)
tree_rows h z (suc level) named = rows_or_none (λ s. rows_below (tree_rows h z level) z.key (rows_at (branch_size z) s)) (item_at h named)

-- of the BTH with a header
unfoldable pub header_rows : HeapData → Sizes → Span → List ℕ
header_rows h z s = if nat_eq (root_in h.image s) 0 then [] else tree_rows h z (levels_in h.image s) (root_place s)

-- ---- the records

-- the key of a record, and the span of its data
abbrev pub record_at : List ℕ → Sizes → ℕ → ℕ × Span
record_at I z at = (row_key I z.key at, record { at = at + z.key; len = z.ent })

abbrev pub record_key : ℕ × Span → ℕ
record_key r = r.0

abbrev pub record_span : ℕ × Span → Span
record_span r = r.1

-- of the BTH with a header, and of that whose header item has an identifier
abbrev pub records_under : HeapData → Sizes → Span → List (ℕ × Span)
records_under h z s = map (record_at h.image z) (header_rows h z s)

unfoldable pub bth_records : HeapData → Sizes → ℕ → List (ℕ × Span)
bth_records h z hid = map (record_at h.image z) (rows_or_none (header_rows h z) (item_of h hid))
