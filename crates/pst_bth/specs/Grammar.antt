-- What a BTH is ([MS-PST] 2.3.2): a tree of items, and which records it has. It speaks of no fault.
use Rattle.std.specs.Prelude.{◌≡◌, ◌≢◌, ℕ, zero, suc, ◌+◌, ◌<◌, ◌⊎◌, true, List, [], ◌∷◌, ◌++◌, map, Option, Some, None}
use Rattle.pst_bytes.specs.declared.span.Span.{Span}
use Rattle.pst_btree.specs.Order.{Rises}
use Rattle.pst_heap.specs.Values.{HeapData, item_of}
use Rattle.pst_bth.specs.declared.sizes.Sizes.{Sizes}
use Rattle.pst_bth.specs.Rows.{leaf_size, branch_size, row_key, row_count, rows_at, next_row_key}
use Rattle.pst_bth.specs.Values.{levels_in, root_place, root_in, has_bth_header, item_at, record_at}

-- what an item is that is named at a place, under its bounds, with these records below it
abbrev pub BthItem : Type 1
BthItem = ℕ → ℕ → Option ℕ → List ℕ → Type 0

-- The items that records name, from left to right: the keys below a record are at least its own, and below the next record's
-- or, for the last one, below the bound of the item. Their records, joined.
abbrev pub AreBelow : List ℕ → ℕ → BthItem → Option ℕ → List ℕ → List ℕ → Type 0
AreBelow I cb Is high [] rows = rows ≡ []
AreBelow I cb Is high (at ∷ rest) rows =
    (front behind : List ℕ) × Is (at + cb) (row_key I cb at) (next_row_key I cb rest high) front × AreBelow I cb Is high rest behind × (rows ≡ front ++ behind)

-- a leaf: its keys rise within the bounds
abbrev pub IsBthLeaf : HeapData → Sizes → BthItem
IsBthLeaf h z named low high rows =
    (s : Span) × (item_at h named ≡ Some s) × (rows ≡ rows_at (leaf_size z) s) × Rises low high (map (row_key h.image z.key) rows)

-- a branch: it has a record, its keys rise within the bounds, and each record names an item
abbrev pub IsBthBranch : HeapData → Sizes → BthItem → BthItem
IsBthBranch h z Is named low high rows =
    (s : Span) × (item_at h named ≡ Some s) × (0 < row_count (branch_size z) s)
    × Rises low high (map (row_key h.image z.key) (rows_at (branch_size z) s)) × AreBelow h.image z.key Is high (rows_at (branch_size z) s) rows

-- an item with so many levels below it
unfoldable pub IsBthTree : HeapData → Sizes → ℕ → BthItem
IsBthTree h z zero = IsBthLeaf h z
IsBthTree h z (suc level) = IsBthBranch h z (IsBthTree h z level)

-- the items below the header: none where hidRoot is 0
abbrev pub IsBthRoot : HeapData → Sizes → Span → List ℕ → Type 0
IsBthRoot h z s rows =
    ((root_in h.image s ≡ 0) × (rows ≡ [])) ⊎ ((root_in h.image s ≢ 0) × IsBthTree h z (levels_in h.image s) (root_place s) 0 None rows)

-- a BTH whose header item has this identifier, with these records
abbrev pub IsBth : HeapData → Sizes → ℕ → List (ℕ × Span) → Type 0
IsBth h z hid records =
    (s : Span) × (item_of h hid ≡ Some s) × (has_bth_header h.image z s ≡ true)
    × ((rows : List ℕ) × IsBthRoot h z s rows × (records ≡ map (record_at h.image z) rows))
