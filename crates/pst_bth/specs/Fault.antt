-- The first fault of a BTH ([MS-PST] 2.3.2): its header item, then item by item from the root on, an item before those that its
-- records name, these from left to right.
--
-- A fault is told of no context here: whoever checks the heap of a node sets it.
use Rattle.std.specs.Prelude.{ℕ, zero, suc, ◌+◌, ◌&&◌, nat_eq, nat_le, nat_lt, List, [], ◌∷◌, Option, Some, None, if◌then◌else◌}
use Rattle.pst_bytes.specs.declared.span.Span.{Span}
use Rattle.pst_fault.specs.declared.fault.Fault.{Fault}
use Rattle.pst_fault.specs.declared.kind.Kind.TheVariants.{Bth}
use Rattle.pst_fault.specs.Fault.{fault_at}
use Rattle.pst_fault.specs.First.{◌then◌, holds_or}
use Rattle.pst_btree.specs.Order.{is_below}
use Rattle.pst_heap.specs.Values.{HeapData, item_of}
use Rattle.pst_heap.specs.Fault.{item_or}
use Rattle.pst_bth.specs.declared.sizes.Sizes.{Sizes}
use Rattle.pst_bth.specs.Rows.{leaf_size, branch_size, row_key, row_count, rows_at, next_row_key}
use Rattle.pst_bth.specs.Values.{levels_in, root_place, root_in, has_bth_header, item_at}

-- a breach of the rules in an item; told where it lies
abbrev pub bad_item : Span → Fault
bad_item s = fault_at Bth s.at

-- The first of the records at these places whose key does not rise strictly, is less than low or, where there is a high, is
-- not below it: it is told at the record.
unfoldable pub bth_order_fault : List ℕ → ℕ → ℕ → Option ℕ → List ℕ → Option Fault
bth_order_fault I cb low high [] = None
bth_order_fault I cb low high (at ∷ rest) =
    if nat_le low (row_key I cb at) && is_below (row_key I cb at) high then bth_order_fault I cb (row_key I cb at + 1) high rest
    else Some (fault_at Bth at)

-- what is at fault in the item that is named at a place, and below it, under its bounds
abbrev pub BthVisit : Type 0
BthVisit = ℕ → ℕ → Option ℕ → Option Fault

-- of the items that records name, from left to right
unfoldable pub bth_children_fault : List ℕ → ℕ → BthVisit → Option ℕ → List ℕ → Option Fault
bth_children_fault I cb visit high [] = None
bth_children_fault I cb visit high (at ∷ rest) =
    visit (at + cb) (row_key I cb at) (next_row_key I cb rest high) then bth_children_fault I cb visit high rest

-- a leaf: the order of its keys
unfoldable pub bth_leaf_fault : HeapData → Sizes → ℕ → Option ℕ → Span → Option Fault
bth_leaf_fault h z low high s = bth_order_fault h.image z.key low high (rows_at (leaf_size z) s)

-- a branch: that it has a record, the order of its keys
unfoldable pub bth_branch_fault : HeapData → Sizes → ℕ → Option ℕ → Span → Option Fault
bth_branch_fault h z low high s =
    holds_or (nat_lt 0 (row_count (branch_size z) s)) (bad_item s) then bth_order_fault h.image z.key low high (rows_at (branch_size z) s)

-- and then the items that its records name
unfoldable pub bth_below_fault : HeapData → Sizes → BthVisit → ℕ → Option ℕ → Span → Option Fault
bth_below_fault h z visit low high s =
    bth_branch_fault h z low high s then bth_children_fault h.image z.key visit high (rows_at (branch_size z) s)

-- the item that is named at a place, which has so many levels below it
unfoldable pub bth_tree_fault : HeapData → Sizes → ℕ → BthVisit
bth_tree_fault h z zero named low high = item_or named (bth_leaf_fault h z low high) (item_at h named)
bth_tree_fault h z (suc level) named low high = item_or named (bth_below_fault h z (bth_tree_fault h z level) low high) (item_at h named)

-- of the items below the header
unfoldable pub bth_root_fault : HeapData → Sizes → Span → Option Fault
bth_root_fault h z s = if nat_eq (root_in h.image s) 0 then None else bth_tree_fault h z (levels_in h.image s) (root_place s) 0 None

-- of the header, and of the items below it
unfoldable pub bth_header_fault : HeapData → Sizes → Span → Option Fault
bth_header_fault h z s = holds_or (has_bth_header h.image z s) (bad_item s) then bth_root_fault h z s

-- of the BTH whose header item has an identifier, named at a place
unfoldable pub bth_fault : HeapData → Sizes → ℕ → ℕ → Option Fault
bth_fault h z named hid = item_or named (bth_header_fault h z) (item_of h hid)
