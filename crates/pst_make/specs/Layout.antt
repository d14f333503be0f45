-- Where the pages and blocks of a store lie that is made, and where the last one ends.
use Rattle.std.specs.Prelude.{ℕ, zero, suc, ◌+◌, ◌-◌, ◌*◌, ◌/◌, ◌%◌, ◌≤◌, ◌<◌, List, [], ◌∷◌, length, max, nat_eq, nat_le, if◌then◌else◌}
use Rattle.std.specs.Int.{div_ceil}
use Rattle.pst_make.specs.declared.layout.Bref.{Bref}
use Rattle.pst_make.specs.declared.layout.BlockPlace.{BlockPlace}
use Rattle.pst_make.specs.declared.layout.PlacedBlock.{PlacedBlock}
use Rattle.pst_make.specs.declared.layout.TheConstants.{FIRST_MAP, REGION}
use Rattle.pst_make.specs.declared.plan.BlockPlan.{BlockPlan}
use Rattle.pst_make.specs.declared.plan.MakeFault.{MakeFault}
use Rattle.pst_make.specs.declared.plan.MakeFault.TheVariants.{TooLarge, Body, Memory}
use Rattle.pst_make.specs.declared.plan.Plan.{Plan}
use Rattle.pst_make.specs.Plan.{body_length, body_lengths}
use Rattle.pst_make.specs.Sealed.{sealed_size}

-- ---- regions ([MS-PST] 2.2.2.7.2)

-- Allocation map j stands at the start of region j. A region has REGION bytes.
abbrev pub map_place : ℕ → ℕ
map_place j = FIRST_MAP + REGION * j

-- the region of a place
abbrev pub region_of : ℕ → ℕ
region_of at = (at - FIRST_MAP) / REGION

-- Behind the allocation map, and the page map that follows each eighth one from the first on, a region is free.
abbrev pub free_from : ℕ → ℕ
free_from j = map_place j + (if nat_eq (j % 8) 0 then 1024 else 512)

-- where a store ends at the latest: behind 16 regions
abbrev pub store_limit : ℕ
store_limit = 4080640

-- ---- placing

-- The next structure of so many bytes lies at the cursor, behind the maps of its region; where the region has no
-- room left, behind those of the next one.
unfoldable pub place_of : ℕ → ℕ → ℕ
place_of next size =
    let j = region_of next in
    let at = max next (free_from j) in
    if nat_le (at + size) (map_place (j + 1)) then at else free_from (j + 1)

-- the cursor behind it
abbrev pub after : ℕ → ℕ → ℕ
after next size = place_of next size + size

-- the cursor behind n pages
abbrev pub after_pages : ℕ → ℕ → ℕ
after_pages next zero = next
after_pages next (suc n) = after_pages (after next 512) n

-- the cursor behind blocks with bodies of these lengths
abbrev pub after_blocks : ℕ → List ℕ → ℕ
after_blocks next [] = next
after_blocks next (cb ∷ rest) = after_blocks (after next (sealed_size cb)) rest

-- ---- B-trees ([MS-PST] 2.2.2.7.7)

-- how many pages n entries fill; where there is no entry, one page is empty
abbrev pub pages_for : ℕ → ℕ → ℕ
pages_for capacity n = max 1 (div_ceil n capacity)

-- how many branch pages stand right above n pages; above the root there is none
abbrev pub pages_above : ℕ → ℕ
pages_above n = if nat_le n 1 then 0 else pages_for 20 n

-- how many branch pages at most so many levels have above n pages
unfoldable pub branch_pages : ℕ → ℕ → ℕ
branch_pages zero n = 0
branch_pages (suc levels) n = pages_above n + branch_pages levels (pages_above n)

-- how many pages a tree of n entries has: leaves, and at most 15 levels of branches above them
unfoldable pub tree_pages : ℕ → ℕ → ℕ
tree_pages capacity n = pages_for capacity n + branch_pages 15 (pages_for capacity n)

-- ---- the whole store

-- Where the last block or page ends: from 0x4800 the pages of the node B-tree, whose leaves have 15 entries, those of
-- the block B-tree, whose leaves have 20, and the blocks.
unfoldable pub layout_end : ℕ → List ℕ → ℕ
layout_end nodes lengths =
    after_blocks (after_pages (after_pages 18432 (tree_pages 15 nodes)) (tree_pages 20 (length lengths))) lengths

abbrev pub plan_end : Plan → ℕ
plan_end plan = layout_end (length plan.nodes.items) (body_lengths plan.blocks.items)

-- where blocks lie from the cursor on
abbrev pub places_from : ℕ → List BlockPlan → List BlockPlace
places_from next [] = []
places_from next (block ∷ rest) =
    record { bid = block.bid; ib = place_of next (sealed_size (body_length block)); cb = body_length block } ∷ places_from (after next (sealed_size (body_length block))) rest

-- where the blocks of a plan lie
unfoldable pub block_places : Plan → List BlockPlace
block_places plan =
    places_from (after_pages (after_pages 18432 (tree_pages 15 (length plan.nodes.items))) (tree_pages 20 (length (body_lengths plan.blocks.items)))) plan.blocks.items

-- a store is whole regions, up to the one where the last structure ends
abbrev pub store_length : ℕ → ℕ
store_length end = FIRST_MAP + REGION * div_ceil (end - FIRST_MAP) REGION

-- ---- what was placed

-- where a block lies, without its body
abbrev pub place_of_block : PlacedBlock → BlockPlace
place_of_block block = record { bid = block.bid; ib = block.ib; cb = length block.body.now }

-- a page, or a block, ends at or before this place
abbrev pub IsPageBelow : ℕ → Bref → Type 0
IsPageBelow end page = (FIRST_MAP ≤ page.ib) × (page.ib + 512 ≤ end)

abbrev pub IsBlockBelow : ℕ → PlacedBlock → Type 0
IsBlockBelow end block = (FIRST_MAP ≤ block.ib) × (length block.body.now ≤ 8176) × (block.ib + sealed_size (length block.body.now) ≤ end)

-- Placing fails only where what is placed ends behind the limit, or where memory was refused.
abbrev pub IsPlaceFault : ℕ → MakeFault → Type 0
IsPlaceFault end TooLarge = store_limit < end
IsPlaceFault end Body = ⊥
IsPlaceFault end Memory = Unit {0}
