-- The subnode list of a block identifier ([MS-PST] 2.2.2.8.3.3): its entries, and the first fault of its own blocks.
--
-- An SLBLOCK has its entries, an SIBLOCK those of the SLBLOCKs that it names, in order, as often as it names them. Each
-- subnode stands once in its list.
use Rattle.std.specs.Prelude.{ℕ, Bool, true, not, ◌&&◌, nat_eq, Option, Some, None, List, [], ◌∷◌, map, if◌then◌else◌}
use Rattle.std.specs.List.{list_any}
use Rattle.pst_fault.specs.declared.fault.Fault.{Fault}
use Rattle.pst_fault.specs.declared.kind.Kind.TheVariants.{Subnode}
use Rattle.pst_fault.specs.Fault.{fault_in}
use Rattle.pst_fault.specs.First.{◌then◌, holds_or, first_below, join_below}
use Rattle.pst_page.specs.declared.entry.BlockEntry.{BlockEntry}
use Rattle.pst_block.specs.Table.{Table, entry_of, body_of}
use Rattle.pst_datatree.specs.Bid.{is_internal, is_no_block}
use Rattle.pst_datatree.specs.Data.{block_missing}
use Rattle.pst_fault.specs.Each.{there_or}
use Rattle.pst_subnode.specs.declared.sub.Sub.{Sub}
use Rattle.pst_datatree.specs.List.{count_in}
use Rattle.pst_subnode.specs.Body.{leaf_bid_in, is_slblock, is_siblock, has_level_one, subs_in}

-- ---- the entries, where nothing is at fault

-- of the block with an entry; none where it is missing
abbrev pub subs_at : (BlockEntry → List Sub) → Option BlockEntry → List Sub
subs_at subs None = []
subs_at subs (Some e) = subs e

-- of an SLBLOCK; none of another block
unfoldable pub slblock_subs : Table → BlockEntry → List Sub
slblock_subs t e = if is_slblock (body_of t e) then subs_in (body_of t e) else []

-- of the SLBLOCK that an SIBLOCK names with a number
unfoldable pub leaf_subs : Table → List ℕ → ℕ → List Sub
leaf_subs t body i = subs_at (slblock_subs t) (entry_of t (leaf_bid_in body i))

-- of an SIBLOCK
unfoldable pub siblock_subs : Table → BlockEntry → List Sub
siblock_subs t e = let body = body_of t e in if is_siblock body then join_below (leaf_subs t body) (count_in body) else []

-- of a block
unfoldable pub block_subs : Table → BlockEntry → List Sub
block_subs t e = if has_level_one (body_of t e) then siblock_subs t e else slblock_subs t e

-- of a block identifier: none where it names no block
unfoldable pub subs_of : Table → ℕ → List Sub
subs_of t bid = if is_no_block bid then [] else subs_at (block_subs t) (entry_of t bid)

abbrev pub sub_nid : Sub → ℕ
sub_nid s = s.nid

-- no number stands twice
unfoldable pub are_distinct : List ℕ → Bool
are_distinct [] = true
are_distinct (n ∷ rest) = not (list_any (nat_eq n) rest) && are_distinct rest

-- ---- the first fault of its own blocks

-- a breach of the rules in a block of a list; told where it lies, with the identifier of its entry
abbrev pub bad_list : BlockEntry → Fault
bad_list e = fault_in Subnode e.ib e.bid

-- an SLBLOCK: its btype, level and fit
unfoldable pub slblock_fault : Table → BlockEntry → Option Fault
slblock_fault t e = holds_or (is_slblock (body_of t e)) (bad_list e)

-- a block that an SIBLOCK names is there, is internal, and is an SLBLOCK
unfoldable pub list_leaf_fault : Table → BlockEntry → ℕ → Option Fault
list_leaf_fault t holder i =
    let bid = leaf_bid_in (body_of t holder) i in
    there_or (block_missing bid) (λ e. if is_internal bid then slblock_fault t e else Some (bad_list holder)) (entry_of t bid)

-- an SIBLOCK: its btype, level and fit, then each block that it names
unfoldable pub siblock_fault : Table → BlockEntry → Option Fault
siblock_fault t e =
    let body = body_of t e in
    holds_or (is_siblock body) (bad_list e) then first_below (list_leaf_fault t e) (count_in body)

-- a block: an SIBLOCK or an SLBLOCK
unfoldable pub shape_fault : Table → BlockEntry → Option Fault
shape_fault t e = if has_level_one (body_of t e) then siblock_fault t e else slblock_fault t e

-- a block: its shape, then that no subnode stands twice
unfoldable pub list_block_fault : Table → BlockEntry → Option Fault
list_block_fault t e = shape_fault t e then holds_or (are_distinct (map sub_nid (block_subs t e))) (bad_list e)

-- a block identifier that names a block: it is there, and is internal
unfoldable pub list_fault : Table → ℕ → Option Fault
list_fault t bid =
    there_or (block_missing bid) (λ e. if is_internal bid then list_block_fault t e else Some (bad_list e)) (entry_of t bid)
