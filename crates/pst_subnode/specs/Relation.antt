-- The grammar of subnodes ([MS-PST] 2.2.2.8.3.3): which list, and of which height, a block identifier has. It speaks of no
-- fault and of no limit.
use Rattle.std.specs.Prelude.{◌≡◌, ℕ, ◌+◌, max, true, false, Some, List, [], ◌∷◌, map, nat_eq, ◌⊎◌}
use Rattle.std.specs.List.{IsDistinct}
use Rattle.pst_bytes.specs.declared.span.Span.{Span}
use Rattle.pst_fault.specs.First.{AreJoined}
use Rattle.pst_page.specs.declared.entry.BlockEntry.{BlockEntry}
use Rattle.pst_block.specs.Table.{Table, entry_of, body_of}
use Rattle.pst_datatree.specs.Bid.{is_internal, is_no_block}
use Rattle.pst_datatree.specs.Relation.{HasData}
use Rattle.pst_subnode.specs.declared.sub.Sub.{Sub}
use Rattle.pst_datatree.specs.List.{count_in}
use Rattle.pst_subnode.specs.Body.{leaf_bid_in, is_slblock, is_siblock, subs_in}
use Rattle.pst_subnode.specs.List.{sub_nid}

-- an SLBLOCK: its entries
abbrev pub IsSlblock : Table → BlockEntry → List Sub → Type 0
IsSlblock t e subs = (is_slblock (body_of t e) ≡ true) × (subs ≡ subs_in (body_of t e))

-- what an SIBLOCK names with a number is an SLBLOCK that the block B-tree has
abbrev pub IsListLeaf : Table → BlockEntry → ℕ → List Sub → Type 0
IsListLeaf t holder i subs =
    let bid = leaf_bid_in (body_of t holder) i in
    (e : BlockEntry) × (entry_of t bid ≡ Some e) × (is_internal bid ≡ true) × IsSlblock t e subs

-- an SIBLOCK: the entries of its SLBLOCKs
abbrev pub IsSiblock : Table → BlockEntry → List Sub → Type 0
IsSiblock t e subs = (is_siblock (body_of t e) ≡ true) × AreJoined (IsListLeaf t e) (count_in (body_of t e)) subs

-- a block identifier names a block that the block B-tree has, with a list in which no subnode stands twice
abbrev pub NamesList : Table → ℕ → List Sub → Type 0
NamesList t bid subs =
    (e : BlockEntry) × (entry_of t bid ≡ Some e) × (is_internal bid ≡ true) × (IsSlblock t e subs ⊎ IsSiblock t e subs) × IsDistinct nat_eq (map sub_nid subs)

mutual
  -- A block identifier has a list of a height: it names no block, and the list is empty and of height 0; or it names a list,
  -- whose height is one more than the greatest below its entries.
  pub data HasSubs (t : Table) : ℕ → ℕ → List Sub → Type 0 where
    nothing : (bid : ℕ) → is_no_block bid ≡ true → HasSubs t bid 0 []
    listed : (bid : ℕ) (subs : List Sub) (most : ℕ) → is_no_block bid ≡ false → NamesList t bid subs → HaveSubs t subs most → HasSubs t bid (most + 1) subs

  -- Each entry has a data tree, and a list of some height; the greatest of these heights, 0 without entries.
  pub data HaveSubs (t : Table) : List Sub → ℕ → Type 0 where
    no_entries : HaveSubs t [] 0
    entries : (s : Sub) (rest : List Sub) (spans : List Span) (subs : List Sub) (height most : ℕ) → HasData t s.bid_data spans → HasSubs t s.bid_sub height subs → HaveSubs t rest most → HaveSubs t (s ∷ rest) (max height most)
