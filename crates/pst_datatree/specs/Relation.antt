-- The grammar of data trees ([MS-PST] 2.2.2.8.3): which list of spans a block identifier has. It speaks of no fault.
use Rattle.std.specs.Prelude.{◌≡◌, ℕ, true, false, Some, None, List, [], ◌∷◌, ◌⊎◌, ◌↔◌, option_map}
use Rattle.pst_bytes.specs.declared.span.Span.{Span}
use Rattle.pst_fault.specs.Fault.{at_node}
use Rattle.pst_fault.specs.First.{AreJoined}
use Rattle.pst_page.specs.declared.entry.BlockEntry.{BlockEntry}
use Rattle.pst_block.specs.Block.{body_span}
use Rattle.pst_block.specs.Table.{Table, entry_of, body_of}
use Rattle.pst_datatree.specs.Bid.{is_internal, is_no_block}
use Rattle.pst_datatree.specs.List.{count_in, total_in, bid_in, is_block_list}
use Rattle.pst_datatree.specs.Data.{size_of, data_spans, data_fault}

-- what an XBLOCK names with a number is a data block that the block B-tree has: its body is the span
abbrev pub IsDataLeaf : Table → BlockEntry → ℕ → List Span → Type 0
IsDataLeaf t holder i spans =
    let bid = bid_in (body_of t holder) i in
    (e : BlockEntry) × (entry_of t bid ≡ Some e) × (is_internal bid ≡ false) × (spans ≡ body_span e ∷ [])

-- an XBLOCK: its data blocks, whose lengths make its total
abbrev pub IsXblock : Table → BlockEntry → List Span → Type 0
IsXblock t e spans =
    let body = body_of t e in
    (is_block_list 1 body ≡ true) × AreJoined (IsDataLeaf t e) (count_in body) spans × (size_of spans ≡ total_in body)

-- what an XXBLOCK names with a number is an XBLOCK that the block B-tree has
abbrev pub IsChild : Table → BlockEntry → ℕ → List Span → Type 0
IsChild t holder i spans =
    let bid = bid_in (body_of t holder) i in
    (e : BlockEntry) × (entry_of t bid ≡ Some e) × (is_internal bid ≡ true) × IsXblock t e spans

-- an XXBLOCK: the spans of its XBLOCKs, whose lengths make its total
abbrev pub IsXxblock : Table → BlockEntry → List Span → Type 0
IsXxblock t e spans =
    let body = body_of t e in
    (is_block_list 2 body ≡ true) × AreJoined (IsChild t e) (count_in body) spans × (size_of spans ≡ total_in body)

-- a block that the block B-tree has: a data block, an XBLOCK or an XXBLOCK
abbrev pub IsDataBlock : Table → BlockEntry → List Span → Type 0
IsDataBlock t e spans = (is_internal e.bid ≡ false) × (spans ≡ body_span e ∷ [])

abbrev pub IsDataTree : Table → BlockEntry → List Span → Type 0
IsDataTree t e spans = (is_internal e.bid ≡ true) × (IsXblock t e spans ⊎ IsXxblock t e spans)

-- A block identifier has a data tree with these spans: it names no block, and there are none; or it names one of the blocks.
abbrev pub NamesTree : Table → ℕ → List Span → Type 0
NamesTree t bid spans =
    (is_no_block bid ≡ false) × ((e : BlockEntry) × (entry_of t bid ≡ Some e) × (IsDataBlock t e spans ⊎ IsDataTree t e spans))

abbrev pub HasData : Table → ℕ → List Span → Type 0
HasData t bid spans = ((is_no_block bid ≡ true) × (spans ≡ [])) ⊎ NamesTree t bid spans

-- A block identifier has a data tree exactly where it has no first fault, and then its spans are these.
abbrev pub DataLaw : Type 0
DataLaw = (t : Table) (bid : ℕ) (spans : List Span) → HasData t bid spans ↔ ((data_fault t bid ≡ None) × (spans ≡ data_spans t bid))

-- The first fault of a data tree is told of no node.
abbrev pub UntoldLaw : Type 0
UntoldLaw = (t : Table) (bid : ℕ) → option_map (at_node 0) (data_fault t bid) ≡ data_fault t bid
