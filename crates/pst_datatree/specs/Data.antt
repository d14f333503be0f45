-- The data tree of a block identifier ([MS-PST] 2.2.2.8.3): the list of the spans that its bytes lie in, and its first fault.
--
-- A data block is a span, its body. An XBLOCK names data blocks, an XXBLOCK names XBLOCKs; each has the spans of what it
-- names, in order, as often as it names them. A fault is told of no node here: whoever asks for a node's data sets it.
use Rattle.std.specs.Prelude.{ℕ, nat_eq, Option, Some, None, List, [], ◌∷◌, sum_by, if◌then◌else◌}
use Rattle.pst_bytes.specs.declared.span.Span.{Span}
use Rattle.pst_fault.specs.declared.fault.Fault.{Fault}
use Rattle.pst_fault.specs.declared.kind.Kind.{Kind}
use Rattle.pst_fault.specs.declared.kind.Kind.TheVariants.{BlockMissing, DataTree, NoMemory}
use Rattle.pst_fault.specs.Fault.{fault_in, at_node}
use Rattle.pst_fault.specs.Each.{there_or}
use Rattle.pst_fault.specs.First.{◌then◌, holds_or, first_below, join_below}
use Rattle.pst_page.specs.declared.entry.BlockEntry.{BlockEntry}
use Rattle.pst_block.specs.Block.{body_span}
use Rattle.pst_block.specs.Table.{Table, entry_of, body_of}
use Rattle.pst_datatree.specs.declared.named.Named.{Named}
use Rattle.pst_datatree.specs.declared.named.Named.TheVariants.{Nothing, Missing, Data, Xblock, Xxblock}
use Rattle.pst_datatree.specs.Bid.{is_internal}
use Rattle.pst_datatree.specs.List.{count_in, total_in, bid_in, is_block_list}
use Rattle.pst_datatree.specs.Named.{named_by}

-- ---- the spans, where nothing is at fault

-- how many bytes spans have in all
abbrev pub size_of : List Span → ℕ
size_of spans = sum_by (λ s. s.len) spans

-- of the block with an entry; none where it is missing
abbrev pub spans_at : (BlockEntry → List Span) → Option BlockEntry → List Span
spans_at spans None = []
spans_at spans (Some e) = spans e

-- of a data block
abbrev pub data_block_spans : BlockEntry → List Span
data_block_spans e = body_span e ∷ []

-- of the data block that an XBLOCK names with a number
unfoldable pub leaf_spans : Table → List ℕ → ℕ → List Span
leaf_spans t body i = spans_at data_block_spans (entry_of t (bid_in body i))

-- of an XBLOCK
unfoldable pub xblock_spans : Table → BlockEntry → List Span
xblock_spans t e = let body = body_of t e in join_below (leaf_spans t body) (count_in body)

-- of the XBLOCK that an XXBLOCK names with a number
unfoldable pub child_spans : Table → List ℕ → ℕ → List Span
child_spans t body i = spans_at (xblock_spans t) (entry_of t (bid_in body i))

-- of an XXBLOCK
unfoldable pub xxblock_spans : Table → BlockEntry → List Span
xxblock_spans t e = let body = body_of t e in join_below (child_spans t body) (count_in body)

-- of what an identifier names: none where that is no block
abbrev pub named_spans : Table → Named → List Span
named_spans t Nothing = []
named_spans t Missing = []
named_spans t (Data e) = data_block_spans e
named_spans t (Xblock e) = xblock_spans t e
named_spans t (Xxblock e) = xxblock_spans t e

-- of a block identifier
unfoldable pub data_spans : Table → ℕ → List Span
data_spans t bid = named_spans t (named_by t bid)

-- ---- the first fault

-- a block is named that the block B-tree lacks
abbrev pub block_missing : ℕ → Fault
block_missing bid = fault_in BlockMissing 0 bid

-- a breach of the rules in an internal block; told where it lies, with the identifier of its entry
abbrev pub bad_tree : BlockEntry → Fault
bad_tree e = fault_in DataTree e.ib e.bid

-- a block that an XBLOCK names is there, and is a data block
unfoldable pub data_leaf_fault : Table → BlockEntry → ℕ → Option Fault
data_leaf_fault t holder i =
    let bid = bid_in (body_of t holder) i in
    there_or (block_missing bid) (λ _. if is_internal bid then Some (bad_tree holder) else None) (entry_of t bid)

-- an XBLOCK: its btype, level and fit, then each block that it names, then its total
unfoldable pub xblock_fault : Table → BlockEntry → Option Fault
xblock_fault t e =
    let body = body_of t e in
    holds_or (is_block_list 1 body) (bad_tree e)
    then first_below (data_leaf_fault t e) (count_in body)
    then holds_or (nat_eq (size_of (xblock_spans t e)) (total_in body)) (bad_tree e)

-- a block that an XXBLOCK names is there, is internal, and is an XBLOCK without fault
unfoldable pub child_fault : Table → BlockEntry → ℕ → Option Fault
child_fault t holder i =
    let bid = bid_in (body_of t holder) i in
    there_or (block_missing bid) (λ e. if is_internal bid then xblock_fault t e else Some (bad_tree holder)) (entry_of t bid)

-- an XXBLOCK: its btype, level and fit, then each block that it names, then its total
unfoldable pub xxblock_fault : Table → BlockEntry → Option Fault
xxblock_fault t e =
    let body = body_of t e in
    holds_or (is_block_list 2 body) (bad_tree e)
    then first_below (child_fault t e) (count_in body)
    then holds_or (nat_eq (size_of (xxblock_spans t e)) (total_in body)) (bad_tree e)

-- what an identifier names: where it names no block, nothing is at fault
abbrev pub named_fault : Table → ℕ → Named → Option Fault
named_fault t bid Nothing = None
named_fault t bid Missing = Some (block_missing bid)
named_fault t bid (Data e) = None
named_fault t bid (Xblock e) = xblock_fault t e
named_fault t bid (Xxblock e) = xxblock_fault t e

-- the same within the block that is named, if one is
abbrev pub tree_fault : Table → Named → Option Fault
tree_fault t Nothing = None
tree_fault t Missing = None
tree_fault t (Data e) = None
tree_fault t (Xblock e) = xblock_fault t e
tree_fault t (Xxblock e) = xxblock_fault t e

-- a block identifier
unfoldable pub data_fault : Table → ℕ → Option Fault
data_fault t bid = named_fault t bid (named_by t bid)

-- ---- the same under a node

-- a fault of this kind, told of a node; that memory ran out is told of none
abbrev pub data_placed : Kind → ℕ → Fault → Fault
data_placed NoMemory nid f = f
data_placed _ nid f = at_node nid f

abbrev pub told_at : ℕ → Fault → Fault
told_at nid f = data_placed f.kind nid f
