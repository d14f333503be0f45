-- What a contract sees of the views.
use Rattle.std.specs.Prelude.{◌≡◌, ℕ, Option, IfSome, List, map}
use Rattle.std.specs.Iterator.{YieldsFirstBy}
use Rattle.pst_bytes.specs.declared.Image.{Image}
use Rattle.pst_header.specs.declared.header.Header.{Header}
use Rattle.pst_page.specs.declared.entry.NodeEntry.{NodeEntry}
use Rattle.pst_block.specs.Table.{Table}
use Rattle.pst_block.specs.Blocks.{table_of, image_of}
use Rattle.pst_ndb.specs.declared.ndb.Ndb.{Ndb}
use Rattle.pst_ndb.specs.declared.node.Node.{Node}
use Rattle.pst_ndb.specs.declared.nodes.Nodes.{Nodes}
use Rattle.pst_ndb.specs.declared.span_index.SpanIndex.{SpanIndex}
use Rattle.pst_ndb.specs.Node.{NodeParts, entry_parts}
use Rattle.pst_ndb.specs.NodeTable.{image_of_nodes, table_of_nodes, entries_of_nodes}
use Rattle.pst_ndb.specs.Roots.{Roots, all_roots}
use Rattle.pst_ndb.specs.Source.{entries_left}
use Rattle.pst_ndb.specs.SpanIndex.{IsSpanIndexOf}
use Rattle.pst_subnode.specs.declared.check.TheConstants.{LISTS}
use Rattle.pst_subnode.specs.declared.index.SubIndex.{SubIndex}
use Rattle.pst_subnode.specs.Index.{IsIndexOf}
use Rattle.pst_subnode.specs.List.{subs_of}
use Rattle.pst_subnode.specs.Tree.{sub_height}

-- ---- of a node database: the file, its header, its blocks, and the entries of its nodes

abbrev pub image_of_ndb : Ndb → Image
image_of_ndb ndb = image_of_nodes ndb.nodes

abbrev pub header_of : Ndb → Header
header_of ndb = ndb.header

abbrev pub table_of_ndb : Ndb → Table
table_of_ndb ndb = table_of_nodes ndb.nodes

abbrev pub nodes_of : Ndb → List NodeEntry
nodes_of ndb = entries_of_nodes ndb.nodes

-- ---- of a node

abbrev pub image_of_node : Node → Image
image_of_node node = image_of node.blocks

abbrev pub table_of_node : Node → Table
table_of_node node = table_of node.blocks

abbrev pub top_of : Node → ℕ
top_of node = node.top

abbrev pub nid_of : Node → ℕ
nid_of node = node.nid

abbrev pub data_bid_of : Node → ℕ
data_bid_of node = node.bid_data

abbrev pub sub_bid_of : Node → ℕ
sub_bid_of node = node.bid_sub

-- all of that
abbrev pub parts_of : Node → NodeParts
parts_of node = record { image = image_of_node node; table = table_of_node node; top = top_of node; nid = nid_of node; bid_data = data_bid_of node; bid_sub = sub_bid_of node }

-- what contexts and messages are read from
abbrev pub roots_of : Node → Roots
roots_of node = record { top = top_of node; bid_data = data_bid_of node; bid_sub = sub_bid_of node }

-- how many lists nest below it
abbrev pub height_of : Node → ℕ
height_of node = sub_height (table_of_node node) LISTS (sub_bid_of node)

-- an index is one of its subnodes
abbrev pub IsIndexedBy : Node → SubIndex → Type 0
IsIndexedBy node index = IsIndexOf index (subs_of (table_of_node node) (sub_bid_of node))

-- an index is one of the spans of its data
abbrev pub IsSpanIndexedBy : Node → SpanIndex → Type 0
IsSpanIndexedBy node index = IsSpanIndexOf index (table_of_node node) (data_bid_of node)

-- ---- the nodes that an iterator has left: of which file and blocks, and which

abbrev pub parts_left : Nodes → List NodeParts
parts_left nodes = map (entry_parts (image_of nodes.blocks) (table_of nodes.blocks)) (entries_left nodes.rest)

abbrev pub image_left : Nodes → Image
image_left nodes = image_of nodes.blocks

abbrev pub table_left : Nodes → Table
table_left nodes = table_of nodes.blocks

abbrev pub roots_left : Nodes → List Roots
roots_left nodes = all_roots (entries_left nodes.rest)

-- a node of the same file and blocks is taken, and those that are left are of them, too
abbrev pub TakesNode : Nodes → Option Node → Nodes → Type 0
TakesNode old found new =
    YieldsFirstBy parts_of parts_left old found new
    × YieldsFirstBy roots_of roots_left old found new
    × (table_left new ≡ table_left old)
    × (image_left new ≡ image_left old)
    × IfSome found (λ n. table_of_node n ≡ table_left old)
    × IfSome found (λ n. image_of_node n ≡ image_left old)
