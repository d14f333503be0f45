-- What is told of a store: what its bytes spell, and the blocks and nodes that this gives.
use Rattle.std.specs.Prelude.{◌≡◌, ℕ, List}
use Rattle.std.specs.List.{Contains}
use Rattle.pst_bytes.specs.declared.span.Span.{Span}
use Rattle.pst_header.specs.declared.header.Header.{Header}
use Rattle.pst_page.specs.declared.entry.NodeEntry.{NodeEntry}
use Rattle.pst_btree.specs.Tree.{Tree}
use Rattle.pst_block.specs.Table.{Table, table_with}
use Rattle.pst_amap.specs.declared.report.BitOrder.{BitOrder}
use Rattle.pst_ndb.specs.Database.{blocks_in, nodes_in, used_spans}
use Rattle.pst_ndb.specs.Roots.{Roots, all_roots}
use Rattle.pst_msg.specs.Nid.{type_of}

pub record StoreParts : Type 0 where
  -- the header
  pub header : Header
  -- the block B-tree and the node B-tree
  pub blocks : Tree
  pub nodes : Tree
  -- the order of the bits in its allocation maps; the old map pages, and the lost runs, which are marked there too
  pub order : BitOrder
  pub old : List Span
  pub lost : List Span

-- its blocks, by their identifiers
abbrev pub parts_table : List ℕ → StoreParts → Table
parts_table I s = table_with I (blocks_in I s.blocks)

-- the entries of its nodes, in order
abbrev pub parts_entries : List ℕ → StoreParts → List NodeEntry
parts_entries I s = nodes_in I s.nodes

-- the spans in use: of its map pages, the pages of both trees, and its blocks
abbrev pub used_in : List ℕ → StoreParts → List Span
used_in I s = used_spans I s.header s.blocks s.nodes

-- it has a node of a type
abbrev pub HasNode : List ℕ → StoreParts → ℕ → Roots → Type 0
HasNode I s kind r = Contains (all_roots (parts_entries I s)) r × (type_of r.top ≡ kind)
