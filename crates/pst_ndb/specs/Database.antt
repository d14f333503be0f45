-- The node database of a file ([MS-PST] 2.2), as the bytes spell it. Nothing here walks, claims or names a fault.
use Rattle.std.specs.Prelude.{◌≡◌, ℕ, ◌≤◌, ◌↔◌, ⊤, None, List, [], ◌∷◌, ◌++◌, map}
use Rattle.pst_bytes.specs.declared.span.Span.{Span}
use Rattle.pst_header.specs.declared.header.Header.{Header}
use Rattle.pst_header.specs.declared.header.Bref.{Bref}
use Rattle.pst_header.specs.Header.{end_of, fields}
use Rattle.pst_header.specs.Head.{Head}
use Rattle.pst_page.specs.declared.kind.PageKind.{PageKind}
use Rattle.pst_page.specs.declared.kind.PageKind.TheVariants.{Bbt, Nbt}
use Rattle.pst_page.specs.declared.entry.BlockEntry.{BlockEntry}
use Rattle.pst_page.specs.declared.entry.NodeEntry.{NodeEntry}
use Rattle.pst_page.specs.Entry.{block_entry_at, node_entry_at}
use Rattle.pst_space.specs.Claimed.{Claimed, map_pages, nothing_claimed, with_spans}
use Rattle.pst_space.specs.Apart.{AreApart}
use Rattle.pst_btree.specs.Tree.{Tree, IsTree, entries_of, page_spans}
use Rattle.pst_block.specs.Table.{Table, table_with}
use Rattle.pst_block.specs.Walk.{AreGood, block_spans}
use Rattle.pst_amap.specs.declared.report.BitOrder.{BitOrder}
use Rattle.pst_amap.specs.Marks.{bit_order_of}
use Rattle.pst_amap.specs.Report.{Maps}
use Rattle.pst_datatree.specs.Relation.{HasData}
use Rattle.pst_subnode.specs.declared.sub.Sub.{Sub}
use Rattle.pst_subnode.specs.declared.check.TheConstants.{LISTS}
use Rattle.pst_subnode.specs.Relation.{HasSubs}
use Rattle.pst_ndb.specs.Entries.{tree_under}
use Rattle.pst_ndb.specs.Fault.{ndb_fault}
use Rattle.pst_ndb.specs.Space.{space_claimed}

-- the image spells a tree under a root, of some level, whose keys keep their bounds
abbrev pub IsSpelt : PageKind → List ℕ → ℕ → Bref → Tree → Type 0
IsSpelt kind I end root tree = (level : ℕ) × IsTree kind I end root level tree

-- the entries of a block B-tree, and of a node B-tree
abbrev pub blocks_in : List ℕ → Tree → List BlockEntry
blocks_in I tree = map (block_entry_at I) (entries_of tree)

abbrev pub nodes_in : List ℕ → Tree → List NodeEntry
nodes_in I tree = map (node_entry_at I) (entries_of tree)

-- the spans of all pages and blocks in use: the map pages, the pages of both trees, the blocks
abbrev pub used_spans : List ℕ → Header → Tree → Tree → List Span
used_spans I h blocks nodes = map_pages h ++ (page_spans blocks ++ page_spans nodes ++ block_spans (blocks_in I blocks))

-- a flag for each unit of the mapped part: whether one of these spans lies there
abbrev pub claimed_units : Header → List Span → Claimed
claimed_units h spans = with_spans (nothing_claimed h) spans

-- a node's data has a tree, and its subnodes have a list, of a height within the limit
pub record HasTrees (t : Table) (e : NodeEntry) : Type 0 where
  pub spans : List Span
  pub content : HasData t e.bid_data spans
  pub subs : List Sub
  pub height : ℕ
  pub list : HasSubs t e.bid_sub height subs
  pub low : height ≤ LISTS

abbrev pub AllHaveTrees : Table → List NodeEntry → Type 0
AllHaveTrees t [] = ⊤
AllHaveTrees t (e ∷ rest) = HasTrees t e × AllHaveTrees t rest

-- A file with this header is made of these two trees, and its maps have their bits in this order.
pub record Database (I : List ℕ) (h : Header) (blocks nodes : Tree) (order : BitOrder) : Type 0 where
  -- the header is good, and its fields are these
  pub head : Head I h
  -- the block B-tree and the node B-tree
  pub block_tree : IsSpelt Bbt I (end_of h) h.bbt blocks
  pub node_tree : IsSpelt Nbt I (end_of h) h.nbt nodes
  -- each block is good
  pub good : AreGood I (end_of h) (blocks_in I blocks)
  -- no two pages or blocks have a byte in common
  pub apart : AreApart (used_spans I h blocks nodes)
  -- the allocation maps are good, and mark each page and block
  pub maps : Maps I h (claimed_units h (used_spans I h blocks nodes)) order
  -- each node's data has a tree, and its subnodes a list
  pub trees : AllHaveTrees (table_with I (blocks_in I blocks)) (nodes_in I nodes)

-- A file has a node database exactly where it has no first fault up to its nodes; and there is one at most.
abbrev pub DatabaseLaw : Type 0
DatabaseLaw =
    (I : List ℕ) (h : Header) (blocks nodes : Tree) (order : BitOrder) →
    Database I h blocks nodes order
    ↔ ((ndb_fault I ≡ None) × (h ≡ fields I) × (blocks ≡ tree_under Bbt I h.bbt) × (nodes ≡ tree_under Nbt I h.nbt) × (order ≡ bit_order_of I (space_claimed I h)))
