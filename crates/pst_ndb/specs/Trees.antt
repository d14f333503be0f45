-- Both B-trees of a file ([MS-PST] 2.2.2.7.7): their walks, and the nodes that they list.
use Rattle.std.specs.Prelude.{◌≡◌, ◌⊎◌, ◌↔◌, ℕ, ◌++◌, List, map, Result, Ok, Err}
use Rattle.pst_bytes.specs.declared.span.Span.{Span}
use Rattle.pst_fault.specs.declared.fault.Fault.{Fault}
use Rattle.pst_fault.specs.Fault.{no_memory}
use Rattle.pst_fault.specs.First.{answer}
use Rattle.pst_header.specs.declared.header.Header.{Header}
use Rattle.pst_header.specs.Head.{Head}
use Rattle.pst_header.specs.Header.{header_fault, fields, end_of}
use Rattle.pst_page.specs.declared.kind.PageKind.TheVariants.{Bbt, Nbt}
use Rattle.pst_page.specs.declared.entry.NodeEntry.{NodeEntry}
use Rattle.pst_page.specs.Entry.{node_entry_at}
use Rattle.pst_space.specs.Claimed.{Claimed, maps_claimed, map_pages}
use Rattle.pst_space.specs.Apart.{AreApart}
use Rattle.pst_space.specs.Step.{Step, ◌>>=◌}
use Rattle.pst_btree.specs.declared.node_tree.NodeTree.{NodeTree}
use Rattle.pst_btree.specs.Tree.{Tree, IsTree, entries_of, page_spans}
use Rattle.pst_btree.specs.Trees.{node_entries}
use Rattle.pst_btree.specs.Walk.{Found, tree_walk}
use Rattle.pst_ndb.specs.Entries.{tree_under}

-- The walks of both trees under a header, from what is claimed before: the block B-tree, and then the node B-tree in what
-- is left.
unfoldable pub trees_walk : List ℕ → Header → Claimed → Step Found
trees_walk I h claimed = do
  blocks ← tree_walk Bbt I (end_of h) claimed h.bbt
  tree_walk Nbt I (end_of h) blocks.claimed h.nbt

-- the spans of the pages of both trees, in that order
abbrev pub trees_spans : List ℕ → Header → List Span
trees_spans I h = page_spans (tree_under Bbt I h.bbt) ++ page_spans (tree_under Nbt I h.nbt)

-- ---- the nodes that are listed

-- the entries at the places that a walk of the node B-tree found, or its fault
abbrev pub listed : List ℕ → Step Found → Result (List NodeEntry) Fault
listed I (Ok found) = Ok (map (node_entry_at I) found.entries)
listed I (Err stop) = Err stop.1

-- under a header; before the first page, the map pages are claimed
abbrev pub listed_under : List ℕ → Result Header Fault → Result (List NodeEntry) Fault
listed_under I (Ok h) = listed I (trees_walk I h (maps_claimed h))
listed_under I (Err f) = Err f

-- The nodes of a file in order of their identifiers, or the first fault of its header and of both walks. What the trees
-- name is not looked at.
unfoldable pub listed_nodes : List ℕ → Result (List NodeEntry) Fault
listed_nodes I = listed_under I (answer (header_fault I) (fields I))

-- what is returned is a tree with these entries, or this fault, unless memory ran out
abbrev pub ListsNodes : Result NodeTree Fault → Result (List NodeEntry) Fault → Type 0
ListsNodes (Ok tree) answer = answer ≡ Ok (node_entries tree)
ListsNodes (Err f) answer = (f ≡ no_memory) ⊎ (answer ≡ Err f)

-- The file has a good header ([MS-PST] 2.2.2.6). A block B-tree and a node B-tree are spelt under the roots that it names,
-- and their keys keep their bounds. No two of the map pages and the pages of both trees have a byte in common. The nodes are
-- the entries of the node B-tree from left to right.
pub record HasNodes (I : List ℕ) (nodes : List NodeEntry) : Type 0 where
  pub header : Header
  pub head : Head I header
  -- the block B-tree
  pub block_level : ℕ
  pub block_tree : Tree
  pub is_block_tree : IsTree Bbt I (end_of header) header.bbt block_level block_tree
  -- the node B-tree
  pub node_level : ℕ
  pub node_tree : Tree
  pub is_node_tree : IsTree Nbt I (end_of header) header.nbt node_level node_tree
  -- their pages and the map pages are apart
  pub apart : AreApart (map_pages header ++ (page_spans block_tree ++ page_spans node_tree))
  pub entries : nodes ≡ map (node_entry_at I) (entries_of node_tree)

-- nodes are listed exactly where the file has these nodes
abbrev pub ListingLaw : Type 0
ListingLaw = (I : List ℕ) (nodes : List NodeEntry) → (listed_nodes I ≡ Ok nodes) ↔ HasNodes I nodes
