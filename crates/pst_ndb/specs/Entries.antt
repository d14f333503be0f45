-- The entries of both B-trees of a file ([MS-PST] 2.2.2.7.7), as they lie there under the two roots that the header names,
-- read with no check.
use Rattle.std.specs.Prelude.{List, ℕ, ◌+◌, length, map}
use Rattle.pst_header.specs.declared.header.Header.{Header}
use Rattle.pst_header.specs.declared.header.Bref.{Bref}
use Rattle.pst_page.specs.declared.kind.PageKind.{PageKind}
use Rattle.pst_page.specs.declared.kind.PageKind.TheVariants.{Bbt, Nbt}
use Rattle.pst_page.specs.declared.entry.BlockEntry.{BlockEntry}
use Rattle.pst_page.specs.declared.entry.NodeEntry.{NodeEntry}
use Rattle.pst_page.specs.Entry.{block_entry_at, node_entry_at}
use Rattle.pst_page.specs.Page.{level_at}
use Rattle.pst_btree.specs.Tree.{Tree, tree_at, entries_of, pages_of}
use Rattle.pst_block.specs.Table.{Table, table_with}

-- the tree under a root, which has the level that it says
abbrev pub tree_under : PageKind → List ℕ → Bref → Tree
tree_under kind I root = tree_at kind I (level_at I root.ib) root

-- the entries of the block B-tree, from left to right
unfoldable pub block_list : List ℕ → Header → List BlockEntry
block_list I h = map (block_entry_at I) (entries_of (tree_under Bbt I h.bbt))

-- the entries of the node B-tree, from left to right
unfoldable pub node_list : List ℕ → Header → List NodeEntry
node_list I h = map (node_entry_at I) (entries_of (tree_under Nbt I h.nbt))

-- how many pages both trees have
unfoldable pub page_total : List ℕ → Header → ℕ
page_total I h = length (pages_of (tree_under Bbt I h.bbt)) + length (pages_of (tree_under Nbt I h.nbt))

-- the blocks, by their identifiers
abbrev pub block_table : List ℕ → Header → Table
block_table I h = table_with I (block_list I h)
