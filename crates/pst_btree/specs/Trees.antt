-- What the block B-tree and the node B-tree show, and their entries.
use Rattle.std.specs.Prelude.{List}
use Rattle.pst_bytes.specs.declared.Image.{Image}
use Rattle.pst_page.specs.declared.entry.BlockEntry.{BlockEntry}
use Rattle.pst_page.specs.declared.entry.NodeEntry.{NodeEntry}
use Rattle.pst_btree.specs.declared.block_tree.BlockTree.{BlockTree}
use Rattle.pst_btree.specs.declared.node_tree.NodeTree.{NodeTree}
use Rattle.pst_btree.specs.View.{TreeParts, tree_parts, block_entries_of, node_entries_of}

abbrev pub block_view : BlockTree → TreeParts
block_view tree = tree_parts tree.view

abbrev pub node_view : NodeTree → TreeParts
node_view tree = tree_parts tree.view

-- the file that a block B-tree is of
abbrev pub file_of_blocks : BlockTree → Image
file_of_blocks tree = (block_view tree).image

-- the entries of its leaves, from left to right
abbrev pub block_entries : BlockTree → List BlockEntry
block_entries tree = block_entries_of (block_view tree)

abbrev pub node_entries : NodeTree → List NodeEntry
node_entries tree = node_entries_of (node_view tree)
