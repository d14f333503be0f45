-- What is left of a damaged file for its nodes: the blocks without fault, the nodes, and the pages behind which others may lie.
use Rattle.std.specs.Prelude.{List}
use Rattle.pst_page.specs.declared.entry.NodeEntry.{NodeEntry}
use Rattle.pst_btree.specs.Lists.{nodes_in_list}
use Rattle.pst_block.specs.Blocks.{table_of}
use Rattle.pst_block.specs.Table.{Table}
use Rattle.pst_remains.specs.declared.pages.Broken.{Broken}
use Rattle.pst_damage.specs.declared.left.Left.{Left}
use Rattle.pst_damage.specs.BrokenPages.{pages_in}

abbrev pub left_table : Left → Table
left_table l = table_of l.blocks

abbrev pub left_nodes : Left → List NodeEntry
left_nodes l = nodes_in_list l.nodes

abbrev pub left_pages : Left → List Broken
left_pages l = pages_in l.pages.now
