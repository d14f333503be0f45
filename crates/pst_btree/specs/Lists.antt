-- The entries of lists that were gathered.
use Rattle.std.specs.Prelude.{List}
use Rattle.pst_page.specs.declared.entry.BlockEntry.{BlockEntry}
use Rattle.pst_page.specs.declared.entry.NodeEntry.{NodeEntry}
use Rattle.pst_btree.specs.declared.lists.BlockList.{BlockList}
use Rattle.pst_btree.specs.declared.lists.NodeList.{NodeList}

abbrev pub listed_blocks : BlockList → List BlockEntry
listed_blocks list = list.entries.now

abbrev pub nodes_in_list : NodeList → List NodeEntry
nodes_in_list list = list.entries.now
