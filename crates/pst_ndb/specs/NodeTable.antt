-- What nodes by their identifiers show: the file, the blocks, and the entries.
use Rattle.std.specs.Prelude.{List}
use Rattle.pst_bytes.specs.declared.Image.{Image}
use Rattle.pst_page.specs.declared.entry.NodeEntry.{NodeEntry}
use Rattle.pst_block.specs.Blocks.{table_of, image_of}
use Rattle.pst_block.specs.Table.{Table}
use Rattle.pst_ndb.specs.declared.node_table.NodeTable.{NodeTable}
use Rattle.pst_ndb.specs.Source.{source_entries}

abbrev pub image_of_nodes : NodeTable → Image
image_of_nodes nodes = image_of nodes.blocks

abbrev pub table_of_nodes : NodeTable → Table
table_of_nodes nodes = table_of nodes.blocks

abbrev pub entries_of_nodes : NodeTable → List NodeEntry
entries_of_nodes nodes = source_entries nodes.source
