-- The file that a source of blocks is of, and the entries that it has.
use Rattle.std.specs.Prelude.{List}
use Rattle.pst_bytes.specs.declared.Image.{Image}
use Rattle.pst_page.specs.declared.entry.BlockEntry.{BlockEntry}
use Rattle.pst_btree.specs.Lists.{listed_blocks}
use Rattle.pst_btree.specs.Trees.{block_entries, file_of_blocks}
use Rattle.pst_block.specs.declared.source.Source.{Source}
use Rattle.pst_block.specs.declared.source.Source.TheVariants.{Tree, Gathered}

unfoldable pub file_in : Source → Image
file_in (Tree tree) = file_of_blocks tree
file_in (Gathered file list) = file

unfoldable pub entries_in : Source → List BlockEntry
entries_in (Tree tree) = block_entries tree
entries_in (Gathered file list) = listed_blocks list
