-- What a view of the parts of a data tree shows.
use Rattle.std.specs.Prelude.{ℕ}
use Rattle.pst_bytes.specs.declared.Image.{Image}
use Rattle.pst_block.specs.Table.{Table}
use Rattle.pst_block.specs.Blocks.{table_of, image_of}
use Rattle.pst_datatree.specs.declared.parts.Parts.{Parts}

-- the table of blocks, and the file
abbrev pub table_of_parts : Parts → Table
table_of_parts p = table_of p.blocks

abbrev pub image_of_parts : Parts → Image
image_of_parts p = image_of p.blocks

-- the block identifier of the data tree
abbrev pub tree_of_parts : Parts → ℕ
tree_of_parts p = p.bid
