-- What a contract sees of the blocks of a file.
use Rattle.std.specs.Prelude.{ℕ}
use Rattle.pst_bytes.specs.declared.Image.{Image}
use Rattle.pst_bytes.specs.Image.{bytes_of}
use Rattle.pst_block.specs.declared.blocks.Blocks.{Blocks}
use Rattle.pst_block.specs.Source.{file_in, entries_in}
use Rattle.pst_block.specs.Table.{Table}

-- the table that they are
abbrev pub table_of : Blocks → Table
table_of b = record { image = bytes_of (file_in b.source); entries = entries_in b.source }

-- where the mapped part ends, in which they lie
abbrev pub blocks_end : Blocks → ℕ
blocks_end b = b.end

-- the file
abbrev pub image_of : Blocks → Image
image_of b = file_in b.source
