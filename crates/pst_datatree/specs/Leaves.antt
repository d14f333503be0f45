-- What a view of the spans of a data tree by their numbers shows.
use Rattle.std.specs.Prelude.{ℕ, List}
use Rattle.pst_bytes.specs.declared.Image.{Image}
use Rattle.pst_bytes.specs.declared.span.Span.{Span}
use Rattle.pst_block.specs.Table.{Table}
use Rattle.pst_datatree.specs.declared.leaves.Leaves.{Leaves}
use Rattle.pst_datatree.specs.Data.{data_spans}
use Rattle.pst_datatree.specs.PartsView.{table_of_parts, tree_of_parts, image_of_parts}

-- the file
abbrev pub leaves_file : Leaves → Image
leaves_file l = image_of_parts l.parts

-- the table of blocks, and the block identifier of the data tree
abbrev pub leaves_table : Leaves → Table
leaves_table l = table_of_parts l.parts

abbrev pub leaves_tree : Leaves → ℕ
leaves_tree l = tree_of_parts l.parts

-- all spans, in order
abbrev pub leaves_spans : Leaves → List Span
leaves_spans l = data_spans (leaves_table l) (leaves_tree l)
