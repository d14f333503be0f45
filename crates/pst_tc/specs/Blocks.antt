-- What a contract sees of the blocks of a row matrix: the subnode, and where its blocks lie.
use Rattle.std.specs.Prelude.{List}
use Rattle.pst_bytes.specs.declared.span.Span.{Span}
use Rattle.pst_datatree.specs.Data.{data_spans}
use Rattle.pst_ndb.specs.declared.node.Node.{Node}
use Rattle.pst_ndb.specs.Views.{table_of_node, data_bid_of}
use Rattle.pst_tc.specs.declared.blocks.Blocks.{Blocks}

abbrev pub blocks_node : Blocks → Node
blocks_node b = b.node

abbrev pub matrix_spans : Blocks → List Span
matrix_spans b = data_spans (table_of_node b.node) (data_bid_of b.node)
