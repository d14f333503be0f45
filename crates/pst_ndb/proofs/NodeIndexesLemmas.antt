-- Indexes of the lists of subnodes and of the data that nodes ask: of any node's blocks that are the same.
use Rattle.std.proofs.Common.{◌≡◌}
use Rattle.pst_block.specs.Table.{Table}
use Rattle.pst_ndb.specs.declared.node.Node.{Node}
use Rattle.pst_ndb.specs.declared.node_indexes.NodeIndexes.{NodeIndexes}
use Rattle.pst_ndb.specs.NodeIndexes.{AreNodeIndexes}
use Rattle.pst_ndb.specs.SpanIndexes.{AreSpanIndexes}
use Rattle.pst_ndb.specs.SubIndexes.{AreSubIndexes}
use Rattle.pst_ndb.specs.Views.{table_of_node}

pub lists_known : (node : Node) (t : Table) (i : NodeIndexes) → table_of_node node ≡ t → AreNodeIndexes t i → AreSubIndexes (table_of_node node) i.lists
unfolding AreNodeIndexes
lists_known node t i same is = rw same is.0

pub spans_known : (node : Node) (t : Table) (i : NodeIndexes) → table_of_node node ≡ t → AreNodeIndexes t i → AreSpanIndexes (table_of_node node) i.spans
unfolding AreNodeIndexes
spans_known node t i same is = rw same is.1

-- among the same blocks
pub last_of : (t u : Table) (i : NodeIndexes) → u ≡ t → AreNodeIndexes t i → AreNodeIndexes u i
last_of t u i same is = rw same is
