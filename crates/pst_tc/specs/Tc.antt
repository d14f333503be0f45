-- What a contract sees of a table context.
use Rattle.pst_ndb.specs.declared.node.Node.{Node}
use Rattle.pst_heap.specs.View.{node_of}
use Rattle.pst_tc.specs.declared.tc.Tc.{Tc}

-- the node whose data it is
abbrev pub node_of_tc : Tc → Node
node_of_tc t = node_of t.heap
