-- What is known of the trees of nodes that were looked at is true.
use Rattle.std.specs.Prelude.{option_map}
use Rattle.pst_fault.specs.Fault.{at_node}
use Rattle.pst_block.specs.Table.{Table}
use Rattle.pst_datatree.specs.Data.{data_fault}
use Rattle.pst_subnode.specs.Faults.{AreSubFaultsTrue}
use Rattle.pst_subnode.specs.Known.{AreBothTrue}
use Rattle.pst_msg.specs.Faults.{Parts, AreFaultsOf}
use Rattle.pst_damage.specs.declared.trees.JudgedTrees.{JudgedTrees}

-- the data of a node
abbrev pub data_part : Table → Parts
data_part t q nid = option_map (at_node nid) (data_fault t q.0.0)

-- What was found without fault has none, and each fault that is remembered is that of its tree, or of its list.
pub record AreTreesKnown (t : Table) (k : JudgedTrees) : Type 0 where
  pub whole : AreBothTrue t k.seen k.heights
  pub content : AreFaultsOf at_node (data_part t) k.content
  pub below : AreSubFaultsTrue t k.below
