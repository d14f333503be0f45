use Rattle.std.proofs.Common.{◌≡◌, ◌++◌, drop}
use Rattle.pst_block.specs.Blocks.{table_of}
use Rattle.pst_ndb.specs.Fault.{node_fault}
use Rattle.pst_damage.specs.Judged.{broken_by}
use Rattle.pst_damage.specs.Trees.{AreTreesKnown}
use Rattle.pst_damage.proofs.trees.judge_trees.Given as goal

-- what is found so far, and what is left of the nodes
abbrev pub invariant-loop-entry : goal.invariant-loop-entry
invariant-loop-entry l = record {
  known : AreTreesKnown (table_of l.blocks) l.known;
  broken : l.broken.items ++ broken_by (node_fault (table_of l.blocks)) (drop l.entry-index l.nodes) ≡ broken_by (node_fault (table_of l.blocks)) l.nodes;
}
