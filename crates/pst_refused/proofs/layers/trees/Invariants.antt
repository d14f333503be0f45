use Rattle.pst_block.specs.Blocks.{table_of}
use Rattle.pst_subnode.specs.Known.{AreBothTrue}
use Rattle.pst_refused.proofs.layers.trees.Given as goal

-- all that is remembered is true
abbrev pub invariant-loop-entry : goal.invariant-loop-entry
invariant-loop-entry l = AreBothTrue (table_of l.blocks) l.known.seen l.known.heights
