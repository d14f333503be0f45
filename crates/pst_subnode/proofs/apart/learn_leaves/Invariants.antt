use Rattle.pst_block.specs.Blocks.{table_of}
use Rattle.pst_subnode.specs.Numbers.{AreNumbersTrue}
use Rattle.pst_subnode.proofs.apart.learn_leaves.Given as goal

abbrev pub invariant-loop-i : goal.invariant-loop-i
invariant-loop-i l = AreNumbersTrue (table_of l.blocks) l.numbers
