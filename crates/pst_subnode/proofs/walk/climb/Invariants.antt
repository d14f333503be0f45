use Rattle.pst_block.specs.Blocks.{table_of}
use Rattle.pst_subnode.specs.Faults.{AreSubFaultsTrue}
use Rattle.pst_subnode.specs.Stack.{IsTurn}
use Rattle.pst_subnode.specs.Weight.{walk_weight}
use Rattle.pst_subnode.proofs.walk.climb.Given as goal

abbrev pub invariant-loop-turn : goal.invariant-loop-turn
invariant-loop-turn l = record {
  turn : IsTurn (table_of l.blocks) (record { bid = l.bid; limit = l.limit; seen = l.fn.seen; heights = l.fn.heights }) l.stack.items l.turn l.seen l.heights;
  faults : AreSubFaultsTrue (table_of l.blocks) l.faults;
}

abbrev pub decreases-loop-turn : goal.decreases-loop-turn
decreases-loop-turn l = walk_weight l.stack.items l.turn
