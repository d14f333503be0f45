use Rattle.std.proofs.Common.{◌≡◌, ◌≤◌, ◌-◌}
use Rattle.pst_block.specs.Blocks.{table_of}
use Rattle.pst_subnode.specs.declared.frame.Below.TheVariants.{Leaves}
use Rattle.pst_subnode.specs.Stack.{Start, IsExpanding}
use Rattle.pst_subnode.specs.Weight.{frame_weight}
use Rattle.pst_subnode.proofs.PassLemmas.{left_of}
use Rattle.pst_subnode.proofs.walk.run_leaves.Given as goal

abbrev pub invariant-loop-rest : goal.invariant-loop-rest
invariant-loop-rest l = record {
  same : l.stack.items ≡ l.initial.stack.items;
  goes : (a : Start) → IsExpanding (table_of l.blocks) a l.initial.stack.items l.frame l.seen l.initial.heights → IsExpanding (table_of l.blocks) a l.initial.stack.items (left_of l.frame l.most (Leaves l.rest)) l.seen l.heights;
  light : frame_weight (left_of l.frame l.most (Leaves l.rest)) ≤ frame_weight l.frame;
}

abbrev pub decreases-loop-rest : goal.decreases-loop-rest
decreases-loop-rest l = l.rest.count - l.rest.next
