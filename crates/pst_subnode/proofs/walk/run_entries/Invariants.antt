use Rattle.std.proofs.Common.{◌≡◌, ◌≤◌, length}
use Rattle.pst_block.specs.Blocks.{table_of}
use Rattle.pst_subnode.specs.declared.frame.Below.TheVariants.{Entries}
use Rattle.pst_subnode.specs.Left.{subs_left}
use Rattle.pst_subnode.specs.Faults.{AreSubFaultsTrue}
use Rattle.pst_subnode.specs.Stack.{Start, IsExpanding}
use Rattle.pst_subnode.specs.Weight.{frame_weight}
use Rattle.pst_subnode.proofs.PassLemmas.{left_of}
use Rattle.pst_subnode.proofs.walk.run_entries.Given as goal

abbrev pub invariant-loop-sub : goal.invariant-loop-sub
invariant-loop-sub l = record {
  same : l.stack.items ≡ l.initial.stack.items;
  goes : (a : Start) → IsExpanding (table_of l.blocks) a l.initial.stack.items l.frame l.initial.seen l.initial.heights → IsExpanding (table_of l.blocks) a l.initial.stack.items (left_of l.frame l.most (Entries l.rest)) l.seen l.heights;
  faults : AreSubFaultsTrue (table_of l.blocks) l.faults;
  light : frame_weight (left_of l.frame l.most (Entries l.rest)) ≤ frame_weight l.frame;
}

abbrev pub decreases-loop-sub : goal.decreases-loop-sub
decreases-loop-sub l = length (subs_left l.rest)
