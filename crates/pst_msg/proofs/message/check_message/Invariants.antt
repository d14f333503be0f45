use Rattle.std.proofs.Common.{◌+◌, ◌∷◌, reverse}
use Rattle.std.specs.Prelude.{sum_by}
use Rattle.pst_ndb.specs.Views.{table_of_node, roots_of}
use Rattle.pst_msg.specs.Counts.{HasMessage}
use Rattle.pst_msg.specs.Frames.{IsStack}
use Rattle.pst_msg.specs.Growth.{Grows}
use Rattle.pst_msg.specs.Known.{IsTrueOf}
use Rattle.pst_msg.specs.Steps.{frame_steps}
use Rattle.pst_msg.proofs.message.check_message.Given as goal

-- what is left of the last message and of those that wait for it is the message's first fault
abbrev pub invariant-loop-stack : goal.invariant-loop-stack
invariant-loop-stack l = record {
  known : IsTrueOf (table_of_node l.node) l.known;
  grows : Grows (table_of_node l.node) (λ nodes. HasMessage (table_of_node l.node) nodes (roots_of l.node)) l.fn.known l.known;
  stack : IsStack (table_of_node l.node) (roots_of l.node) l.known (l.last ∷ reverse l.stack.items);
}

-- each turn is one of the walk afresh
abbrev pub decreases-loop-stack : goal.decreases-loop-stack
decreases-loop-stack l = frame_steps (table_of_node l.node) l.last + sum_by (frame_steps (table_of_node l.node)) l.stack.items
