use Rattle.std.proofs.Common.{◌≡◌, ◌≤◌, length, None}
use Rattle.pst_ndb.specs.Views.{table_of_node, roots_of}
use Rattle.pst_msg.specs.Rest.{rows_of_table_left}
use Rattle.pst_msg.specs.Counts.{HasMessage}
use Rattle.pst_msg.specs.Frames.{IsFrame, HasHolder, with_rest}
use Rattle.pst_msg.specs.Growth.{Grows}
use Rattle.pst_msg.specs.Known.{IsTrueOf}
use Rattle.pst_msg.specs.Steps.{frame_steps}
use Rattle.pst_msg.proofs.message.go_on.Given as goal

-- what is left of the message is that of the rows that are left, and only these are fewer
abbrev pub invariant-loop-row : goal.invariant-loop-row
invariant-loop-row l =
    let t = table_of_node l.fn.frame.node in
    record {
      only : l.frame ≡ with_rest l.fn.frame l.frame.rest;
      known : IsTrueOf t l.known;
      grows : Grows t (λ nodes. HasMessage t nodes (roots_of l.fn.frame.node)) l.fn.known l.known;
      frame : IsFrame t l.known None None l.frame;
      holder : HasHolder t l.known l.frame;
      steps : frame_steps t l.frame ≤ frame_steps t l.fn.frame;
    }

abbrev pub decreases-loop-row : goal.decreases-loop-row
decreases-loop-row l = length (rows_of_table_left l.frame.rest)
