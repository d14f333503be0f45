use Rattle.std.proofs.Common.{◌≡◌}
use Rattle.pst_subnode.specs.Left.{subs_left}
use Rattle.pst_subnode.proofs.entries.Subs.opened.Given as goal

abbrev pub invariant-loop-subs : goal.invariant-loop-subs
invariant-loop-subs l = subs_left l.subs ≡ subs_left l.self

abbrev pub decreases-loop-subs : goal.decreases-loop-subs
decreases-loop-subs l = l.subs.leaves.left
