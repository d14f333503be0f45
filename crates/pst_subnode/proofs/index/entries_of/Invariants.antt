use Rattle.std.proofs.Common.{◌≡◌, ◌++◌, length}
use Rattle.pst_subnode.specs.Left.{subs_left}
use Rattle.pst_subnode.proofs.index.entries_of.Given as goal

abbrev pub invariant-loop-sub : goal.invariant-loop-sub
invariant-loop-sub l = l.entries.items ++ subs_left l.rest ≡ subs_left l.subs

abbrev pub decreases-loop-sub : goal.decreases-loop-sub
decreases-loop-sub l = length (subs_left l.rest)
