use Rattle.std.proofs.Common.{◌+◌, length, ap, arith}
use Rattle.pst_msg.proofs.indexes.entries_of.Goals as goal

pub loop-sub-preserved : goal.loop-sub-preserved
loop-sub-preserved c =
    let before = c.loop-sub.invariant in
    let rest = ap length c.in-Some.ensures.steps in
    (before.0 + 1, omega (arith, before.1, rest), omega (arith, before.2, c.saturating_add-count.ensures))
