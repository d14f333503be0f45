use Rattle.std.proofs.Common.{length, ap, arith}
use Rattle.pst_msg.proofs.indexes.is_long.Goals as goal

pub loop-sub-preserved : goal.loop-sub-preserved
loop-sub-preserved c =
    let before = c.loop-sub.invariant in
    let rest = ap length c.in-Some.ensures.steps in
    record { passed = omega (arith, before.passed, rest); few = omega (arith, before.few, c.if-count-eq-FEW.false) }
