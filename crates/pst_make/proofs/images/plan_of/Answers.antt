use Rattle.std.proofs.Common.{arith, ◌∙◌, ap}
use Rattle.pst_make.specs.Plan.{bodies_of, bids_of}
use Rattle.pst_make.proofs.PlanLemmas.{bodies_step, bids_step}
use Rattle.pst_make.proofs.images.plan_of.Goals as goal

pub loop-body-preserved : goal.loop-body-preserved
loop-body-preserved c = record {
  bid = omega (arith, c.loop-body.invariant.bid);
  bodies = ap bodies_of c.in_ok-push.ensures.items ∙ bodies_step _ _ c.args.bodies.now c.loop-body.body-index _ c.loop-body-test.true c.in_ok-body.ensures.items c.loop-body.invariant.bodies;
  bids = ap bids_of c.in_ok-push.ensures.items ∙ bids_step _ _ c.loop-body.body-index c.loop-body.invariant.bid c.loop-body.invariant.bids;
}
