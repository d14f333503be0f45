use Rattle.std.proofs.Common.{refl, arith, ap, length}
use Rattle.pst_make.proofs.ImageLemmas.{short_is, ends_at, made_length, m0_end}
use Rattle.pst_make.proofs.PlanLemmas.{lengths_are}
use Rattle.pst_make.proofs.images.m0.Goals as goal

pub image_of-requires-clause-short : goal.image_of-requires-clause-short
image_of-requires-clause-short c = short_is _ _ (lengths_are _ _ c.in_ok-plan.ensures.bodies) refl

pub image_of-requires-clause-fits : goal.image_of-requires-clause-fits
image_of-requires-clause-fits c =
    let end = ends_at c.in_ok-plan.plan _ _ _ (ap length c.in_ok-plan.ensures.nodes) (lengths_are _ _ c.in_ok-plan.ensures.bodies) m0_end in
    omega (arith, end)

pub returns : goal.returns
returns c =
    let end = ends_at c.in_ok-plan.plan _ _ _ (ap length c.in_ok-plan.ensures.nodes) (lengths_are _ _ c.in_ok-plan.ensures.bodies) m0_end in
    made_length _ _ c.image_of.result end refl c.image_of.ensures
