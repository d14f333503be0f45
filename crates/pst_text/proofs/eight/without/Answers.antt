use Rattle.std.proofs.Common.{◌/◌, ◌^◌, replicate, refl}
use Rattle.pst_text.proofs.UnitLanes.{both_long, lane_with}
use Rattle.pst_text.proofs.eight.without.Goals as goal

pub returns-clause-long : goal.returns-clause-long
returns-clause-long c = both_long (λ a b. a / 2 ^ b) c.args.units (replicate 8 c.args.bits) c.requires.units refl

pub returns-clause-lanes : goal.returns-clause-lanes
returns-clause-lanes c k lt = lane_with (λ a b. a / 2 ^ b) c.args.units c.args.bits k c.requires.units lt
