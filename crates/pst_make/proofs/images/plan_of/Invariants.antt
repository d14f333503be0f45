use Rattle.std.proofs.Common.{◌≡◌, ◌+◌, ◌*◌, map, take}
use Rattle.pst_make.specs.Plan.{bodies_of, bids_of, first_bids}
use Rattle.pst_make.proofs.images.plan_of.Given as goal

abbrev pub invariant-loop-body : goal.invariant-loop-body
invariant-loop-body l = record {
  bid : l.bid ≡ 4 + 4 * l.body-index;
  bodies : bodies_of l.blocks.items ≡ take l.body-index (map (λ body. body.now) l.bodies);
  bids : bids_of l.blocks.items ≡ first_bids l.body-index;
}
