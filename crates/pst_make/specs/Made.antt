-- What a maker of stores answers, by the plan alone.
use Rattle.std.specs.Prelude.{◌≡◌, ℕ, ◌≤◌, ◌<◌, true, false, length}
use Rattle.std.specs.Global.{Vec}
use Rattle.pst_make.specs.declared.plan.MakeFault.{MakeFault}
use Rattle.pst_make.specs.declared.plan.MakeFault.TheVariants.{TooLarge, Body, Memory}
use Rattle.pst_make.specs.declared.plan.Plan.{Plan}
use Rattle.pst_make.specs.Layout.{plan_end, store_limit, store_length}
use Rattle.pst_make.specs.Plan.{has_long_body}
use Rattle.pst_make.specs.Sealed.{SealedHeader}

-- An image was made: no body is too long, and all pages and blocks end within 16 regions. The image is as many regions
-- as they take, and its header is sealed.
pub record IsMade (plan : Plan) (image : Vec ℕ) : Type 0 where
  pub short : has_long_body plan.blocks.items ≡ false
  pub fits : plan_end plan ≤ store_limit
  pub length_is : length image.items ≡ store_length (plan_end plan)
  pub sealed : SealedHeader image.items

-- None was made: a body is too long; or none is, and the pages and blocks end behind 16 regions; or memory was refused
-- where no body is too long. With IsMade this says exactly when the answer is Body, and, memory aside, when it is
-- TooLarge.
abbrev pub IsMakeFault : Plan → MakeFault → Type 0
IsMakeFault plan Body = has_long_body plan.blocks.items ≡ true
IsMakeFault plan TooLarge = (has_long_body plan.blocks.items ≡ false) × (store_limit < plan_end plan)
IsMakeFault plan Memory = has_long_body plan.blocks.items ≡ false
