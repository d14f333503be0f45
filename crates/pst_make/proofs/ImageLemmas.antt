-- The fixed images are small: one region each.
use Rattle.std.proofs.Common.{◌≡◌, ℕ, false, ◌||◌, List, [], ◌∷◌, length, Result, Ok, Err, refl, ap, ◌∙◌}
use Rattle.std.specs.Prelude.{IfOk, nat_lt}
use Rattle.std.specs.List.{list_any}
use Rattle.std.specs.Global.{Vec}
use Rattle.std.specs.declared.alloc.AllocError.{AllocError}
use Rattle.pst_make.specs.declared.plan.BlockPlan.{BlockPlan}
use Rattle.pst_make.specs.declared.plan.Plan.{Plan}
use Rattle.pst_make.specs.Layout.{layout_end, tree_pages, branch_pages, place_of, plan_end, store_length}
use Rattle.pst_make.specs.Made.{IsMade}
use Rattle.pst_make.specs.Plan.{body_length, body_lengths, has_long_body}

-- whether a body is too long, by the lengths
long_is : (blocks : List BlockPlan) → has_long_body blocks ≡ list_any (λ n. nat_lt 8176 n) (body_lengths blocks)
long_is [] = refl
long_is (block ∷ rest) = ap (λ b. nat_lt 8176 (body_length block) || b) (long_is rest)

pub short_is : (blocks : List BlockPlan) (lengths : List ℕ) → body_lengths blocks ≡ lengths → list_any (λ n. nat_lt 8176 n) lengths ≡ false → has_long_body blocks ≡ false
short_is blocks lengths same none = long_is blocks ∙ ap (list_any (λ n. nat_lt 8176 n)) same ∙ none

pub ends_at : (plan : Plan) (nodes : ℕ) (lengths : List ℕ) (end : ℕ) → length plan.nodes.items ≡ nodes → body_lengths plan.blocks.items ≡ lengths → layout_end nodes lengths ≡ end → plan_end plan ≡ end
ends_at plan nodes lengths end n l e = rw (n, l) e

pub m0_end : layout_end 2 (44 ∷ 38 ∷ []) ≡ 19584
unfolding layout_end tree_pages branch_pages place_of
m0_end = refl

pub m1_end : layout_end 4 (44 ∷ 38 ∷ 90 ∷ []) ≡ 19712
unfolding layout_end tree_pages branch_pages place_of
m1_end = refl

pub m2_end : layout_end 3 (44 ∷ 38 ∷ 100 ∷ []) ≡ 19712
unfolding layout_end tree_pages branch_pages place_of
m2_end = refl

pub made_length : (plan : Plan) (end : ℕ) (r : Result (Vec ℕ) AllocError) → plan_end plan ≡ end → store_length end ≡ 271360 → IfOk r (IsMade plan) → IfOk r (λ image. length image.items ≡ 271360)
made_length plan end (Ok image) is long made = made.length_is ∙ ap store_length is ∙ long
made_length plan end (Err e) is long made = tt
