-- The lengths of the bodies of a plan.
use Rattle.std.proofs.Common.{◌≡◌, ℕ, suc, ◌+◌, ◌*◌, ◌<◌, List, [], ◌∷◌, ◌++◌, length, map, take, get_or, refl, sym, ap, ◌∙◌, arith, Bor}
use Rattle.std.proofs.lemmas.List.{get_or-map, map-append, length-map, take_more}
use Rattle.pst_make.specs.declared.plan.BlockPlan.{BlockPlan}
use Rattle.pst_make.specs.Plan.{body_lengths, bodies_of, bids_of, first_bids}

abbrev slice_bytes : Bor (List ℕ) → List ℕ
slice_bytes body = body.now

abbrev block_bytes : BlockPlan → List ℕ
block_bytes block = block.body.items

abbrev block_bid : BlockPlan → ℕ
block_bid block = block.bid

-- one body more
pub bodies_step : (blocks : List BlockPlan) (block : BlockPlan) (bodies : List (Bor (List ℕ))) (i : ℕ) (body : Bor (List ℕ)) → i < length bodies
    → block.body.items ≡ (get_or bodies i body).now → bodies_of blocks ≡ take i (map slice_bytes bodies)
    → bodies_of (blocks ++ block ∷ []) ≡ take (i + 1) (map slice_bytes bodies)
bodies_step blocks block bodies i body lt same so_far =
    let long : i < length (map slice_bytes bodies) = rw (length-map bodies slice_bytes) lt in
    let here : get_or (map slice_bytes bodies) i [] ≡ block.body.items = get_or-map slice_bytes bodies i body [] lt ∙ sym same in
    map-append block_bytes blocks (block ∷ []) ∙ rw (so_far, take_more (map slice_bytes bodies) i [] long, here) refl

pub bids_step : (blocks : List BlockPlan) (block : BlockPlan) (i : ℕ) → block.bid ≡ 4 + 4 * i → bids_of blocks ≡ first_bids i → bids_of (blocks ++ block ∷ []) ≡ first_bids (i + 1)
bids_step blocks block i is so_far =
    let next : i + 1 ≡ suc i = omega arith in
    let bid : block.bid ≡ 4 * suc i = omega (arith, is) in
    map-append block_bid blocks (block ∷ []) ∙ rw (so_far, bid, next) refl

-- the lengths of the bodies
pub lengths_are : (blocks : List BlockPlan) (bodies : List (List ℕ)) → bodies_of blocks ≡ bodies → body_lengths blocks ≡ map length bodies
lengths_are blocks bodies same = again blocks ∙ ap (map length) same
  where
    again : (blocks : List BlockPlan) → body_lengths blocks ≡ map length (bodies_of blocks)
    again [] = refl
    again (block ∷ rest) = ap (λ (ns : List ℕ). length block.body.items ∷ ns) (again rest)
