-- How many units are claimed: as many as there are at the most, and a claim adds its own.
use Rattle.std.proofs.Common.{◌≡◌, ℕ, suc, zero, ◌+◌, ◌<◌, ◌≤◌, true, false, [], ◌∷◌, length, get_or, set, Some, refl, sym, ap, ◌∙◌, arith, inl, length-set}
use Rattle.std.proofs.lemmas.Option.{cond_some}
use Rattle.pst_fault.proofs.GeneralLemmas.{clear_and}
use Rattle.pst_bytes.specs.declared.span.Span.{Span}
use Rattle.pst_space.specs.Claimed.{Claimed, IsUnits, is_clear, filled, first_unit, unit_count, with_span, claim_of}
use Rattle.pst_space.specs.Marked.{marked}
use Rattle.pst_space.proofs.MarkLemmas.{clear_filled}

pub marked_most : (m : Claimed) → marked m ≤ length m
unfolding marked
marked_most [] = omega arith
marked_most (true ∷ m) = let h = marked_most m in omega (arith, h)
marked_most (false ∷ m) = let h = marked_most m in omega (arith, h)

marked_set : (m : Claimed) (u : ℕ) → u < length m → get_or m u false ≡ false → marked (set m u true) ≡ suc (marked m)
unfolding marked
marked_set [] u lt e = absurd (omega arith)
marked_set (true ∷ m) zero lt e = absurd cc
marked_set (false ∷ m) zero lt e = refl
marked_set (true ∷ m) (suc u) lt e = ap suc (marked_set m u (omega arith) e)
marked_set (false ∷ m) (suc u) lt e = marked_set m u (omega arith) e

marked_filled : (m : Claimed) (u n : ℕ) → u + n ≤ length m → is_clear m u n ≡ true → marked (filled m u n) ≡ marked m + n
marked_filled m u zero le e = omega arith
marked_filled m u (suc n) le e =
    let c = clear_and (get_or m u false) _ e in
    let rest : is_clear (set m u true) (u + 1) n ≡ true = clear_filled m u 1 (u + 1) n (inl (omega arith)) ∙ c.1 in
    let long : (u + 1) + n ≤ length (set m u true) = omega (arith, length-set m u true) in
    let one = marked_set m u (omega arith) c.0 in
    let more = marked_filled (set m u true) (u + 1) n long rest in
    omega (arith, one, more)

pub marked_claimed : (old new : Claimed) (span : Span) → IsUnits old span → claim_of old span ≡ Some new → marked new ≡ marked old + unit_count span
unfolding claim_of with_span
marked_claimed old new span u e =
    let c = cond_some _ _ _ e in
    let more = marked_filled old (first_unit span) (unit_count span) u.inside c.0 in
    ap marked (sym c.1) ∙ more
