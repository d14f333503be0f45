-- In which units spans lie.
use Rattle.std.proofs.Common.{◌≡◌, ℕ, ◌+◌, ◌<◌, ◌≤◌, ◌⊎◌, inl, inr, Bool, true, false, ◌||◌, ◌&&◌, leb, List, [], ◌∷◌, ◌++◌, refl, ap, ◌∙◌, arith}
use Rattle.std.specs.List.{Contains}
use Rattle.std.proofs.lemmas.Bool.{cases_lt, lt-leb, le-ltb, or_cases}
use Rattle.pst_bytes.specs.declared.span.Span.{Span}
use Rattle.pst_bytes.specs.Span.{IsApartFrom, IsApartFromAll, end_of_span}
use Rattle.pst_fault.proofs.GeneralLemmas.{true_false, or_true, or_grouped}
use Rattle.pst_space.specs.Apart.{AreUnits, covers, is_covered}
use Rattle.pst_space.specs.Claimed.{Claimed, IsUnits, first_unit, unit_count}
use Rattle.pst_space.proofs.ApartLemmas.{units_before, units_reach, units_some}
use Rattle.pst_amap.proofs.ExactlyLemmas.{none_there, first_there, later_there, first_or_later}
use Rattle.pst_amap.proofs.OldPageLaws.{units_covers}

-- ---- one of some spans

pub covered_append : (xs ys : List Span) (u : ℕ) → is_covered (xs ++ ys) u ≡ (is_covered xs u || is_covered ys u)
covered_append [] ys u = refl
covered_append (x ∷ xs) ys u = ap (λ b. covers x u || b) (covered_append xs ys u) ∙ or_grouped (covers x u) (is_covered xs u) (is_covered ys u)

pub covered_by : (xs : List Span) (u : ℕ) → is_covered xs u ≡ true → (s : Span) × Contains xs s × (covers s u ≡ true)
covered_by [] u e = absurd cc
covered_by (x ∷ xs) u e =
    elim (or_cases (covers x u) (is_covered xs u) e) [
      | inl here ↦ (x, first_there x xs, here)
      | inr later ↦ let found = covered_by xs u later in (found.0, later_there x found.0 xs found.1, found.2)
    ]

pub by_covered : (xs : List Span) (s : Span) (u : ℕ) → Contains xs s → covers s u ≡ true → is_covered xs u ≡ true
by_covered [] s u there c = absurd (none_there s there)
by_covered (x ∷ xs) s u there c =
    elim (first_or_later x s xs there) [
      | inl here ↦ let e : covers x u ≡ true = ap (λ (t : Span). covers t u) here ∙ c in rw e refl
      | inr later ↦ rw (by_covered xs s u later c) (or_true (covers x u))
    ]

-- ---- none of the units of a span

-- no unit of a span is covered
abbrev pub IsUncovered : List Span → Span → Type 0
IsUncovered spans s = (u : ℕ) → first_unit s ≤ u → u < first_unit s + unit_count s → is_covered spans u ≡ false

outside : (t : Span) (u : ℕ) → (u < first_unit t) ⊎ (first_unit t + unit_count t ≤ u) → covers t u ≡ false
outside t u (inl before) = rw (lt-leb (first_unit t) u before) refl
outside t u (inr past) = rw (le-ltb u (first_unit t + unit_count t) past) (either (leb (first_unit t) u))
  where
    either : (b : Bool) → (b && false) ≡ false
    either true = refl
    either false = refl

apart_out : (m : Claimed) (s t : Span) (u : ℕ) → IsUnits m s → IsUnits m t → IsApartFrom s t → first_unit s ≤ u → u < first_unit s + unit_count s → covers t u ≡ false
apart_out m s t u a b (inl le) low high = outside t u (inl (omega (arith, units_before m s t a b le)))
apart_out m s t u a b (inr le) low high = outside t u (inr (omega (arith, units_before m t s b a le)))

out_apart : (m : Claimed) (s t : Span) → IsUnits m s → IsUnits m t → ((u : ℕ) → first_unit s ≤ u → u < first_unit s + unit_count s → covers t u ≡ false) → IsApartFrom s t
out_apart m s t a b out =
    elim (cases_lt t.at (end_of_span s)) [
      | inr before ↦ inl before
      | inl past ↦
          elim (cases_lt s.at (end_of_span t)) [
            | inr fit ↦ inr fit
            | inl clash ↦
                let reach = units_reach m t s b a past in
                let back = units_reach m s t a b clash in
                elim (cases_lt (first_unit s) (first_unit t)) [
                  | inl less ↦
                      absurd (true_false (covers t (first_unit t)) (units_covers t (first_unit t) (omega arith) (omega (arith, units_some m t b))) (out (first_unit t) (omega (arith, less)) reach))
                  | inr more ↦
                      absurd (true_false (covers t (first_unit s)) (units_covers t (first_unit s) more back) (out (first_unit s) (omega arith) (omega (arith, units_some m s a))))
                ]
          ]
    ]

or_none : (a b : Bool) → (a || b) ≡ false → (a ≡ false) × (b ≡ false)
or_none true b e = absurd cc
or_none false b e = (refl, e)

pub apart_uncovered : (m : Claimed) (s : Span) (ts : List Span) → IsUnits m s → AreUnits m ts → IsApartFromAll s ts → IsUncovered ts s
apart_uncovered m s [] a b apart u low high = refl
apart_uncovered m s (t ∷ ts) a b apart u low high = rw (apart_out m s t u a b.0 apart.0 low high) (apart_uncovered m s ts a b.1 apart.1 u low high)

pub uncovered_apart : (m : Claimed) (s : Span) (ts : List Span) → IsUnits m s → AreUnits m ts → IsUncovered ts s → IsApartFromAll s ts
uncovered_apart m s [] a b out = tt
uncovered_apart m s (t ∷ ts) a b out = (
  out_apart m s t a b.0 (λ u low high. (or_none (covers t u) (is_covered ts u) (out u low high)).0),
  uncovered_apart m s ts a b.1 (λ u low high. (or_none (covers t u) (is_covered ts u) (out u low high)).1),
)
