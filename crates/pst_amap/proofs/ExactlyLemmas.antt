-- Lists of spans in the order of their places: two with the same spans are one.
use Rattle.std.proofs.Common.{◌≡◌, ℕ, zero, suc, ◌+◌, ◌<◌, ◌≤◌, List, [], ◌∷◌, ◌++◌, refl, sym, ap, ◌∙◌, arith, ◌⊎◌, inl, inr}
use Rattle.std.specs.List.{Contains}
use Rattle.pst_bytes.specs.declared.span.Span.{Span}
use Rattle.pst_amap.specs.Grammar.{PlacesRise, AreExactly}

-- ---- what a list has

pub none_there : (s : Span) → Contains {X = Span} [] s → ⊥
none_there s (k, lt, e) = absurd (omega arith)

pub first_there : (x : Span) (xs : List Span) → Contains (x ∷ xs) x
first_there x xs = (0, omega arith, refl)

pub later_there : (x s : Span) (xs : List Span) → Contains xs s → Contains (x ∷ xs) s
later_there x s xs (k, lt, e) = (suc k, omega arith, e)

pub first_or_later : (x s : Span) (xs : List Span) → Contains (x ∷ xs) s → (x ≡ s) ⊎ Contains xs s
first_or_later x s xs (zero, lt, e) = inl e
first_or_later x s xs (suc k, lt, e) = inr (k, omega arith, e)

-- ---- places that rise

pub rise_lower : (low from : ℕ) (xs : List Span) → low ≤ from → PlacesRise from xs → PlacesRise low xs
rise_lower low from [] le rise = tt
rise_lower low from (x ∷ xs) le rise = (omega (arith, rise.0), rise.1)

pub rise_above : (from : ℕ) (s : Span) (xs : List Span) → PlacesRise from xs → Contains xs s → from ≤ s.at
rise_above from s [] rise there = absurd (none_there s there)
rise_above from s (x ∷ xs) rise there =
    elim (first_or_later x s xs there) [
      | inl here ↦ let at : x.at ≡ s.at = ap (λ (t : Span). t.at) here in omega (arith, rise.0, at)
      | inr later ↦ let more = rise_above (x.at + 1) s xs rise.1 later in omega (arith, rise.0, more)
    ]

pub rise_append : (from mid : ℕ) (xs ys : List Span) → from ≤ mid → PlacesRise from xs → ((s : Span) → Contains xs s → s.at < mid) → PlacesRise mid ys → PlacesRise from (xs ++ ys)
rise_append from mid [] ys le rise below more = rise_lower from mid ys le more
rise_append from mid (x ∷ xs) ys le rise below more =
    let here : x.at < mid = below x (first_there x xs) in
    (rise.0, rise_append (x.at + 1) mid xs ys (omega (arith, here)) rise.1 (λ s there. below s (later_there x s xs there)) more)

-- ---- the same spans

-- behind the first, a list has the others
others : (x s : Span) (xs : List Span) → x.at < s.at → Contains (x ∷ xs) s → Contains xs s
others x s xs lt there =
    elim (first_or_later x s xs there) [
      | inl here ↦ let at : x.at ≡ s.at = ap (λ (t : Span). t.at) here in absurd (omega (arith, at, lt))
      | inr later ↦ later
    ]

same_first : (x y : Span) (xs ys : List Span) → PlacesRise (x.at + 1) xs → PlacesRise (y.at + 1) ys → Contains (y ∷ ys) x → Contains (x ∷ xs) y → x ≡ y
same_first x y xs ys rise more x_there y_there =
    elim (first_or_later y x ys x_there) [
      | inl here ↦ sym here
      | inr later ↦
          elim (first_or_later x y xs y_there) [
            | inl here ↦ here
            | inr behind ↦
                let a = rise_above (y.at + 1) x ys more later in
                let b = rise_above (x.at + 1) y xs rise behind in
                absurd (omega (arith, a, b))
          ]
    ]

same_spans : (from other : ℕ) (xs ys : List Span) → PlacesRise from xs → PlacesRise other ys → ((s : Span) → Contains xs s → Contains ys s) → ((s : Span) → Contains ys s → Contains xs s) → xs ≡ ys
same_spans from other [] [] rise more f g = refl
same_spans from other [] (y ∷ ys) rise more f g = absurd (none_there y (g y (first_there y ys)))
same_spans from other (x ∷ xs) [] rise more f g = absurd (none_there x (f x (first_there x xs)))
same_spans from other (x ∷ xs) (y ∷ ys) rise more f g =
    let first : x ≡ y = same_first x y xs ys rise.1 more.1 (f x (first_there x xs)) (g y (first_there y ys)) in
    let at : x.at ≡ y.at = ap (λ (t : Span). t.at) first in
    let rest : xs ≡ ys =
    same_spans (x.at + 1) (y.at + 1) xs ys rise.1 more.1
    (λ s there. let above = rise_above (x.at + 1) s xs rise.1 there in others y s ys (omega (arith, above, at)) (f s (later_there x s xs there)))
    (λ s there. let above = rise_above (y.at + 1) s ys more.1 there in others x s xs (omega (arith, above, at)) (g s (later_there y s ys there))) in
    ap (λ (t : Span). t ∷ xs) first ∙ ap (λ (ts : List Span). y ∷ ts) rest

-- there is one list of the spans of which a fact holds
pub exactly_one : (Fact : Span → Type 0) (xs ys : List Span) → AreExactly Fact xs → AreExactly Fact ys → xs ≡ ys
exactly_one Fact xs ys a b = same_spans 0 0 xs ys a.rise b.rise (λ s there. (b.these s).1 ((a.these s).0 there)) (λ s there. (a.these s).1 ((b.these s).0 there))
