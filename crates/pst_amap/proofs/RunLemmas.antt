-- The runs of the units that a test picks are exactly those that a walk finds.
use Rattle.std.proofs.Common.{◌≡◌, ℕ, zero, suc, ◌+◌, ◌-◌, ◌*◌, ◌<◌, ◌≤◌, inl, inr, Bool, true, List, [], ◌∷◌, refl, sym, ap, ◌∙◌, arith}
use Rattle.std.specs.List.{Contains}
use Rattle.std.proofs.lemmas.Bool.{cases_lt}
use Rattle.pst_bytes.specs.declared.span.Span.{Span}
use Rattle.pst_fault.proofs.GeneralLemmas.{true_false}
use Rattle.pst_amap.specs.Grammar.{PlacesRise, AreExactly}
use Rattle.pst_amap.specs.Lost.{units_at, runs_from, IsRun, AreRuns, LiesInSome}
use Rattle.pst_amap.proofs.ExactlyLemmas.{none_there, first_there, later_there, first_or_later, rise_lower}
use Rattle.pst_amap.proofs.RunLaws.{runs_law}

-- ---- two runs with a unit in common are one

none_before : (picked : ℕ → Bool) (n u : ℕ) (s t : Span) (a : IsRun picked n s) (b : IsRun picked n t) → a.first ≤ u → u < a.first + a.count → b.first ≤ u → a.first < b.first → ⊥
none_before picked n u s t a b low high from lt =
    elim b.before [
      | inl start ↦ absurd (omega (arith, start, lt))
      | inr gap ↦ true_false (picked (b.first - 1)) (a.all (b.first - 1) (omega (arith, lt)) (omega (arith, lt, from, high))) gap
    ]

none_behind : (picked : ℕ → Bool) (n u : ℕ) (s t : Span) (a : IsRun picked n s) (b : IsRun picked n t) → u < a.first + a.count → b.first ≤ u → a.first + a.count < b.first + b.count → ⊥
none_behind picked n u s t a b high from lt =
    elim a.behind [
      | inl end ↦ absurd (omega (arith, end, lt, b.inside))
      | inr gap ↦ true_false (picked (a.first + a.count)) (b.all (a.first + a.count) (omega (arith, from, high)) lt) gap
    ]

same_run : (picked : ℕ → Bool) (n u : ℕ) (s t : Span) (a : IsRun picked n s) (b : IsRun picked n t) → a.first ≤ u → u < a.first + a.count → b.first ≤ u → u < b.first + b.count → s ≡ t
same_run picked n u s t a b low high from below =
    let first : a.first ≡ b.first =
    elim (cases_lt a.first b.first) [
      | inl less ↦ absurd (none_before picked n u s t a b low high from less)
      | inr more ↦
          elim (cases_lt b.first a.first) [
            | inl less ↦ absurd (none_before picked n u t s b a from below low less)
            | inr least ↦ omega (arith, more, least)
          ]
    ] in
    let ends : a.first + a.count ≡ b.first + b.count =
    elim (cases_lt (a.first + a.count) (b.first + b.count)) [
      | inl less ↦ absurd (none_behind picked n u s t a b high from less)
      | inr more ↦
          elim (cases_lt (b.first + b.count) (a.first + a.count)) [
            | inl less ↦ absurd (none_behind picked n u t s b a below low less)
            | inr least ↦ omega (arith, more, least)
          ]
    ] in
    let count : a.count ≡ b.count = omega (arith, first, ends) in
    a.is ∙ ap (λ (f : ℕ). units_at f a.count) first ∙ ap (λ (c : ℕ). units_at b.first c) count ∙ sym b.is

-- ---- the runs that are found

-- the units of a run, by the places of its bytes
pub run_units : (picked : ℕ → Bool) (n u : ℕ) (t : Span) (b : IsRun picked n t) → t.at ≤ 17408 + 64 * u → 17408 + 64 * u < t.at + t.len → (b.first ≤ u) × (u < b.first + b.count)
run_units picked n u t b low high =
    let at : t.at ≡ 17408 + 64 * b.first = ap (λ (s : Span). s.at) b.is in
    let len : t.len ≡ 64 * b.count = ap (λ (s : Span). s.len) b.is in
    (omega (arith, at, low), omega (arith, at, len, high))

pub runs_are : (picked : ℕ → Bool) (n from : ℕ) (s : Span) (spans : List Span) → AreRuns picked n from spans → Contains spans s → IsRun picked n s
runs_are picked n from s [] runs there = absurd (none_there s there)
runs_are picked n from s (t ∷ ts) runs there =
    elim (first_or_later t s ts there) [
      | inl here ↦ rw here at runs.1
      | inr later ↦ runs_are picked n (t.at + t.len) s ts runs.2 later
    ]

runs_rise : (picked : ℕ → Bool) (n from : ℕ) (spans : List Span) → AreRuns picked n from spans → PlacesRise from spans
runs_rise picked n from [] runs = tt
runs_rise picked n from (t ∷ ts) runs =
    let len : t.len ≡ 64 * runs.1.count = ap (λ (s : Span). s.len) runs.1.is in
    let some : 0 < runs.1.count = runs.1.some in
    (runs.0, rise_lower (t.at + 1) (t.at + t.len) ts (omega (arith, len, some)) (runs_rise picked n (t.at + t.len) ts runs.2))

-- the span in which a unit lies
pub lies_in : (u : ℕ) (spans : List Span) → LiesInSome u spans → (t : Span) × Contains spans t × (t.at ≤ 17408 + 64 * u) × (17408 + 64 * u < t.at + t.len)
lies_in u [] lies = absurd lies
lies_in u (t ∷ ts) (inl here) = (t, first_there t ts, here.0, here.1)
lies_in u (t ∷ ts) (inr later) = let found = lies_in u ts later in (found.0, later_there t found.0 ts found.1, found.2, found.3)

run_found : (picked : ℕ → Bool) (n : ℕ) (s : Span) → IsRun picked n s → Contains (runs_from picked 0 0 n) s
run_found picked n s a =
    let law = runs_law picked n in
    let inside : a.first < n = omega (arith, a.some, a.inside) in
    let here : picked a.first ≡ true = a.all a.first (omega arith) (omega (arith, a.some)) in
    let found = lies_in a.first (runs_from picked 0 0 n) (law.1 a.first inside here) in
    let b = runs_are picked n 0 found.0 (runs_from picked 0 0 n) law.0 found.1 in
    let units = run_units picked n a.first found.0 b found.2 found.3 in
    let same : s ≡ found.0 = same_run picked n a.first s found.0 a b (omega arith) (omega (arith, a.some)) units.0 units.1 in
    rw same found.1

pub runs_exactly : (picked : ℕ → Bool) (n : ℕ) → AreExactly (IsRun picked n) (runs_from picked 0 0 n)
runs_exactly picked n =
    let runs = (runs_law picked n).0 in
    record {
      these = λ s. (λ there. runs_are picked n 0 s (runs_from picked 0 0 n) runs there, run_found picked n s);
      rise = runs_rise picked n 0 (runs_from picked 0 0 n) runs;
    }

-- ---- two tests that pick the same units

pub runs_same : (p q : ℕ → Bool) (run unit n : ℕ) → ((u : ℕ) → unit ≤ u → u < unit + n → p u ≡ q u) → runs_from p run unit n ≡ runs_from q run unit n
unfolding runs_from
runs_same p q run unit zero same = refl
runs_same p q run unit (suc n) same =
    rw (same unit (omega arith) (omega arith), runs_same p q (suc run) (unit + 1) n (λ u low high. same u (omega arith) (omega arith)), runs_same p q 0 (unit + 1) n (λ u low high. same u (omega arith) (omega arith))) refl
