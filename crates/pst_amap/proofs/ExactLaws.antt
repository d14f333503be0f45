-- The maps mark exactly what is claimed, and the lost runs.
use Rattle.std.proofs.Common.{◌≡◌, ℕ, suc, zero, ◌+◌, ◌-◌, ◌*◌, ◌/◌, ◌<◌, ◌≤◌, Bool, true, false, not, cond, List, [], ◌∷◌, length, Option, Some, None, refl, sym, ap, subst, ◌∙◌, arith, inl, inr}
use Rattle.std.proofs.lemmas.Bool.{cases_lt, cases_Bool, and_parts}
use Rattle.std.proofs.lemmas.Option.{cond_some}
use Rattle.pst_bytes.specs.declared.span.Span.{Span}
use Rattle.pst_header.specs.Header.{end_of, amap_place, amap_count_of}
use Rattle.pst_space.specs.Claimed.{Claimed, flag_of, first_unit, with_span, claim_of, page_at}
use Rattle.pst_space.proofs.MarkLemmas.{filled_out}
use Rattle.pst_space.proofs.MapLemmas.{length_with_span}
use Rattle.pst_amap.specs.declared.report.BitOrder.{BitOrder}
use Rattle.pst_amap.specs.Lost.{is_lost, lost_runs, IsRun, AreRuns, LiesInSome}
use Rattle.pst_amap.specs.Marks.{is_marked, bit_order_of}
use Rattle.pst_amap.specs.Old.{OldMaps, are_marked, looks_old, with_old, old_step, old_below}
use Rattle.pst_amap.specs.Report.{old_maps, IsMarked}
use Rattle.pst_amap.proofs.MapsLaws.{maps_law}
use Rattle.pst_amap.proofs.RunLaws.{runs_law}
use Rattle.pst_amap.specs.Exact.{MarkExactly, ExactLaw}

-- ---- old map pages

pub all_marked : (order : BitOrder) (I : List ℕ) (unit n k : ℕ) → are_marked order I unit n ≡ true → unit ≤ k → k < unit + n → is_marked order I k ≡ true
all_marked order I unit zero k e le lt = absurd (omega arith)
all_marked order I unit (suc n) k e le lt =
    let both = and_parts (is_marked order I unit) (are_marked order I (unit + 1) n) e in
    elim (cases_lt unit k) [
      | inl below ↦ all_marked order I (unit + 1) n k both.1 (omega arith) (omega arith)
      | inr above ↦ let same : unit ≡ k = omega arith in ap (is_marked order I) (sym same) ∙ both.0
    ]

-- what looks old has its units marked
old_are_marked : (order : BitOrder) (I : List ℕ) (end at : ℕ) → looks_old order I end at ≡ true → are_marked order I ((at - 17408) / 64) 8 ≡ true
unfolding looks_old
old_are_marked order I end at e = (and_parts _ _ e).1

-- a page more is claimed, all of whose units are marked
page_marked : (order : BitOrder) (I : List ℕ) (old more : Claimed) (at : ℕ) → are_marked order I ((at - 17408) / 64) 8 ≡ true → claim_of old (page_at at) ≡ Some more → IsMarked order I old → IsMarked order I more
unfolding claim_of with_span
page_marked order I old more at units e marked unit lt flag =
    let is : with_span old (page_at at) ≡ more = (cond_some _ _ _ e).1 in
    let long : length more ≡ length old = ap length (sym is) ∙ length_with_span old (page_at at) in
    elim (cases_lt unit (first_unit (page_at at))) [
      | inl before ↦ marked unit (omega (arith, long)) (sym (filled_out old (first_unit (page_at at)) 8 unit (inl before)) ∙ ap (λ (m : Claimed). flag_of m unit) is ∙ flag)
      | inr after ↦
          elim (cases_lt unit (first_unit (page_at at) + 8)) [
            | inl within ↦ all_marked order I (first_unit (page_at at)) 8 unit units after within
            | inr past ↦ marked unit (omega (arith, long)) (sym (filled_out old (first_unit (page_at at)) 8 unit (inr past)) ∙ ap (λ (m : Claimed). flag_of m unit) is ∙ flag)
          ]
    ]

step_marked : (order : BitOrder) (I : List ℕ) (end at : ℕ) (found : OldMaps) → IsMarked order I found.claimed → IsMarked order I (old_step order I end found at).claimed
unfolding old_step
step_marked order I end at found marked = by_look (looks_old order I end at) (old_are_marked order I end at)
  where
    by_claim : (o : Option Claimed) → ((more : Claimed) → o ≡ Some more → IsMarked order I more) → IsMarked order I (with_old found o).claimed
    by_claim None h = marked
    by_claim (Some more) h = h more refl

    by_look : (b : Bool) → (b ≡ true → are_marked order I ((at - 17408) / 64) 8 ≡ true) → IsMarked order I (with_old found (cond b (claim_of found.claimed (page_at at)) None)).claimed
    by_look true h = by_claim (claim_of found.claimed (page_at at)) (λ more e. page_marked order I found.claimed more at (h refl) e marked)
    by_look false h = marked

old_marked : (order : BitOrder) (I : List ℕ) (end n : ℕ) (found : OldMaps) → IsMarked order I found.claimed → IsMarked order I (old_below order I end found n).claimed
unfolding old_below
old_marked order I end zero found marked = marked
old_marked order I end (suc n) found marked =
    let before = old_marked order I end n found marked in
    let one = step_marked order I end (amap_place n + 1024) (old_below order I end found n) before in
    step_marked order I end (amap_place n + 1536) (old_step order I end (old_below order I end found n) (amap_place n + 1024)) one

-- ---- lost runs

run_picked : (picked : ℕ → Bool) (n : ℕ) (s : Span) (unit : ℕ) → IsRun picked n s → s.at ≤ 17408 + 64 * unit → 17408 + 64 * unit < s.at + s.len → picked unit ≡ true
run_picked picked n s unit run low high =
    let at : s.at ≡ 17408 + 64 * run.first = ap (λ (s : Span). s.at) run.is in
    let len : s.len ≡ 64 * run.count = ap (λ (s : Span). s.len) run.is in
    run.all unit (omega (arith, at)) (omega (arith, at, len))

runs_picked : (picked : ℕ → Bool) (n from unit : ℕ) (spans : List Span) → AreRuns picked n from spans → LiesInSome unit spans → picked unit ≡ true
runs_picked picked n from unit [] runs lies = absurd lies
runs_picked picked n from unit (s ∷ spans) runs (inl here) = run_picked picked n s unit runs.1 here.0 here.1
runs_picked picked n from unit (s ∷ spans) runs (inr later) = runs_picked picked n (s.at + s.len) unit spans runs.2 later

-- ---- all that is marked

lost_is_marked : (order : BitOrder) (I : List ℕ) (claimed : Claimed) (unit : ℕ) → is_lost order I claimed unit ≡ true → is_marked order I unit ≡ true
unfolding is_lost
lost_is_marked order I claimed unit e = (and_parts (is_marked order I unit) (not (flag_of claimed unit)) e).0

unclaimed_is_lost : (order : BitOrder) (I : List ℕ) (claimed : Claimed) (unit : ℕ) → is_marked order I unit ≡ true → flag_of claimed unit ≡ false → is_lost order I claimed unit ≡ true
unfolding is_lost
unclaimed_is_lost order I claimed unit e f = rw (e, f) refl

mark_exactly : (order : BitOrder) (I : List ℕ) (claimed : Claimed) → IsMarked order I claimed → MarkExactly order I claimed (lost_runs order I claimed)
mark_exactly order I claimed marked unit lt =
    let runs = runs_law (is_lost order I claimed) (length claimed) in (
      λ e. elim (cases_Bool (flag_of claimed unit)) [
        | inl flag ↦ inl flag
        | inr none ↦ inr (runs.1 unit lt (unclaimed_is_lost order I claimed unit e none))
      ],
      λ c. elim c [
        | inl flag ↦ marked unit lt flag
        | inr lies ↦ lost_is_marked order I claimed unit (runs_picked (is_lost order I claimed) (length claimed) 0 unit (lost_runs order I claimed) runs.0 lies)
      ],
    )

-- of a report of maps without fault
pub exact_law : ExactLaw
unfolding old_maps
exact_law I h claimed report none r =
    let maps = (maps_law I h claimed (bit_order_of I claimed)).1 (none, refl) in
    let old = old_marked (bit_order_of I claimed) I (end_of h) (amap_count_of h) (record { claimed = claimed; count = 0 }) maps.marked in
    let exactly = mark_exactly (bit_order_of I claimed) I (old_maps I h claimed).claimed old in
    let P : BitOrder → List Span → Type 0 = λ o lost. MarkExactly o I (old_maps I h claimed).claimed lost in
    subst (λ (o : BitOrder). P o report.lost.items) (sym r.order) (subst (P (bit_order_of I claimed)) (sym r.lost) exactly)
