-- What is claimed with the old map pages: they, and what was claimed before.
use Rattle.std.proofs.Common.{◌≡◌, ℕ, zero, suc, ◌+◌, ◌*◌, ◌%◌, ◌<◌, ◌≤◌, inl, inr, Bool, true, false, cond, ◌||◌, ◌&&◌, List, [], ◌∷◌, ◌++◌, length, Some, None, refl, sym, ap, ◌∙◌, arith, append_assoc}
use Rattle.std.proofs.lemmas.Bool.{cases_Bool}
use Rattle.pst_bytes.specs.declared.span.Span.{Span}
use Rattle.pst_fault.proofs.GeneralLemmas.{same_test}
use Rattle.pst_header.specs.declared.header.Header.{Header}
use Rattle.pst_header.specs.Header.{end_of, amap_count_of, amap_place}
use Rattle.pst_space.specs.Apart.{AreUnits, covers, is_covered}
use Rattle.pst_space.specs.Claimed.{Claimed, unit_total, flag_of, IsUnits, is_clear, first_unit, unit_count, with_span, with_spans, claim_of, page_at}
use Rattle.pst_space.proofs.ApartLemmas.{clear_free, free_clear, flag_with_spans}
use Rattle.pst_space.proofs.MapLemmas.{length_with_spans, with_spans-append}
use Rattle.pst_amap.specs.declared.report.BitOrder.{BitOrder}
use Rattle.pst_amap.specs.Grammar.{is_marked_beside}
use Rattle.pst_amap.specs.Lost.{is_lost, lost_runs, runs_from}
use Rattle.pst_amap.specs.Marks.{bit_order_of}
use Rattle.pst_amap.specs.Old.{OldMaps, looks_old, with_old, old_step, old_below}
use Rattle.pst_amap.specs.Report.{old_maps}
use Rattle.pst_amap.specs.Values.{is_apart_from_all, old_page_at, old_pages, runs_beside}
use Rattle.pst_amap.proofs.CoverLemmas.{covered_append, covered_by, IsUncovered, apart_uncovered, uncovered_apart}
use Rattle.pst_amap.proofs.OldLemmas.{looks_inside, page_whole}
use Rattle.pst_amap.proofs.OldPageLaws.{covers_units, page_there, place_has, all_apart, apart_all}
use Rattle.pst_amap.proofs.RunLemmas.{runs_same}

-- What is claimed is the units in which these spans lie, which are of whole units.
pub record IsClaimedBy (h : Header) (used : List Span) (claimed : Claimed) : Type 0 where
  pub units : length claimed ≡ unit_total h
  pub whole : AreUnits claimed used
  pub flags : (u : ℕ) → u < unit_total h → flag_of claimed u ≡ is_covered used u

-- ---- one page

or_none : (a : Bool) → (false || a) ≡ a
or_none a = refl

flag_beside : (h : Header) (used more : List Span) (claimed : Claimed) (u : ℕ) → IsClaimedBy h used claimed → u < unit_total h → flag_of (with_spans claimed more) u ≡ (is_covered more u || is_covered used u)
flag_beside h used more claimed u is lt = flag_with_spans claimed more u (omega (arith, is.units, lt)) ∙ ap (λ b. is_covered more u || b) (is.flags u lt)

-- a page on which none of the pages found before lies is clear exactly where it is apart from what is in use
page_clear : (h : Header) (used more : List Span) (claimed : Claimed) (at : ℕ) → IsClaimedBy h used claimed → IsUnits claimed (page_at at) → IsUncovered more (page_at at)
    → is_clear (with_spans claimed more) (first_unit (page_at at)) (unit_count (page_at at)) ≡ is_apart_from_all (page_at at) used
page_clear h used more claimed at is page out =
    let s = page_at at in
    let flag : (u : ℕ) → first_unit s ≤ u → u < first_unit s + unit_count s → flag_of (with_spans claimed more) u ≡ is_covered used u = λ u low high.
    flag_beside h used more claimed u is (omega (arith, page.inside, is.units, high)) ∙ ap (λ b. b || is_covered used u) (out u low high) in
    same_test _ _
    (λ clear. apart_all s used (uncovered_apart claimed s used page is.whole (λ u low high. sym (flag u low high) ∙ clear_free (with_spans claimed more) (first_unit s) (unit_count s) u clear low high)))
    (λ apart. free_clear (with_spans claimed more) (first_unit s) (unit_count s) (λ u low high. flag u low high ∙ apart_uncovered claimed s used page is.whole (all_apart s used apart) u low high))

-- a step claims the page at a place, if it is an old one
step_claims : (order : BitOrder) (I : List ℕ) (end at : ℕ) (used : List Span) (found : OldMaps)
    → (looks_old order I end at ≡ true → is_clear found.claimed (first_unit (page_at at)) (unit_count (page_at at)) ≡ is_apart_from_all (page_at at) used)
    → (old_step order I end found at).claimed ≡ with_spans found.claimed (old_page_at order I end used at)
unfolding old_step old_page_at claim_of
step_claims order I end at used found clear = by_look (looks_old order I end at) clear
  where
    by_clear : (clear apart : Bool) → clear ≡ apart
        → (with_old found (cond clear (Some (with_span found.claimed (page_at at))) None)).claimed ≡ with_spans found.claimed (cond apart (page_at at ∷ []) [])
    by_clear true true e = refl
    by_clear true false e = absurd cc
    by_clear false true e = absurd cc
    by_clear false false e = refl

    by_look : (looks : Bool) → (looks ≡ true → is_clear found.claimed (first_unit (page_at at)) (unit_count (page_at at)) ≡ is_apart_from_all (page_at at) used)
        → (with_old found (cond looks (cond (is_clear found.claimed (first_unit (page_at at)) (unit_count (page_at at))) (Some (with_span found.claimed (page_at at))) None) None)).claimed
        ≡ with_spans found.claimed (cond (looks && is_apart_from_all (page_at at) used) (page_at at ∷ []) [])
    by_look true h = by_clear _ _ (h refl)
    by_look false h = refl

-- ---- all pages

-- the pages of the first n regions lie before the next region
before_region : (order : BitOrder) (I : List ℕ) (end : ℕ) (used : List Span) (n u : ℕ) → is_covered (old_pages order I end used n) u ≡ true → u < 3968 * n
before_region order I end used n u e =
    let found = covered_by (old_pages order I end used n) u e in
    let p = page_there order I end used n found.0 found.1 in
    let units = covers_units (page_at p.0) u (ap (λ (s : Span). covers s u) (sym p.4) ∙ found.2) in
    elim p.3 [
      | inl one ↦ omega (arith, one, units.1, p.2)
      | inr two ↦ omega (arith, two, units.1, p.2)
    ]

before_next : (order : BitOrder) (I : List ℕ) (end : ℕ) (used : List Span) (n u : ℕ) → is_covered (old_page_at order I end used (amap_place n + 1024)) u ≡ true → u < 3968 * n + 24
before_next order I end used n u e =
    let at = amap_place n + 1024 in
    let found = covered_by (old_page_at order I end used at) u e in
    let same = (place_has order I end at used found.0 found.1).0 in
    let units = covers_units (page_at at) u (ap (λ (s : Span). covers s u) (sym same) ∙ found.2) in
    omega (arith, units.1)

first_out : (order : BitOrder) (I : List ℕ) (end : ℕ) (used : List Span) (n : ℕ) → IsUncovered (old_pages order I end used n) (page_at (amap_place n + 1024))
first_out order I end used n u low high =
    elim (cases_Bool (is_covered (old_pages order I end used n) u)) [
      | inr none ↦ none
      | inl some ↦ absurd (omega (arith, before_region order I end used n u some, low))
    ]

second_out : (order : BitOrder) (I : List ℕ) (end : ℕ) (used : List Span) (n : ℕ) → IsUncovered (old_pages order I end used n ++ old_page_at order I end used (amap_place n + 1024)) (page_at (amap_place n + 1536))
second_out order I end used n u low high =
    let before = old_pages order I end used n in
    let one = old_page_at order I end used (amap_place n + 1024) in
    let none : is_covered before u ≡ false =
    elim (cases_Bool (is_covered before u)) [
      | inr none ↦ none
      | inl some ↦ absurd (omega (arith, before_region order I end used n u some, low))
    ] in
    let nor : is_covered one u ≡ false =
    elim (cases_Bool (is_covered one u)) [
      | inr none ↦ none
      | inl some ↦ absurd (omega (arith, before_next order I end used n u some, low))
    ] in
    covered_append before one u ∙ rw (none, nor) refl

pages_claimed : (order : BitOrder) (I : List ℕ) (h : Header) (used : List Span) (claimed : Claimed) (n : ℕ) → IsClaimedBy h used claimed
    → (old_below order I (end_of h) (record { claimed = claimed; count = 0 }) n).claimed ≡ with_spans claimed (old_pages order I (end_of h) used n)
unfolding old_below old_pages
pages_claimed order I h used claimed zero is = refl
pages_claimed order I h used claimed (suc n) is =
    let end = end_of h in
    let a = amap_place n + 1024 in
    let b = amap_place n + 1536 in
    let start : OldMaps = record { claimed = claimed; count = 0 } in
    let before = old_pages order I end used n in
    let one = old_page_at order I end used a in
    let two = old_page_at order I end used b in
    let F = old_below order I end start n in
    let G = old_step order I end F a in
    let ih : F.claimed ≡ with_spans claimed before = pages_claimed order I h used claimed n is in
    let page : (at : ℕ) → 17408 ≤ at → at % 64 ≡ 0 → looks_old order I end at ≡ true → IsUnits claimed (page_at at) = λ at low whole looks.
    page_whole h claimed at low whole (looks_inside order I end at looks) is.units in
    let first : G.claimed ≡ with_spans F.claimed one = step_claims order I end a used F (λ looks.
    ap (λ (m : Claimed). is_clear m (first_unit (page_at a)) (unit_count (page_at a))) ih
    ∙ page_clear h used before claimed a is (page a (omega arith) (omega arith) looks) (first_out order I end used n)) in
    let so_far : G.claimed ≡ with_spans claimed (before ++ one) = first ∙ ap (λ (m : Claimed). with_spans m one) ih ∙ sym (with_spans-append claimed before one) in
    let second : (old_step order I end G b).claimed ≡ with_spans G.claimed two = step_claims order I end b used G (λ looks.
    ap (λ (m : Claimed). is_clear m (first_unit (page_at b)) (unit_count (page_at b))) so_far
    ∙ page_clear h used (before ++ one) claimed b is (page b (omega arith) (omega arith) looks) (second_out order I end used n)) in
    second ∙ ap (λ (m : Claimed). with_spans m two) so_far ∙ sym (with_spans-append claimed (before ++ one) two) ∙ ap (with_spans claimed) (append_assoc before one two)

-- ---- what is claimed, and the lost runs

or_swap : (a b : Bool) → (a || b) ≡ (b || a)
or_swap true true = refl
or_swap true false = refl
or_swap false true = refl
or_swap false false = refl

-- with the old map pages, the units are claimed in which one of them lies, or what is in use
pub old_claimed : (I : List ℕ) (h : Header) (used : List Span) (claimed : Claimed) (u : ℕ) → IsClaimedBy h used claimed → u < unit_total h
    → flag_of (old_maps I h claimed).claimed u ≡ is_covered (used ++ old_pages (bit_order_of I claimed) I (end_of h) used (amap_count_of h)) u
unfolding old_maps
old_claimed I h used claimed u is lt =
    let order = bit_order_of I claimed in
    let old = old_pages order I (end_of h) used (amap_count_of h) in
    ap (λ (m : Claimed). flag_of m u) (pages_claimed order I h used claimed (amap_count_of h) is)
    ∙ flag_beside h used old claimed u is lt
    ∙ or_swap (is_covered old u) (is_covered used u)
    ∙ sym (covered_append used old u)

old_length : (I : List ℕ) (h : Header) (used : List Span) (claimed : Claimed) → IsClaimedBy h used claimed → length (old_maps I h claimed).claimed ≡ unit_total h
unfolding old_maps
old_length I h used claimed is =
    let order = bit_order_of I claimed in
    ap (λ (m : Claimed). length m) (pages_claimed order I h used claimed (amap_count_of h) is)
    ∙ length_with_spans claimed (old_pages order I (end_of h) used (amap_count_of h)) ∙ is.units

lost_same : (order : BitOrder) (I : List ℕ) (claimed : Claimed) (spans : List Span) (u : ℕ) → flag_of claimed u ≡ is_covered spans u → is_lost order I claimed u ≡ is_marked_beside order I spans u
unfolding is_lost
lost_same order I claimed spans u e = rw e refl

-- the lost runs are those of the units that are marked beside all that
pub lost_are : (I : List ℕ) (h : Header) (used : List Span) (claimed : Claimed) → IsClaimedBy h used claimed
    → lost_runs (bit_order_of I claimed) I (old_maps I h claimed).claimed
    ≡ runs_beside (bit_order_of I claimed) I (unit_total h) (used ++ old_pages (bit_order_of I claimed) I (end_of h) used (amap_count_of h))
lost_are I h used claimed is =
    let order = bit_order_of I claimed in
    let all = used ++ old_pages order I (end_of h) used (amap_count_of h) in
    let m = (old_maps I h claimed).claimed in
    ap (λ (n : ℕ). runs_from (is_lost order I m) 0 0 n) (old_length I h used claimed is)
    ∙ runs_same (is_lost order I m) (is_marked_beside order I all) 0 0 (unit_total h) (λ u low high. lost_same order I m all u (old_claimed I h used claimed u is (omega (arith, high))))
