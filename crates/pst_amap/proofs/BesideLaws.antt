-- What the maps mark: what is in use, the old map pages, and the lost runs.
use Rattle.std.proofs.Common.{◌≡◌, ℕ, ◌+◌, ◌-◌, ◌*◌, ◌/◌, ◌<◌, ◌≤◌, inl, inr, Bool, true, false, not, ◌||◌, List, [], ◌∷◌, ◌++◌, length, replicate, refl, sym, ap, ◌∙◌, arith}
use Rattle.std.proofs.lemmas.Bool.{cases_Bool, and_parts, or_cases}
use Rattle.std.proofs.lemmas.List.{length-replicate}
use Rattle.pst_bytes.specs.declared.span.Span.{Span}
use Rattle.pst_fault.proofs.GeneralLemmas.{same_test, or_true}
use Rattle.pst_header.specs.declared.header.Header.{Header}
use Rattle.pst_header.specs.Header.{end_of, amap_count_of, amap_place}
use Rattle.pst_header.specs.Head.{Head}
use Rattle.pst_space.specs.Apart.{AreUnits, is_covered}
use Rattle.pst_space.specs.Claimed.{Claimed, unit_total, first_unit, unit_count, nothing_claimed, with_spans}
use Rattle.pst_space.proofs.ApartLemmas.{flag_with_spans}
use Rattle.pst_space.proofs.MapLemmas.{length_with_spans}
use Rattle.pst_space.proofs.MarkLemmas.{unset}
use Rattle.pst_amap.specs.declared.report.BitOrder.{BitOrder}
use Rattle.pst_amap.specs.Grammar.{AreExactly, IsOldPage, is_marked_beside, MarkJust}
use Rattle.pst_amap.specs.Lost.{IsRun}
use Rattle.pst_amap.specs.Marks.{is_marked}
use Rattle.pst_amap.specs.Report.{Maps}
use Rattle.pst_amap.specs.Values.{old_pages, runs_beside}
use Rattle.pst_amap.proofs.CoverLemmas.{covered_append, covered_by, by_covered}
use Rattle.pst_amap.proofs.ExactlyLemmas.{exactly_one}
use Rattle.pst_amap.proofs.OldClaimLaws.{IsClaimedBy}
use Rattle.pst_amap.proofs.OldPageLaws.{covers_units, units_covers, pages_exactly}
use Rattle.pst_amap.proofs.RunLaws.{runs_law}
use Rattle.pst_amap.proofs.RunLemmas.{run_units, lies_in, runs_exactly}

-- ---- what is claimed, where nothing was before

units_kept : (m n : Claimed) (spans : List Span) → length m ≡ length n → AreUnits m spans → AreUnits n spans
units_kept m n [] e u = tt
units_kept m n (s ∷ ss) e u =
    (record { mapped = u.0.mapped; whole = u.0.whole; whole_len = u.0.whole_len; some = u.0.some; inside = omega (arith, u.0.inside, e) }, units_kept m n ss e u.1)

or_none : (a : Bool) → (a || false) ≡ a
or_none true = refl
or_none false = refl

pub spans_claimed : (h : Header) (used : List Span) → AreUnits (replicate (unit_total h) false) used → IsClaimedBy h used (with_spans (nothing_claimed h) used)
unfolding nothing_claimed
spans_claimed h used units =
    let m : Claimed = replicate (unit_total h) false in
    let long : length m ≡ unit_total h = length-replicate (unit_total h) false in
    record {
      units = length_with_spans m used ∙ long;
      whole = units_kept m (with_spans m used) used (sym (length_with_spans m used)) units;
      flags = λ u lt. flag_with_spans m used u (omega (arith, long, lt)) ∙ ap (λ b. is_covered used u || b) (unset (unit_total h) u) ∙ or_none (is_covered used u);
    }

-- ---- runs

run_start : (first : ℕ) → (17408 + 64 * first - 17408) / 64 ≡ first
run_start first = omega arith

run_size : (count : ℕ) → (64 * count) / 64 ≡ count
run_size count = omega arith

run_covers : (picked : ℕ → Bool) (n u : ℕ) (s : Span) (a : IsRun picked n s) → (first_unit s ≡ a.first) × (unit_count s ≡ a.count)
run_covers picked n u s a =
    (ap first_unit a.is ∙ run_start a.first, ap unit_count a.is ∙ run_size a.count)

-- a unit that is picked lies in one of the runs, and only such a unit does
pub run_covered : (picked : ℕ → Bool) (n u : ℕ) (lost : List Span) → AreExactly (IsRun picked n) lost → is_covered lost u ≡ true → picked u ≡ true
run_covered picked n u lost runs e =
    let found = covered_by lost u e in
    let a = (runs.these found.0).0 found.1 in
    let is = run_covers picked n u found.0 a in
    let units = covers_units found.0 u found.2 in
    a.all u (omega (arith, is.0, units.0)) (omega (arith, is.0, is.1, units.1))

pub covered_run : (picked : ℕ → Bool) (n u : ℕ) (lost : List Span) → AreExactly (IsRun picked n) lost → u < n → picked u ≡ true → is_covered lost u ≡ true
covered_run picked n u lost runs lt e =
    let all = runs_exactly picked n in
    let same = exactly_one (IsRun picked n) lost _ runs all in
    let found = lies_in u _ ((runs_law picked n).1 u lt e) in
    let a = (all.these found.0).0 found.1 in
    let is = run_covers picked n u found.0 a in
    let units = run_units picked n u found.0 a found.2 found.3 in
    by_covered lost found.0 u ((runs.these found.0).1 a) (units_covers found.0 u (omega (arith, is.0, units.0)) (omega (arith, is.0, is.1, units.1)))

-- ---- what is marked

not_false : (a : Bool) → a ≡ false → not a ≡ true
not_false a e = rw e refl

covered_marked : (order : BitOrder) (I : List ℕ) (end n u : ℕ) (used old lost : List Span) → (is_covered used u ≡ true → is_marked order I u ≡ true) → AreExactly (IsOldPage order I end used) old
    → AreExactly (IsRun (is_marked_beside order I (used ++ old)) n) lost → is_covered (used ++ (old ++ lost)) u ≡ true → is_marked order I u ≡ true
covered_marked order I end n u used old lost marked pages runs e =
    elim (or_cases (is_covered used u) (is_covered (old ++ lost) u) (sym (covered_append used (old ++ lost) u) ∙ e)) [
      | inl in_use ↦ marked in_use
      | inr beside ↦
          elim (or_cases (is_covered old u) (is_covered lost u) (sym (covered_append old lost u) ∙ beside)) [
            | inl page ↦ let found = covered_by old u page in ((pages.these found.0).0 found.1).marked u found.2
            | inr run ↦ (and_parts (is_marked order I u) (not (is_covered (used ++ old) u)) (run_covered (is_marked_beside order I (used ++ old)) n u lost runs run)).0
          ]
    ]

marked_covered : (order : BitOrder) (I : List ℕ) (n u : ℕ) (used old lost : List Span) → u < n
    → AreExactly (IsRun (is_marked_beside order I (used ++ old)) n) lost → is_marked order I u ≡ true → is_covered (used ++ (old ++ lost)) u ≡ true
marked_covered order I n u used old lost lt runs e =
    elim (cases_Bool (is_covered (used ++ old) u)) [
      | inl known ↦
          elim (or_cases (is_covered used u) (is_covered old u) (sym (covered_append used old u) ∙ known)) [
            | inl in_use ↦ covered_append used (old ++ lost) u ∙ rw in_use refl
            | inr page ↦ covered_append used (old ++ lost) u ∙ ap (λ b. is_covered used u || b) (covered_append old lost u ∙ rw page refl) ∙ or_true (is_covered used u)
          ]
      | inr not_known ↦
          let picked : is_marked_beside order I (used ++ old) u ≡ true = rw (e, not_known) refl in
          let run = covered_run (is_marked_beside order I (used ++ old)) n u lost runs lt picked in
          covered_append used (old ++ lost) u ∙ ap (λ b. is_covered used u || b) (covered_append old lost u ∙ rw run (or_true (is_covered old u))) ∙ or_true (is_covered used u)
    ]

pub mark_just : (order : BitOrder) (I : List ℕ) (end n : ℕ) (used old lost : List Span) → ((u : ℕ) → u < n → is_covered used u ≡ true → is_marked order I u ≡ true) → AreExactly (IsOldPage order I end used) old
    → AreExactly (IsRun (is_marked_beside order I (used ++ old)) n) lost → MarkJust order I n (used ++ (old ++ lost))
mark_just order I end n used old lost marked pages runs u lt =
    same_test _ _ (marked_covered order I n u used old lost lt runs) (covered_marked order I end n u used old lost (marked u lt) pages runs)

-- ---- of a file

regions_end : (I : List ℕ) (h : Header) → Head I h → end_of h ≤ amap_place (amap_count_of h)
regions_end I h g =
    let k = g.last_map.0 in
    let is : h.last_amap ≡ 17408 + 253952 * k = g.last_map.1 in
    let count : (h.last_amap - 17408) / 253952 ≡ k = omega (arith, is) in
    omega (arith, is, count)

-- the old map pages of a file, and its lost runs: there is one list of each, and its maps mark just these and what is in use
pub beside_is : (I : List ℕ) (h : Header) (order : BitOrder) (used old lost : List Span) → Head I h → AreExactly (IsOldPage order I (end_of h) used) old
    → AreExactly (IsRun (is_marked_beside order I (used ++ old)) (unit_total h)) lost
    → (old ≡ old_pages order I (end_of h) used (amap_count_of h)) × (lost ≡ runs_beside order I (unit_total h) (used ++ old))
beside_is I h order used old lost head pages runs = (
  exactly_one (IsOldPage order I (end_of h) used) old _ pages (pages_exactly order I (end_of h) used (amap_count_of h) (regions_end I h head)),
  exactly_one (IsRun (is_marked_beside order I (used ++ old)) (unit_total h)) lost _ runs (runs_exactly (is_marked_beside order I (used ++ old)) (unit_total h)),
)

pub record IsBeside (I : List ℕ) (h : Header) (order : BitOrder) (used old lost : List Span) : Type 0 where
  pub pages : AreExactly (IsOldPage order I (end_of h) used) old
  pub runs : AreExactly (IsRun (is_marked_beside order I (used ++ old)) (unit_total h)) lost
  pub marks : MarkJust order I (unit_total h) (used ++ (old ++ lost))

pub is_beside : (I : List ℕ) (h : Header) (order : BitOrder) (used old lost : List Span) → Head I h → AreUnits (replicate (unit_total h) false) used → Maps I h (with_spans (nothing_claimed h) used) order
    → old ≡ old_pages order I (end_of h) used (amap_count_of h) → lost ≡ runs_beside order I (unit_total h) (used ++ old) → IsBeside I h order used old lost
is_beside I h order used old lost head units maps old_is lost_is =
    let claims = spans_claimed h used units in
    let pages : AreExactly (IsOldPage order I (end_of h) used) old = rw old_is (pages_exactly order I (end_of h) used (amap_count_of h) (regions_end I h head)) in
    let runs : AreExactly (IsRun (is_marked_beside order I (used ++ old)) (unit_total h)) lost = rw lost_is (runs_exactly (is_marked_beside order I (used ++ old)) (unit_total h)) in
    let marked : (u : ℕ) → u < unit_total h → is_covered used u ≡ true → is_marked order I u ≡ true = λ u lt c.
    maps.marked u (omega (arith, claims.units, lt)) (claims.flags u lt ∙ c) in
    record { pages = pages; runs = runs; marks = mark_just order I (end_of h) (unit_total h) used old lost marked pages runs }
