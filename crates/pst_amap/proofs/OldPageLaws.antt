-- The old map pages are exactly those that are found at their places.
use Rattle.std.proofs.Common.{◌≡◌, ℕ, zero, suc, ◌+◌, ◌-◌, ◌/◌, ◌<◌, ◌≤◌, ◌⊎◌, inl, inr, Bool, true, false, cond, ◌&&◌, ◌||◌, eqb, leb, ltb, List, [], ◌∷◌, ◌++◌, refl, sym, ap, subst, ◌∙◌, arith}
use Rattle.std.specs.List.{Contains}
use Rattle.std.proofs.lemmas.Bool.{cases_lt, eqb-true, leb-true, le-leb, lt-ltb, ltb-true, or_cases, and_parts, and_from}
use Rattle.std.proofs.lemmas.List.Elements.{Contains-append_left, Contains-append_right, Contains-append_cases}
use Rattle.pst_bytes.specs.declared.span.Span.{Span}
use Rattle.pst_bytes.specs.Image.{num}
use Rattle.pst_bytes.specs.Span.{IsApartFrom, IsApartFromAll, end_of_span}
use Rattle.pst_header.specs.Header.{amap_place}
use Rattle.pst_space.specs.Apart.{covers}
use Rattle.pst_space.specs.Claimed.{first_unit, unit_count, page_at}
use Rattle.pst_amap.specs.declared.report.BitOrder.{BitOrder}
use Rattle.pst_amap.specs.Grammar.{PlacesRise, AreExactly, IsOldPlace, IsOldPage}
use Rattle.pst_amap.specs.Marks.{is_marked}
use Rattle.pst_amap.specs.Old.{is_old_type, are_marked, looks_old}
use Rattle.pst_amap.specs.Values.{is_apart_from, is_apart_from_all, old_page_at, old_pages}
use Rattle.pst_amap.proofs.ExactLaws.{all_marked}
use Rattle.pst_amap.proofs.ExactlyLemmas.{none_there, first_there, first_or_later, rise_append}

-- ---- apart

apart_true : (s t : Span) → is_apart_from s t ≡ true → IsApartFrom s t
apart_true s t e =
    elim (or_cases (leb (end_of_span s) t.at) (leb (end_of_span t) s.at) e) [
      | inl a ↦ inl (leb-true _ _ a)
      | inr b ↦ inr (leb-true _ _ b)
    ]

true_apart : (s t : Span) → IsApartFrom s t → is_apart_from s t ≡ true
true_apart s t (inl le) = rw (le-leb _ _ le) refl
true_apart s t (inr le) = rw (le-leb _ _ le) (either (leb (end_of_span s) t.at))
  where
    either : (b : Bool) → (b || true) ≡ true
    either true = refl
    either false = refl

pub all_apart : (s : Span) (ts : List Span) → is_apart_from_all s ts ≡ true → IsApartFromAll s ts
all_apart s [] e = tt
all_apart s (t ∷ ts) e = let both = and_parts (is_apart_from s t) (is_apart_from_all s ts) e in (apart_true s t both.0, all_apart s ts both.1)

pub apart_all : (s : Span) (ts : List Span) → IsApartFromAll s ts → is_apart_from_all s ts ≡ true
apart_all s [] apart = refl
apart_all s (t ∷ ts) apart = and_from (is_apart_from s t) (is_apart_from_all s ts) (true_apart s t apart.0) (apart_all s ts apart.1)

-- ---- units that are marked, one after another

marked_all : (order : BitOrder) (I : List ℕ) (unit n : ℕ) → ((k : ℕ) → unit ≤ k → k < unit + n → is_marked order I k ≡ true) → are_marked order I unit n ≡ true
marked_all order I unit zero all = refl
marked_all order I unit (suc n) all =
    and_from (is_marked order I unit) (are_marked order I (unit + 1) n) (all unit (omega arith) (omega arith)) (marked_all order I (unit + 1) n (λ k low high. all k (omega arith) (omega arith)))

pub covers_units : (s : Span) (unit : ℕ) → covers s unit ≡ true → (first_unit s ≤ unit) × (unit < first_unit s + unit_count s)
covers_units s unit e = let both = and_parts (leb (first_unit s) unit) (ltb unit (first_unit s + unit_count s)) e in (leb-true _ _ both.0, ltb-true _ _ both.1)

pub units_covers : (s : Span) (unit : ℕ) → first_unit s ≤ unit → unit < first_unit s + unit_count s → covers s unit ≡ true
units_covers s unit low high = and_from _ _ (le-leb _ _ low) (lt-ltb _ _ high)

-- ---- one place

is_type : (a b : ℕ) → is_old_type a b ≡ true → ((a ≡ 130) ⊎ (a ≡ 133)) × (b ≡ a)
is_type a b e =
    let both = and_parts (eqb a 130 || eqb a 133) (eqb b a) e in
    (elim (or_cases (eqb a 130) (eqb a 133) both.0) [ inl x ↦ inl (eqb-true _ _ x) | inr y ↦ inr (eqb-true _ _ y) ], eqb-true _ _ both.1)

type_is : (a b : ℕ) → (a ≡ 130) ⊎ (a ≡ 133) → b ≡ a → is_old_type a b ≡ true
type_is a b (inl x) same = rw (same, x) refl
type_is a b (inr y) same = rw (same, y) refl

-- what is found at a place is an old map page
found_is : (order : BitOrder) (I : List ℕ) (end at : ℕ) (used : List Span) → IsOldPlace at → (looks_old order I end at && is_apart_from_all (page_at at) used) ≡ true → IsOldPage order I end used (page_at at)
unfolding looks_old
found_is order I end at used place e =
    let whole = and_parts (looks_old order I end at) (is_apart_from_all (page_at at) used) e in
    let marked = and_parts _ _ whole.0 in
    let trailer = and_parts _ _ marked.0 in
    let types = and_parts _ _ trailer.0 in
    let ptype = is_type (num I (at + 496) 1) (num I (at + 497) 1) types.1 in
    record {
      page = refl;
      place = place;
      inside = leb-true _ _ types.0;
      ptype = ptype.0;
      repeated = ptype.1;
      trailer = trailer.1;
      marked = λ unit c. let units = covers_units (page_at at) unit c in all_marked order I ((at - 17408) / 64) 8 unit marked.1 units.0 units.1;
      free = all_apart (page_at at) used whole.1;
    }

-- and an old map page is found at its place
is_found : (order : BitOrder) (I : List ℕ) (end at : ℕ) (used : List Span) → IsOldPage order I end used (page_at at) → (looks_old order I end at && is_apart_from_all (page_at at) used) ≡ true
unfolding looks_old
is_found order I end at used is =
    let marked = marked_all order I ((at - 17408) / 64) 8 (λ k low high. is.marked k (units_covers (page_at at) k low high)) in
    let ptype = type_is (num I (at + 496) 1) (num I (at + 497) 1) is.ptype is.repeated in
    and_from _ _ (and_from _ _ (and_from _ _ (and_from _ _ (le-leb _ _ is.inside) ptype) is.trailer) marked) (apart_all (page_at at) used is.free)

-- the page at a place, or none
pub place_has : (order : BitOrder) (I : List ℕ) (end at : ℕ) (used : List Span) (s : Span) → Contains (old_page_at order I end used at) s → (s ≡ page_at at) × ((looks_old order I end at && is_apart_from_all (page_at at) used) ≡ true)
unfolding old_page_at
place_has order I end at used s there = by_test (looks_old order I end at && is_apart_from_all (page_at at) used) there
  where
    by_test : (b : Bool) → Contains (cond b (page_at at ∷ []) []) s → (s ≡ page_at at) × (b ≡ true)
    by_test true here =
        elim (first_or_later (page_at at) s [] here) [
          | inl same ↦ (sym same, refl)
          | inr later ↦ absurd (none_there s later)
        ]
    by_test false here = absurd (none_there s here)

has_place : (order : BitOrder) (I : List ℕ) (end at : ℕ) (used : List Span) → (looks_old order I end at && is_apart_from_all (page_at at) used) ≡ true → Contains (old_page_at order I end used at) (page_at at)
unfolding old_page_at
has_place order I end at used e = rw e (first_there (page_at at) [])

has_place_at : (order : BitOrder) (I : List ℕ) (end place at : ℕ) (used : List Span) → at ≡ place → (looks_old order I end at && is_apart_from_all (page_at at) used) ≡ true → Contains (old_page_at order I end used place) (page_at at)
has_place_at order I end place at used is e = subst (λ (p : ℕ). Contains (old_page_at order I end used p) (page_at at)) is (has_place order I end at used e)

place_rises : (order : BitOrder) (I : List ℕ) (end at from : ℕ) (used : List Span) → from ≤ at → PlacesRise from (old_page_at order I end used at)
unfolding old_page_at
place_rises order I end at from used le = by_test (looks_old order I end at && is_apart_from_all (page_at at) used)
  where
    by_test : (b : Bool) → PlacesRise from (cond b (page_at at ∷ []) [])
    by_test true = (le, tt)
    by_test false = tt

-- ---- all places

-- a page of the first n regions is found at one of their places
pub page_there : (order : BitOrder) (I : List ℕ) (end : ℕ) (used : List Span) (n : ℕ) (s : Span) → Contains (old_pages order I end used n) s
    → (at region : ℕ) × (region < n) × ((at ≡ amap_place region + 1024) ⊎ (at ≡ amap_place region + 1536)) × (s ≡ page_at at) × ((looks_old order I end at && is_apart_from_all (page_at at) used) ≡ true)
unfolding old_pages
page_there order I end used zero s there = absurd (none_there s there)
page_there order I end used (suc n) s there =
    elim (Contains-append_cases (old_pages order I end used n) _ s there) [
      | inl before ↦ let p = page_there order I end used n s before in (p.0, p.1, omega (arith, p.2), p.3, p.4, p.5)
      | inr here ↦
          elim (Contains-append_cases (old_page_at order I end used (amap_place n + 1024)) (old_page_at order I end used (amap_place n + 1536)) s here) [
            | inl one ↦ let h = place_has order I end (amap_place n + 1024) used s one in (amap_place n + 1024, n, omega arith, inl refl, h.0, h.1)
            | inr two ↦ let h = place_has order I end (amap_place n + 1536) used s two in (amap_place n + 1536, n, omega arith, inr refl, h.0, h.1)
          ]
    ]

there_page : (order : BitOrder) (I : List ℕ) (end : ℕ) (used : List Span) (n at region : ℕ) → region < n → (at ≡ amap_place region + 1024) ⊎ (at ≡ amap_place region + 1536)
    → (looks_old order I end at && is_apart_from_all (page_at at) used) ≡ true → Contains (old_pages order I end used n) (page_at at)
unfolding old_pages
there_page order I end used zero at region lt place e = absurd (omega arith)
there_page order I end used (suc n) at region lt place e =
    elim (cases_lt region n) [
      | inl before ↦ Contains-append_left (old_pages order I end used n) _ (page_at at) (there_page order I end used n at region before place e)
      | inr last ↦
          let same : region ≡ n = omega arith in
          let front = old_page_at order I end used (amap_place n + 1024) in
          let back = old_page_at order I end used (amap_place n + 1536) in
          Contains-append_right (old_pages order I end used n) (front ++ back) (page_at at) (
          elim place [
            | inl one ↦
                let is : at ≡ amap_place n + 1024 = one ∙ ap (λ (r : ℕ). amap_place r + 1024) same in
                Contains-append_left front back (page_at at) (has_place_at order I end (amap_place n + 1024) at used is e)
            | inr two ↦
                let is : at ≡ amap_place n + 1536 = two ∙ ap (λ (r : ℕ). amap_place r + 1536) same in
                Contains-append_right front back (page_at at) (has_place_at order I end (amap_place n + 1536) at used is e)
          ])
    ]

pages_below : (order : BitOrder) (I : List ℕ) (end : ℕ) (used : List Span) (n : ℕ) (s : Span) → Contains (old_pages order I end used n) s → s.at < amap_place n
pages_below order I end used n s there =
    let p = page_there order I end used n s there in
    let at : s.at ≡ p.0 = ap (λ (t : Span). t.at) p.4 in
    elim p.3 [
      | inl one ↦ omega (arith, at, one, p.2)
      | inr two ↦ omega (arith, at, two, p.2)
    ]

pages_rise : (order : BitOrder) (I : List ℕ) (end : ℕ) (used : List Span) (n : ℕ) → PlacesRise 0 (old_pages order I end used n)
unfolding old_pages
pages_rise order I end used zero = tt
pages_rise order I end used (suc n) =
    let a = amap_place n + 1024 in
    let b = amap_place n + 1536 in
    let below : (s : Span) → Contains (old_page_at order I end used a) s → s.at < b = λ s there.
    let at : s.at ≡ a = ap (λ (t : Span). t.at) (place_has order I end a used s there).0 in omega (arith, at) in
    rise_append 0 (amap_place n) (old_pages order I end used n) (old_page_at order I end used a ++ old_page_at order I end used b) (omega arith) (pages_rise order I end used n) (pages_below order I end used n)
    (rise_append (amap_place n) b (old_page_at order I end used a) (old_page_at order I end used b) (omega arith) (place_rises order I end a (amap_place n) used (omega arith)) below
    (place_rises order I end b b used (omega arith)))

-- Where the mapped part ends within the first n regions, these are all.
pub pages_exactly : (order : BitOrder) (I : List ℕ) (end : ℕ) (used : List Span) (n : ℕ) → end ≤ amap_place n → AreExactly (IsOldPage order I end used) (old_pages order I end used n)
pages_exactly order I end used n few = record {
  these = λ s. (
    λ there. let p = page_there order I end used n s there in rw p.4 (found_is order I end p.0 used (p.1, p.3) p.5),
    λ is.
        let at : IsOldPage order I end used (page_at s.at) = (rw is.page at is) in
        let inside : s.at + 512 ≤ end = is.inside in
        let region : is.place.0 < n = elim is.place.1 [ inl one ↦ omega (arith, one, inside, few) | inr two ↦ omega (arith, two, inside, few) ] in
        rw is.page (there_page order I end used n s.at is.place.0 region is.place.1 (is_found order I end s.at used at)),
  );
  rise = pages_rise order I end used n;
}
