-- The allocation maps of a file say the same where their pages have the same bytes.
use Rattle.std.proofs.Common.{◌≡◌, ℕ, zero, suc, ◌+◌, ◌*◌, ◌/◌, ◌%◌, ◌<◌, ◌≤◌, List, [], ◌∷◌, ◌++◌, length, Option, refl, arith, true, false, inl, inr}
use Rattle.std.specs.Prelude.{⊤, nat_eq, if◌then◌else◌}
use Rattle.std.proofs.lemmas.Bool.{cases_eq}
use Rattle.pst_bytes.specs.Image.{bytes_at}
use Rattle.pst_bytes.specs.declared.span.Span.{Span}
use Rattle.pst_fault.specs.declared.fault.Fault.{Fault}
use Rattle.pst_fault.specs.First.{◌then◌, first_below}
use Rattle.pst_header.specs.declared.header.Header.{Header}
use Rattle.pst_header.specs.Header.{end_of, amap_place, amap_count_of}
use Rattle.pst_header.specs.Head.{Head}
use Rattle.pst_page.specs.Page.{page_span}
use Rattle.pst_page.specs.Trailer.{has_trailer}
use Rattle.pst_space.specs.Claimed.{Claimed, unit_total, map_pages_at, map_pages_below, map_pages, page_at}
use Rattle.pst_amap.specs.declared.report.BitOrder.{BitOrder}
use Rattle.pst_amap.specs.declared.report.BitOrder.TheVariants.{High, Low}
use Rattle.pst_amap.specs.Map.{is_amap, amap_fault, amaps_fault}
use Rattle.pst_amap.specs.Marks.{mark_place, is_marked, unit_fault, marks_fault, missing_fault}
use Rattle.pst_amap.specs.Report.{maps_fault}
use Rattle.pst_plain.proofs.SameLemmas.{IsSamePage, part_same, num_same}

-- parts that are the same below a number
pub below_same : (part other : ℕ → Option Fault) (n : ℕ) → ((i : ℕ) → i < n → part i ≡ other i) → first_below part n ≡ first_below other n
below_same part other zero same = refl
below_same part other (suc n) same = rw (below_same part other n (λ i lt. same i (omega arith)), same n (omega arith)) refl

-- the pages of all maps
abbrev pub AreSameMaps : List ℕ → List ℕ → ℕ → Type 0
AreSameMaps I T n = (j : ℕ) → j < n → IsSamePage I T (amap_place j)

amap_same : (I T : List ℕ) (at : ℕ) → IsSamePage I T at → is_amap T at ≡ is_amap I at
unfolding is_amap has_trailer
amap_same I T at same =
    let s = page_span at in
    rw (
      num_same I T s (at + 496) 1 same (omega arith) (omega arith),
      num_same I T s (at + 497) 1 same (omega arith) (omega arith),
      num_same I T s (at + 504) 8 same (omega arith) (omega arith),
      num_same I T s (at + 498) 2 same (omega arith) (omega arith),
      num_same I T s (at + 500) 4 same (omega arith) (omega arith),
      part_same I T s at 496 same (omega arith) (omega arith),
      num_same I T s at 1 same (omega arith) (omega arith),
    ) refl

pub map_fault_same : (I T : List ℕ) (j : ℕ) → IsSamePage I T (amap_place j) → amap_fault T j ≡ amap_fault I j
unfolding amap_fault
map_fault_same I T j same = rw (amap_same I T (amap_place j) same) refl

-- a unit's mark
mark_same : (I T : List ℕ) (order : BitOrder) (unit : ℕ) → IsSamePage I T (amap_place (unit / 3968)) → is_marked order T unit ≡ is_marked order I unit
unfolding is_marked
mark_same I T order unit same =
    let byte : unit % 3968 / 8 < 496 = omega arith in
    rw (num_same I T (page_span (amap_place (unit / 3968))) (mark_place unit) 1 same (omega arith) (omega (arith, byte))) refl

unit_same : (I T : List ℕ) (order : BitOrder) (claimed : Claimed) (unit : ℕ) → IsSamePage I T (amap_place (unit / 3968)) → unit_fault order T claimed unit ≡ unit_fault order I claimed unit
unfolding unit_fault
unit_same I T order claimed unit same = rw (mark_same I T order unit same) refl

pub marks_same : (I T : List ℕ) (order : BitOrder) (claimed : Claimed) (n : ℕ) → AreSameMaps I T n → length claimed ≤ 3968 * n → marks_fault order T claimed ≡ marks_fault order I claimed
marks_same I T order claimed n same few =
    below_same (unit_fault order T claimed) (unit_fault order I claimed) (length claimed) (λ unit lt. unit_same I T order claimed unit (same (unit / 3968) (omega (arith, lt, few))))

-- the units of a file are those of its maps
pub units_few : (I : List ℕ) (h : Header) → Head I h → unit_total h ≤ 3968 * amap_count_of h
units_few I h head =
    let k = head.last_map.0 in
    let is : h.last_amap ≡ 17408 + 253952 * k = head.last_map.1 in
    let count : amap_count_of h ≡ k + 1 = omega (arith, is) in
    let most : end_of h ≤ h.last_amap + 253952 = omega arith in
    rw count (omega (arith, is, most))

pub maps_same : (I T : List ℕ) (h : Header) (claimed : Claimed) → AreSameMaps I T (amap_count_of h) → length claimed ≤ 3968 * amap_count_of h → maps_fault T h claimed ≡ maps_fault I h claimed
unfolding maps_fault missing_fault
maps_same I T h claimed same few =
    let maps : amaps_fault T (amap_count_of h) ≡ amaps_fault I (amap_count_of h) = below_same (amap_fault T) (amap_fault I) (amap_count_of h) (λ j lt. map_fault_same I T j (same j lt)) in
    rw (maps, marks_same I T High claimed (amap_count_of h) same few, marks_same I T Low claimed (amap_count_of h) same few) refl

-- ---- among the map pages

abbrev pub AllAreSame : List ℕ → List ℕ → List Span → Type 0
AllAreSame I T [] = ⊤
AllAreSame I T (s ∷ ss) = (bytes_at T s ≡ bytes_at I s) × AllAreSame I T ss

front_same : (I T : List ℕ) (xs ys : List Span) → AllAreSame I T (xs ++ ys) → AllAreSame I T xs
front_same I T [] ys all = tt
front_same I T (x ∷ xs) ys all = (all.0, front_same I T xs ys all.1)

back_same : (I T : List ℕ) (xs ys : List Span) → AllAreSame I T (xs ++ ys) → AllAreSame I T ys
back_same I T [] ys all = all
back_same I T (x ∷ xs) ys all = back_same I T xs ys all.1

first_map : (I T : List ℕ) (j : ℕ) → AllAreSame I T (map_pages_at j) → IsSamePage I T (amap_place j)
first_map I T j all =
    elim (nat_eq (j % 8) 0) as (λ b. AllAreSame I T (if b then page_at (amap_place j) ∷ page_at (amap_place j + 512) ∷ [] else page_at (amap_place j) ∷ []) → IsSamePage I T (amap_place j)) [
      | true ↦ λ h. h.0
      | false ↦ λ h. h.0
    ] all

maps_below : (I T : List ℕ) (n : ℕ) → AllAreSame I T (map_pages_below n) → AreSameMaps I T n
maps_below I T zero all j lt = absurd (omega arith)
maps_below I T (suc n) all j lt =
    elim (cases_eq j n) [
      | inl is ↦ rw is (first_map I T n (back_same I T (map_pages_below n) (map_pages_at n) all))
      | inr other ↦ maps_below I T n (front_same I T (map_pages_below n) (map_pages_at n) all) j (omega arith)
    ]

pub same_maps : (I T : List ℕ) (h : Header) → AllAreSame I T (map_pages h) → AreSameMaps I T (amap_count_of h)
unfolding map_pages
same_maps I T h all = maps_below I T (amap_count_of h) all
