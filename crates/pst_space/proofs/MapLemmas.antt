-- The map pages of a file: they fit, and are apart.
use Rattle.std.proofs.Common.{◌≡◌, ℕ, suc, zero, ◌+◌, ◌-◌, ◌*◌, ◌/◌, ◌%◌, ◌<◌, ◌≤◌, Bool, true, false, cond, eqb, List, [], ◌∷◌, ◌++◌, length, replicate, Some, refl, sym, ap, ◌∙◌, arith, inl, inr, add-one}
use Rattle.std.proofs.lemmas.List.{length-replicate}
use Rattle.std.proofs.lemmas.Bool.{cases_lt}
use Rattle.pst_bytes.specs.declared.span.Span.{Span}
use Rattle.pst_header.specs.declared.header.Header.{Header}
use Rattle.pst_header.specs.Header.{amap_place, amap_count_of}
use Rattle.pst_header.specs.Head.{IsLastMap}
use Rattle.pst_space.specs.Claimed.{Claimed, first_unit, unit_count, unit_total, flag_of, is_clear, with_span, with_spans, claim_of, claim_all, page_at, map_pages_at, map_pages_below, map_pages, nothing_claimed, maps_claimed, MapsFit, MapPagesLaw}
use Rattle.pst_space.proofs.ClaimLemmas.{length_filled}
use Rattle.pst_space.proofs.MarkLemmas.{filled_out, clear_beyond, unset}
use Rattle.pst_space.proofs.StepLemmas.{claim_all-append}

pub length_with_span : (claimed : Claimed) (span : Span) → length (with_span claimed span) ≡ length claimed
unfolding with_span
length_with_span claimed span = length_filled claimed (first_unit span) (unit_count span)

pub length_with_spans : (claimed : Claimed) (spans : List Span) → length (with_spans claimed spans) ≡ length claimed
length_with_spans claimed [] = refl
length_with_spans claimed (s ∷ ss) = length_with_spans (with_span claimed s) ss ∙ length_with_span claimed s

pub with_spans-append : (claimed : Claimed) (some more : List Span) → with_spans claimed (some ++ more) ≡ with_spans (with_spans claimed some) more
with_spans-append claimed [] more = refl
with_spans-append claimed (s ∷ ss) more = with_spans-append (with_span claimed s) ss more

-- ---- region by region

-- what is claimed once the maps of the first n regions are
abbrev pub maps_below : Header → ℕ → Claimed
maps_below h n = with_spans (nothing_claimed h) (map_pages_below n)

pub maps_start : (h : Header) (units : ℕ) → units ≡ unit_total h → replicate units false ≡ maps_below h 0
unfolding nothing_claimed
maps_start h units e = ap (λ (n : ℕ). replicate n false) e

pub maps_next : (h : Header) (n : ℕ) → with_spans (maps_below h n) (map_pages_at n) ≡ maps_below h (n + 1)
maps_next h n = rw add-one (sym (with_spans-append (nothing_claimed h) (map_pages_below n) (map_pages_at n)))

pub maps_end : (h : Header) (n : ℕ) → n ≡ amap_count_of h → maps_below h n ≡ maps_claimed h
unfolding maps_claimed map_pages
maps_end h n e = rw e refl

pub length_maps : (h : Header) (n : ℕ) → length (maps_below h n) ≡ unit_total h
unfolding nothing_claimed
length_maps h n = length_with_spans (replicate (unit_total h) false) (map_pages_below n) ∙ length-replicate (unit_total h) false

-- the maps of each region lie in the mapped part
pub maps_fit : (h : Header) (n : ℕ) → IsLastMap h.last_amap h.eof → n < amap_count_of h → MapsFit n (unit_total h)
maps_fit h n last lt =
    let k = last.0 in
    let is : h.last_amap ≡ 17408 + 253952 * k = last.1 in
    let count : (h.last_amap - 17408) / 253952 ≡ k = omega arith in
    let le : n ≤ k = omega arith in
    let one : h.last_amap + 512 ≤ h.eof = last.2 in
    (omega arith, λ eighth. by_region h k n is le one last.3 eighth)
  where
    by_region : (h : Header) (k n : ℕ) → h.last_amap ≡ 17408 + 253952 * k → n ≤ k → h.last_amap + 512 ≤ h.eof → (k % 8 ≡ 0 → h.last_amap + 1024 ≤ h.eof) → n % 8 ≡ 0 → 3968 * n + 16 ≤ unit_total h
    by_region h k n is le one two eighth =
        elim (cases_lt n k) [
          | inl before ↦ omega arith
          | inr last ↦
              let same : k ≡ n = omega arith in
              let room : h.last_amap + 1024 ≤ h.eof = two (rw same eighth) in
              omega arith
        ]

pub maps_place : (h : Header) (n : ℕ) → IsLastMap h.last_amap h.eof → n < amap_count_of h → amap_place n + 512 ≤ h.eof
maps_place h n last lt =
    let k = last.0 in
    let is : h.last_amap ≡ 17408 + 253952 * k = last.1 in
    let count : (h.last_amap - 17408) / 253952 ≡ k = omega arith in
    let le : n ≤ k = omega arith in
    omega (arith, last.2)

-- ---- apart

claim_free : (m : Claimed) (s : Span) (first count : ℕ) → first_unit s ≡ first → unit_count s ≡ count → is_clear m first count ≡ true → claim_of m s ≡ Some (with_span m s)
unfolding claim_of
claim_free m s first count e n clear = rw (e, n, clear) refl

-- from a unit on, nothing is claimed
abbrev IsFreeFrom : Claimed → ℕ → Type 0
IsFreeFrom m unit = (u : ℕ) → unit ≤ u → flag_of m u ≡ false

filled_free : (m : Claimed) (s : Span) (first count : ℕ) → first_unit s ≡ first → unit_count s ≡ count → IsFreeFrom m first → IsFreeFrom (with_span m s) (first + count)
unfolding with_span
filled_free m s first count e n free u le =
    rw (e, n) (filled_out m first count u (inr le) ∙ free u (omega arith))

-- the maps of a region
maps_here : (m : Claimed) (j : ℕ) → IsFreeFrom m (3968 * j) → (claim_all m (map_pages_at j) ≡ Some (with_spans m (map_pages_at j))) × IsFreeFrom (with_spans m (map_pages_at j)) (3968 * suc j)
maps_here m j free =
    let a = page_at (amap_place j) in
    let p = page_at (amap_place j + 512) in
    let at_a : first_unit a ≡ 3968 * j = omega arith in
    let at_p : first_unit p ≡ 3968 * j + 8 = omega arith in
    let one : claim_of m a ≡ Some (with_span m a) = claim_free m a (3968 * j) 8 at_a refl (clear_beyond m (3968 * j) 8 free) in
    let next : IsFreeFrom (with_span m a) (3968 * j + 8) = filled_free m a (3968 * j) 8 at_a refl free in
    let two : claim_of (with_span m a) p ≡ Some (with_span (with_span m a) p) = claim_free (with_span m a) p (3968 * j + 8) 8 at_p refl (clear_beyond (with_span m a) (3968 * j + 8) 8 next) in
    let last : IsFreeFrom (with_span (with_span m a) p) (3968 * j + 8 + 8) = filled_free (with_span m a) p (3968 * j + 8) 8 at_p refl next in
    by_eighth (eqb (j % 8) 0) one two next last
  where
    by_eighth : (eighth : Bool) → claim_of m (page_at (amap_place j)) ≡ Some (with_span m (page_at (amap_place j)))
        → claim_of (with_span m (page_at (amap_place j))) (page_at (amap_place j + 512)) ≡ Some (with_span (with_span m (page_at (amap_place j))) (page_at (amap_place j + 512)))
        → IsFreeFrom (with_span m (page_at (amap_place j))) (3968 * j + 8)
        → IsFreeFrom (with_span (with_span m (page_at (amap_place j))) (page_at (amap_place j + 512))) (3968 * j + 8 + 8)
        → (let spans : List Span = cond eighth (page_at (amap_place j) ∷ page_at (amap_place j + 512) ∷ []) (page_at (amap_place j) ∷ []) in
        (claim_all m spans ≡ Some (with_spans m spans)) × IsFreeFrom (with_spans m spans) (3968 * suc j))
    by_eighth true one two next last = (rw one (rw two refl), λ u le. last u (omega arith))
    by_eighth false one two next last = (rw one refl, λ u le. next u (omega arith))

maps_all : (h : Header) (n : ℕ) → (claim_all (nothing_claimed h) (map_pages_below n) ≡ Some (maps_below h n)) × IsFreeFrom (maps_below h n) (3968 * n)
unfolding nothing_claimed
maps_all h zero = (refl, λ u le. unset (unit_total h) u)
maps_all h (suc n) =
    let before = maps_all h n in
    let here = maps_here (maps_below h n) n before.1 in
    let same : maps_below h (suc n) ≡ with_spans (maps_below h n) (map_pages_at n) = with_spans-append (nothing_claimed h) (map_pages_below n) (map_pages_at n) in
    (claim_all-append (nothing_claimed h) (map_pages_below n) (map_pages_at n) ∙ rw before.0 refl ∙ here.0 ∙ ap Some (sym same), rw same here.1)

pub maps_law : MapPagesLaw
unfolding maps_claimed map_pages
maps_law h = (maps_all h (amap_count_of h)).0
