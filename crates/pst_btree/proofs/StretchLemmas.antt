-- Stretches of leaves among the entries from a key on.
use Rattle.std.proofs.Common.{◌≡◌, ℕ, suc, zero, ◌+◌, ◌-◌, ◌*◌, ◌^◌, ◌<◌, ◌≤◌, min, List, [], ◌∷◌, ◌++◌, length, get_or, take, drop, map, Option, None, refl, sym, ap, subst, ◌∙◌, arith, le_refl, length-take}
use Rattle.std.proofs.lemmas.List.{take-append-le, take_all}
use Rattle.pst_page.specs.declared.kind.PageKind.{PageKind}
use Rattle.pst_page.specs.Page.{entries_at, entries_from, count_at, width_at, places}
use Rattle.pst_page.specs.Entry.{key_at, entry_size}
use Rattle.pst_page.proofs.EntryLemmas.{entries_from_start, entries_from_next, places_count}
use Rattle.pst_btree.specs.Find.{rest_from, IsStretch}
use Rattle.pst_btree.specs.Order.{Rises}
use Rattle.pst_btree.specs.Tree.{HasTreeAt, tree_at}
use Rattle.pst_btree.proofs.RiseLemmas.{all_left, lower, rest_first}

-- ---- places at the head of a list

-- what comes behind the list changes nothing
pub take_before : (count : ℕ) (xs ys : List ℕ) (at width : ℕ) → take count xs ≡ places at width count → take count (xs ++ ys) ≡ places at width count
take_before count xs ys at width e =
    let long : min count (length xs) ≡ count = sym (length-take count xs) ∙ ap (λ (es : List ℕ). length es) e ∙ places_count at width count in
    take-append-le count xs ys (omega (arith, long)) ∙ e

places_head : (n : ℕ) (xs : List ℕ) (at width : ℕ) → take (suc n) xs ≡ places at width (suc n) → (xs ≡ at ∷ drop 1 xs) × (take n (drop 1 xs) ≡ places (at + width) width n)
places_head n [] at width e = absurd cc
places_head n (x ∷ xs) at width e =
    let same : x ≡ at = ap (λ (es : List ℕ). get_or es 0 0) e in
    (ap (λ (a : ℕ). a ∷ xs) same, ap (λ (es : List ℕ). drop 1 es) e)

-- ---- the first entry of a stretch, and what is left behind it

pub stretch_first : (kind : PageKind) (I : List ℕ) (least : ℕ) (high : Option ℕ) (entries : List ℕ) (low at width count : ℕ) → Rises least high (map (key_at kind I) entries) → IsStretch kind I entries low at width count → 0 < count
    → rest_from kind I low entries ≡ at ∷ rest_from kind I (key_at kind I at + 1) entries
stretch_first kind I least high entries low at width zero r s some = absurd (omega arith)
stretch_first kind I least high entries low at width (suc n) r s some =
    let here = (places_head n (rest_from kind I low entries) at width s.first).0 in
    let behind = (rest_first kind I least low high entries at _ r here).1 in
    here ∙ ap (λ (es : List ℕ). at ∷ es) (sym behind)

pub stretch_behind : (kind : PageKind) (I : List ℕ) (least : ℕ) (high : Option ℕ) (entries : List ℕ) (low at width count less : ℕ) → Rises least high (map (key_at kind I) entries) → IsStretch kind I entries low at width count → count ≡ less + 1
    → IsStretch kind I entries (key_at kind I at + 1) (at + width) width less
stretch_behind kind I least high entries low at width count less r s e =
    let next : count ≡ suc less = omega arith in
    let first : take (suc less) (rest_from kind I low entries) ≡ places at width (suc less) = subst (λ (n : ℕ). take n (rest_from kind I low entries) ≡ places at width n) next s.first in
    let head = places_head less (rest_from kind I low entries) at width first in
    let behind = (rest_first kind I least low high entries at _ r head.0).1 in
    let size : (at + width) + less * width ≡ at + count * width = rw e (omega arith) in
    record {
      first = ap (take less) behind ∙ head.1;
      wide = λ some. s.wide (omega arith);
      inside = rw size s.inside;
      small = rw size s.small;
    }

-- where its first entry lies
pub stretch_place : (kind : PageKind) (I : List ℕ) (entries : List ℕ) (low at width count : ℕ) → IsStretch kind I entries low at width count → 0 < count
    → (at + entry_size kind 0 ≤ length I) × (at + width ≤ length I) × (at + width < 2 ^ 64)
stretch_place kind I entries low at width zero s some = absurd (omega arith)
stretch_place kind I entries low at width (suc n) s some =
    let size : at + suc n * width ≡ at + width + n * width = omega arith in
    let inside : at + width + n * width ≤ length I = rw size at s.inside in
    let small : at + width + n * width < 2 ^ 64 = rw size at s.small in
    let wide : entry_size kind 0 ≤ width = s.wide some in
    (omega (arith, wide, inside), omega (arith, inside), omega (arith, small))

-- before the first step there is none
pub no_stretch : (kind : PageKind) (I entries : List ℕ) (low : ℕ) → IsStretch kind I entries low 0 0 0
no_stretch kind I entries low = record { first = refl; wide = λ some. absurd (omega arith); inside = omega arith; small = omega arith }

-- ---- the stretch of a leaf from an entry on

open_high : (low : ℕ) (high : Option ℕ) (keys : List ℕ) → Rises low high keys → Rises low None keys
open_high low high [] r = tt
open_high low high (k ∷ ks) r = (r.0, refl, open_high (k + 1) high ks r.2)

-- the keys of a leaf rise
pub leaf_rises : (kind : PageKind) (I : List ℕ) (end level : ℕ) (page : _) → HasTreeAt kind I end level page → level ≡ 0 → Rises 0 None (map (key_at kind I) (entries_at I page.ib))
unfolding tree_at
leaf_rises kind I end zero page h e = lower h.low 0 None _ (omega arith) (open_high h.low h.high _ h.tree.bounded)
leaf_rises kind I end (suc level) page h e = absurd (omega arith)

from_rises : (kind : PageKind) (I : List ℕ) (ib i : ℕ) → Rises 0 None (map (key_at kind I) (entries_at I ib)) → i ≤ count_at I ib → Rises 0 None (map (key_at kind I) (entries_from I ib i))
from_rises kind I ib zero r le = rw (entries_from_start I ib) r
from_rises kind I ib (suc i) r le =
    let before = from_rises kind I ib i r (omega arith) in
    let here : Rises 0 None (map (key_at kind I) ((ib + i * width_at I ib) ∷ entries_from I ib (i + 1))) = rw (entries_from_next I ib i (omega arith)) at before in
    let next : suc i ≡ i + 1 = omega arith in
    rw next (lower (key_at kind I (ib + i * width_at I ib) + 1) 0 None _ (omega arith) here.2)

pub leaf_stretch : (kind : PageKind) (I : List ℕ) (ib i low : ℕ) → Rises 0 None (map (key_at kind I) (entries_at I ib)) → rest_from kind I low (entries_from I ib i) ≡ rest_from kind I low (entries_at I ib)
    → i < count_at I ib → low ≤ key_at kind I (ib + i * width_at I ib) → take (count_at I ib - i) (rest_from kind I low (entries_at I ib)) ≡ places (ib + i * width_at I ib) (width_at I ib) (count_at I ib - i)
unfolding entries_from
leaf_stretch kind I ib i low r left lt le =
    let at = ib + i * width_at I ib in
    let n = count_at I ib - i in
    let here : Rises 0 None (map (key_at kind I) (at ∷ entries_from I ib (i + 1))) = rw (entries_from_next I ib i lt) at (from_rises kind I ib i r (omega arith)) in
    let all : rest_from kind I low (at ∷ entries_from I ib (i + 1)) ≡ at ∷ entries_from I ib (i + 1) = all_left kind I (key_at kind I at) low None (at ∷ entries_from I ib (i + 1)) le (le_refl _, refl, here.2) in
    let same : rest_from kind I low (entries_at I ib) ≡ entries_from I ib i = sym left ∙ ap (rest_from kind I low) (entries_from_next I ib i lt) ∙ all ∙ sym (entries_from_next I ib i lt) in
    let long : length (places at (width_at I ib) n) ≡ n = places_count at (width_at I ib) n in
    ap (take n) same ∙ take_all n _ (omega (arith, long))

-- how far it reaches
pub leaf_end : (ib i count width : ℕ) → i ≤ count → (ib + i * width) + (count - i) * width ≡ ib + count * width
leaf_end ib i count width le =
    let n = count - i in
    let split : count ≡ i + n = omega arith in
    let size : (i + n) * width ≡ i * width + n * width = omega arith in
    rw (ap (λ (k : ℕ). k * width) split ∙ size) (omega arith)
