-- Old map pages.
use Rattle.std.proofs.Common.{◌≡◌, ℕ, suc, ◌+◌, ◌-◌, ◌/◌, ◌%◌, ◌<◌, ◌≤◌, true, false, List, length, Some, None, add-one, lit<, refl, sym, ap, ◌∙◌, arith}
use Rattle.std.proofs.lemmas.Bool.{and_parts, leb-true}
use Rattle.pst_header.specs.declared.header.Header.{Header}
use Rattle.pst_header.specs.Header.{amap_place, end_of}
use Rattle.pst_header.specs.Head.{IsMapped}
use Rattle.pst_header.proofs.Head.{mapped_end}
use Rattle.pst_space.specs.Claimed.{Claimed, unit_total, claim_of, page_at, IsUnits}
use Rattle.pst_amap.specs.declared.report.BitOrder.{BitOrder}
use Rattle.pst_amap.specs.Marks.{is_marked}
use Rattle.pst_amap.specs.Old.{are_marked, looks_old, old_step, old_below, OldMaps}

pub marked_next : (order : BitOrder) (I : List ℕ) (unit n i : ℕ) → i < n → is_marked order I (unit + i) ≡ true → are_marked order I (unit + i) (n - i) ≡ are_marked order I (unit + (i + 1)) (n - (i + 1))
marked_next order I unit n i lt e =
    let k : n - i ≡ suc (n - (i + 1)) = omega arith in
    let at : (unit + i) + 1 ≡ unit + (i + 1) = omega arith in
    rw (k, e, at) refl

pub marked_not : (order : BitOrder) (I : List ℕ) (unit n i : ℕ) → i < n → is_marked order I (unit + i) ≡ false → are_marked order I (unit + i) (n - i) ≡ false
marked_not order I unit n i lt e =
    let k : n - i ≡ suc (n - (i + 1)) = omega arith in
    rw (k, e) refl

pub marked_end : (order : BitOrder) (I : List ℕ) (unit n i : ℕ) → n ≤ i → are_marked order I (unit + i) (n - i) ≡ true
marked_end order I unit n i le =
    let k : n - i ≡ 0 = omega arith in
    rw k refl

pub page_inside : (I : List ℕ) (h : Header) (at : ℕ) → IsMapped I h → at + 512 ≤ end_of h → at + 512 ≤ length I
page_inside I h at g le = omega (arith, mapped_end I h g)

pub page_units : (h : Header) (at : ℕ) → 17408 ≤ at → at % 64 ≡ 0 → at + 512 ≤ end_of h → (at - 17408) / 64 + 8 ≤ unit_total h
page_units h at low whole le = omega arith

-- a page in the mapped part is whole units of it
pub page_whole : (h : Header) (claimed : Claimed) (at : ℕ) → 17408 ≤ at → at % 64 ≡ 0 → at + 512 ≤ end_of h → length claimed ≡ unit_total h → IsUnits claimed (page_at at)
page_whole h claimed at low whole le len = record { mapped = low; whole = whole; whole_len = refl; some = lit< tt; inside = omega (arith, page_units h at low whole le) }

pub looks_inside : (order : BitOrder) (I : List ℕ) (end at : ℕ) → looks_old order I end at ≡ true → at + 512 ≤ end
unfolding looks_old
looks_inside order I end at e =
    let a = and_parts _ _ e in
    let b = and_parts _ _ a.0 in
    let c = and_parts _ _ b.0 in
    leb-true _ _ c.0

pub old_no : (order : BitOrder) (I : List ℕ) (end at n : ℕ) (claimed : Claimed) → looks_old order I end at ≡ false → old_step order I end (record { claimed = claimed; count = n }) at ≡ record { claimed = claimed; count = n + 0 }
unfolding old_step
old_no order I end at n claimed e = let z : n + 0 ≡ n = omega arith in rw (e, z) refl

pub old_yes : (order : BitOrder) (I : List ℕ) (end at n : ℕ) (claimed new : Claimed) → looks_old order I end at ≡ true → claim_of claimed (page_at at) ≡ Some new → old_step order I end (record { claimed = claimed; count = n }) at ≡ record { claimed = new; count = n + 1 }
unfolding old_step
old_yes order I end at n claimed new e made = rw (e, made) refl

pub old_on_another : (order : BitOrder) (I : List ℕ) (end at n : ℕ) (claimed new : Claimed) → looks_old order I end at ≡ true → new ≡ claimed → claim_of claimed (page_at at) ≡ None → old_step order I end (record { claimed = claimed; count = n }) at ≡ record { claimed = new; count = n + 0 }
unfolding old_step
old_on_another order I end at n claimed new e same clash = let z : n + 0 ≡ n = omega arith in rw (e, clash, same, z) refl

pub old_start : (order : BitOrder) (I : List ℕ) (end : ℕ) (found : OldMaps) → old_below order I end found 0 ≡ found
unfolding old_below
old_start order I end found = refl

pub old_next : (order : BitOrder) (I : List ℕ) (end n a b : ℕ) (start found one two : OldMaps) → a ≡ amap_place n + 1024 → b ≡ amap_place n + 1536 → old_below order I end start n ≡ found → old_step order I end found a ≡ one → old_step order I end one b ≡ two → old_below order I end start (n + 1) ≡ two
unfolding old_below
old_next order I end n a b start found one two p q sofar first second =
    rw add-one (
    ap (λ (f : OldMaps). old_step order I end (old_step order I end f (amap_place n + 1024)) (amap_place n + 1536)) sofar
    ∙ ap (λ (f : OldMaps). old_step order I end f (amap_place n + 1536)) (ap (old_step order I end found) (sym p) ∙ first)
    ∙ ap (old_step order I end one) (sym q) ∙ second
    )

pub marked_start : (order : BitOrder) (I : List ℕ) (unit n : ℕ) → are_marked order I (unit + 0) (n - 0) ≡ are_marked order I unit n
marked_start order I unit n =
    let at : unit + 0 ≡ unit = omega arith in
    let k : n - 0 ≡ n = omega arith in
    rw (at, k) refl
