-- What is written stands there, and all else stays.
use Rattle.std.proofs.Common.{◌≡◌, ℕ, ◌+◌, ◌-◌, ◌<◌, ◌≤◌, inl, inr, List, ◌++◌, length, take, drop, get_or, refl, sym, ap, ◌∙◌, arith}
use Rattle.std.proofs.lemmas.List.{length-append, length-take-le, length-drop, length-map, drop_at, take_at, drop-append-le, take-append-le, drop-take, take-take, drop-drop, take-append-drop, get_or_append_left, get_or-append_right, get_or-take, get_or-drop, ext_get_or}
use Rattle.std.proofs.lemmas.Bool.{cases_lt}
use Rattle.pst_bytes.specs.Image.{bytes_at}
use Rattle.pst_bytes.specs.declared.span.Span.{Span}
use Rattle.pst_bytes.specs.Span.{IsApartFrom}
use Rattle.pst_encoding.specs.declared.method.Method.{Method}
use Rattle.pst_encoding.specs.declared.method.Method.TheVariants.{Permute, Cyclic}
use Rattle.pst_encoding.specs.Tables.{i_of, r_of}
use Rattle.pst_encoding.specs.Cyclic.{cyclic_key}
use Rattle.pst_encoding.specs.Method.{decoded, encoded}
use Rattle.pst_encoding.proofs.CyclicLemmas.{length-cycled}
use Rattle.pst_plain.specs.Written.{written}

-- ---- how many bytes there are

pub length_decoded : (method : Method) (bid : ℕ) (body : List ℕ) → length (decoded method bid body) ≡ length body
unfolding decoded
length_decoded Permute bid body = length-map body i_of
length_decoded Cyclic bid body = length-cycled (cyclic_key bid) body

pub length_encoded : (method : Method) (bid : ℕ) (body : List ℕ) → length (encoded method bid body) ≡ length body
unfolding encoded
length_encoded Permute bid body = length-map body r_of
length_encoded Cyclic bid body = length-cycled (cyclic_key bid) body

pub length_written : (I : List ℕ) (at : ℕ) (bytes : List ℕ) → at + length bytes ≤ length I → length (written I at bytes) ≡ length I
unfolding written
length_written I at bytes h =
    let a = length-append (take at I) (bytes ++ drop (at + length bytes) I) in
    let b = length-append bytes (drop (at + length bytes) I) in
    let c = length-take-le at I (omega arith) in
    let d = length-drop (at + length bytes) I in
    omega (arith, a, b, c, d)

-- ---- what stands there

from_place : (I : List ℕ) (at : ℕ) (bytes : List ℕ) → at ≤ length I → drop at (written I at bytes) ≡ bytes ++ drop (at + length bytes) I
unfolding written
from_place I at bytes h = drop_at (take at I) (bytes ++ drop (at + length bytes) I) at (length-take-le at I h)

pub bytes_here : (I : List ℕ) (at : ℕ) (bytes : List ℕ) (s : Span) → s.at ≡ at → s.len ≡ length bytes → at + length bytes ≤ length I → bytes_at (written I at bytes) s ≡ bytes
bytes_here I at bytes s place size inside =
    rw (place, size) (ap (take (length bytes)) (from_place I at bytes (omega arith)) ∙ take_at bytes (drop (at + length bytes) I) (length bytes) refl)

before : (I R : List ℕ) (at from len : ℕ) → at ≤ length I → from + len ≤ at → take len (drop from (take at I ++ R)) ≡ take len (drop from I)
before I R at from len inside apart =
    let size : length (take at I) ≡ at = length-take-le at I inside in
    let front : drop from (take at I ++ R) ≡ drop from (take at I) ++ R = drop-append-le from (take at I) R (omega arith) in
    let e : at ≡ from + (at - from) = omega arith in
    let kept : drop from (take at I) ≡ take (at - from) (drop from I) = ap (λ k. drop from (take k I)) e ∙ drop-take from (at - from) I in
    let long : len ≤ length (drop from (take at I)) = let l = length-drop from (take at I) in omega (arith, l, size) in
    ap (take len) front ∙ take-append-le len (drop from (take at I)) R long ∙ ap (take len) kept ∙ take-take len (at - from) (drop from I) (omega arith)

pub behind : (I : List ℕ) (at : ℕ) (bytes : List ℕ) (from : ℕ) → at ≤ length I → at + length bytes ≤ from → drop from (written I at bytes) ≡ drop from I
behind I at bytes from inside apart =
    let k = length bytes in
    let rest = drop (at + k) I in
    let e : from ≡ at + (k + (from - (at + k))) = omega arith in
    let f : (at + k) + (from - (at + k)) ≡ from = omega arith in
    ap (λ n. drop n (written I at bytes)) e
    ∙ sym (drop-drop (k + (from - (at + k))) at (written I at bytes))
    ∙ ap (drop (k + (from - (at + k)))) (from_place I at bytes inside)
    ∙ sym (drop-drop (from - (at + k)) k (bytes ++ rest))
    ∙ ap (drop (from - (at + k))) (drop_at bytes rest k refl)
    ∙ drop-drop (from - (at + k)) (at + k) I
    ∙ ap (λ n. drop n I) f

pub bytes_elsewhere : (I : List ℕ) (at : ℕ) (bytes : List ℕ) (s : Span) → at + length bytes ≤ length I → IsApartFrom s (record { at = at; len = length bytes }) → bytes_at (written I at bytes) s ≡ bytes_at I s
unfolding written
bytes_elsewhere I at bytes s inside (inl h) = before I (bytes ++ drop (at + length bytes) I) at s.at s.len (omega arith) h
bytes_elsewhere I at bytes s inside (inr h) = ap (take s.len) (behind I at bytes s.at (omega arith) h)

-- ---- a write over a write, and a write of what stands there

pub written_again : (I : List ℕ) (at : ℕ) (first second : List ℕ) → length first ≡ length second → at + length first ≤ length I → written (written I at first) at second ≡ written I at second
unfolding written
written_again I at first second same inside =
    let front : take at (written I at first) ≡ take at I = take_at (take at I) (first ++ drop (at + length first) I) at (length-take-le at I (omega arith)) in
    let back : drop (at + length second) (written I at first) ≡ drop (at + length second) I = behind I at first (at + length second) (omega arith) (omega arith) in
    ap (λ l. l ++ (second ++ drop (at + length second) (written I at first))) front ∙ ap (λ l. take at I ++ (second ++ l)) back

pub written_same : (I : List ℕ) (at : ℕ) (bytes : List ℕ) → at + length bytes ≤ length I → bytes ≡ take (length bytes) (drop at I) → written I at bytes ≡ I
unfolding written
written_same I at bytes inside same =
    let n = length bytes in
    let back : drop (at + n) I ≡ drop n (drop at I) = sym (drop-drop n at I) in
    let whole : take n (drop at I) ++ drop n (drop at I) ≡ drop at I = take-append-drop n (drop at I) in
    ap (λ l. take at I ++ (bytes ++ l)) back ∙ ap (λ l. take at I ++ (l ++ drop n (drop at I))) same ∙ ap (λ l. take at I ++ l) whole ∙ take-append-drop at I

-- ---- by places

pub get_below : (I : List ℕ) (at : ℕ) (bytes : List ℕ) (i : ℕ) → i < at → at ≤ length I → get_or (written I at bytes) i 0 ≡ get_or I i 0
unfolding written
get_below I at bytes i lt inside =
    let size = length-take-le at I inside in
    get_or_append_left (take at I) (bytes ++ drop (at + length bytes) I) 0 i (omega (arith, size, lt)) ∙ get_or-take at I i 0 lt

pub get_inside : (I : List ℕ) (at : ℕ) (bytes : List ℕ) (i : ℕ) → at ≤ i → i < at + length bytes → at ≤ length I → get_or (written I at bytes) i 0 ≡ get_or bytes (i - at) 0
unfolding written
get_inside I at bytes i le lt inside =
    let size = length-take-le at I inside in
    get_or-append_right (take at I) (bytes ++ drop (at + length bytes) I) at i 0 size le
    ∙ get_or_append_left bytes (drop (at + length bytes) I) 0 (i - at) (omega arith)

pub get_above : (I : List ℕ) (at : ℕ) (bytes : List ℕ) (i : ℕ) → at + length bytes ≤ i → at ≤ length I → get_or (written I at bytes) i 0 ≡ get_or I i 0
get_above I at bytes i le inside =
    let e : i + 0 ≡ i = omega arith in
    ap (λ n. get_or (written I at bytes) n 0) (sym e) ∙ sym (get_or-drop i (written I at bytes) 0 0)
    ∙ ap (λ l. get_or l 0 0) (behind I at bytes i inside le) ∙ get_or-drop i I 0 0 ∙ ap (λ n. get_or I n 0) e

-- writes that are apart, in either order
pub written_apart : (I : List ℕ) (at : ℕ) (bytes : List ℕ) (place : ℕ) (others : List ℕ) → at + length bytes ≤ place → place + length others ≤ length I
    → written (written I at bytes) place others ≡ written (written I place others) at bytes
written_apart I at bytes place others apart inside =
    let J = written I at bytes in
    let K = written I place others in
    let J_long : length J ≡ length I = length_written I at bytes (omega arith) in
    let K_long : length K ≡ length I = length_written I place others inside in
    let left_long : length (written J place others) ≡ length I = length_written J place others (omega (arith, J_long)) ∙ J_long in
    let right_long : length (written K at bytes) ≡ length I = length_written K at bytes (omega (arith, K_long)) ∙ K_long in
    ext_get_or 0 (written J place others) (written K at bytes) (left_long ∙ sym right_long) (λ i lt.
    elim (cases_lt i at) [
      | inl low ↦
          get_below J place others i (omega arith) (omega (arith, J_long)) ∙ get_below I at bytes i low (omega arith)
          ∙ sym (get_below K at bytes i low (omega (arith, K_long)) ∙ get_below I place others i (omega arith) (omega arith))
      | inr from ↦ elim (cases_lt i (at + length bytes)) [
        | inl here ↦
            get_below J place others i (omega arith) (omega (arith, J_long)) ∙ get_inside I at bytes i from here (omega arith)
            ∙ sym (get_inside K at bytes i from here (omega (arith, K_long)))
        | inr past ↦ elim (cases_lt i place) [
          | inl between ↦
              get_below J place others i between (omega (arith, J_long)) ∙ get_above I at bytes i past (omega arith)
              ∙ sym (get_above K at bytes i past (omega (arith, K_long)) ∙ get_below I place others i between (omega arith))
          | inr from_place ↦ elim (cases_lt i (place + length others)) [
            | inl there ↦
                get_inside J place others i from_place there (omega (arith, J_long))
                ∙ sym (get_above K at bytes i past (omega (arith, K_long)) ∙ get_inside I place others i from_place there (omega arith))
            | inr last ↦
                get_above J place others i last (omega (arith, J_long)) ∙ get_above I at bytes i past (omega arith)
                ∙ sym (get_above K at bytes i past (omega (arith, K_long)) ∙ get_above I place others i last (omega arith))
          ]
        ]
      ]
    ])
