-- What a write puts down is read there, and all else stays.
use Rattle.std.proofs.Common.{◌≡◌, ℕ, ◌+◌, ◌-◌, ◌^◌, ◌<◌, ◌≤◌, inl, inr, List, [], ◌++◌, length, take, drop, refl, sym, ap, ◌∙◌, arith, append-nil}
use Rattle.std.proofs.lemmas.List.{length-append, length-take-le, length-drop, drop_at, take_at, drop-append-le, take-append-le, drop-take, take-take, drop-drop}
use Rattle.byteorder.specs.Endian.{little_number, little_bytes}
use Rattle.byteorder.specs.Numbers.{length-bytes_low_first, little_number-reads_back}
use Rattle.pst_bytes.specs.Image.{num, bytes_at}
use Rattle.pst_bytes.specs.declared.span.Span.{Span}
use Rattle.pst_bytes.specs.Span.{IsApartFrom}
use Rattle.pst_make.specs.Elsewhere.{overwritten, SameElsewhere, one_field}

-- what stands from the place on
pub from_place : (I : List ℕ) (at : ℕ) (bytes : List ℕ) → at ≤ length I → drop at (overwritten I at bytes) ≡ bytes ++ drop (at + length bytes) I
unfolding overwritten
from_place I at bytes h = drop_at (take at I) (bytes ++ drop (at + length bytes) I) at (length-take-le at I h)

pub num_written : (I J : List ℕ) (at n x : ℕ) → J ≡ overwritten I at (little_bytes n x) → at + n ≤ length I → x < 256 ^ n → num J at n ≡ x
unfolding num
num_written I J at n x same inside fits =
    let bytes = little_bytes n x in
    let here : drop at J ≡ bytes ++ drop (at + length bytes) I = ap (drop at) same ∙ from_place I at bytes (omega arith) in
    let first : take n (drop at J) ≡ bytes = ap (take n) here ∙ take_at bytes (drop (at + length bytes) I) n (length-bytes_low_first 0 n x) in
    ap (little_number n) (first ∙ sym (append-nil bytes)) ∙ little_number-reads_back n x [] fits

-- there are as many bytes as before
pub length_written : (I : List ℕ) (at : ℕ) (bytes : List ℕ) → at + length bytes ≤ length I → length (overwritten I at bytes) ≡ length I
unfolding overwritten
length_written I at bytes h =
    let a = length-append (take at I) (bytes ++ drop (at + length bytes) I) in
    let b = length-append bytes (drop (at + length bytes) I) in
    let c = length-take-le at I (omega arith) in
    let d = length-drop (at + length bytes) I in
    omega (arith, a, b, c, d)

before : (I R : List ℕ) (at from len : ℕ) → at ≤ length I → from + len ≤ at → take len (drop from (take at I ++ R)) ≡ take len (drop from I)
before I R at from len inside apart =
    let size : length (take at I) ≡ at = length-take-le at I inside in
    let front : drop from (take at I ++ R) ≡ drop from (take at I) ++ R = drop-append-le from (take at I) R (omega arith) in
    let e : at ≡ from + (at - from) = omega arith in
    let kept : drop from (take at I) ≡ take (at - from) (drop from I) = ap (λ k. drop from (take k I)) e ∙ drop-take from (at - from) I in
    let long : len ≤ length (drop from (take at I)) = let l = length-drop from (take at I) in omega (arith, l, size) in
    ap (take len) front ∙ take-append-le len (drop from (take at I)) R long ∙ ap (take len) kept ∙ take-take len (at - from) (drop from I) (omega arith)

behind : (I : List ℕ) (at : ℕ) (bytes : List ℕ) (from : ℕ) → at ≤ length I → at + length bytes ≤ from → drop from (overwritten I at bytes) ≡ drop from I
behind I at bytes from inside apart =
    let k = length bytes in
    let rest = drop (at + k) I in
    let e : from ≡ at + (k + (from - (at + k))) = omega arith in
    let f : (at + k) + (from - (at + k)) ≡ from = omega arith in
    ap (λ n. drop n (overwritten I at bytes)) e
    ∙ sym (drop-drop (k + (from - (at + k))) at (overwritten I at bytes))
    ∙ ap (drop (k + (from - (at + k)))) (from_place I at bytes inside)
    ∙ sym (drop-drop (from - (at + k)) k (bytes ++ rest))
    ∙ ap (drop (from - (at + k))) (drop_at bytes rest k refl)
    ∙ drop-drop (from - (at + k)) (at + k) I
    ∙ ap (λ n. drop n I) f

pub bytes_written : (I : List ℕ) (at : ℕ) (bytes : List ℕ) (s : Span) → at + length bytes ≤ length I → IsApartFrom s (record { at = at; len = length bytes }) → bytes_at (overwritten I at bytes) s ≡ bytes_at I s
unfolding overwritten
bytes_written I at bytes s inside (inl h) = before I (bytes ++ drop (at + length bytes) I) at s.at s.len (omega arith) h
bytes_written I at bytes s inside (inr h) = ap (take s.len) (behind I at bytes s.at (omega arith) h)

pub elsewhere_written : (I J : List ℕ) (at n x : ℕ) → J ≡ overwritten I at (little_bytes n x) → at + n ≤ length I → SameElsewhere I J (one_field at n)
elsewhere_written I J at n x same inside =
    let size : length (little_bytes n x) ≡ n = length-bytes_low_first 0 n x in
    record {
      length_same = ap length same ∙ length_written I at (little_bytes n x) (omega arith);
      others = λ s apart. ap (λ L. bytes_at L s) same ∙ bytes_written I at (little_bytes n x) s (omega arith) (rw size apart.0);
    }
