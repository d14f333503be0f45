-- Bytes of the string stream that lie side by side.
use Rattle.std.proofs.Common.{◌≡◌, ℕ, zero, suc, ◌+◌, ◌-◌, ◌≤◌, List, [], ◌∷◌, ◌++◌, length, take, drop, drop-drop, take-take, zero-add, suc-add, Some, refl, sym, ap, ◌∙◌, arith}
use Rattle.std.specs.Prelude.{slice_get, slice_range}
use Rattle.std.proofs.lemmas.List.{drop-take}
use Rattle.std.proofs.Math.Seq.{take-append_seam}
use Rattle.pst_bytes.specs.declared.span.Span.{Span}
use Rattle.pst_bytes.specs.Image.{num, bytes_at}
use Rattle.pst_datatree.specs.Spans.{joined_bytes}
use Rattle.pst_names.specs.Behind.{IsBehind}
use Rattle.pst_names.proofs.NumLemmas.{range_is, num_range}
use Rattle.pst_names.proofs.RestLemmas.{front_at}

-- ---- one byte

take_get : (xs : List ℕ) (n k b : ℕ) → slice_get (take n xs) k ≡ Some b → slice_get xs k ≡ Some b
take_get [] zero k b e = absurd cc
take_get [] (suc n) k b e = absurd cc
take_get (x ∷ xs) zero k b e = absurd cc
take_get (x ∷ xs) (suc n) zero b e = e
take_get (x ∷ xs) (suc n) (suc k) b e = take_get xs n k b e

drop_get : (xs : List ℕ) (a k : ℕ) → slice_get (drop a xs) k ≡ slice_get xs (a + k)
drop_get xs zero k = rw (zero-add k) refl
drop_get [] (suc a) k = refl
drop_get (x ∷ xs) (suc a) k = rw suc-add (drop_get xs a k)

-- a byte of a stretch is the one of the stream
pub stretch_get : (bytes all : List ℕ) (start at b : ℕ) → bytes ≡ take (length bytes) (drop start all) → start ≤ at → slice_get bytes (at - start) ≡ Some b → slice_get all at ≡ Some b
stretch_get bytes all start at b own le e =
    let here : start + (at - start) ≡ at = omega (arith, le) in
    let one : slice_get (take (length bytes) (drop start all)) (at - start) ≡ Some b = rw (← own) e in
    rw (← here) (sym (drop_get all start (at - start)) ∙ take_get (drop start all) (length bytes) (at - start) b one)

-- ---- four

pub stretch_num : (bytes all : List ℕ) (start from at : ℕ) → bytes ≡ take (length bytes) (drop start all) → start + from ≡ at → from + 4 ≤ length bytes → num (slice_range bytes from (from + 4)) 0 4 ≡ num all at 4
stretch_num bytes all start from at own here fits =
    let total : length bytes ≡ from + (length bytes - from) = omega (arith, fits) in
    let few : 4 ≤ length bytes - from = omega (arith, fits) in
    let whole : bytes ≡ take (from + (length bytes - from)) (drop start all) = own ∙ ap (λ n. take n (drop start all)) total in
    let same : slice_range bytes from (from + 4) ≡ slice_range all at (at + 4) =
    range_is bytes from 4
    ∙ ap (λ bs. take 4 (drop from bs)) whole
    ∙ ap (take 4) (drop-take from (length bytes - from) (drop start all))
    ∙ take-take 4 (length bytes - from) (drop from (drop start all)) few
    ∙ ap (take 4) (drop-drop from start all)
    ∙ ap (λ n. take 4 (drop n all)) here
    ∙ sym (range_is all at 4) in
    ap (λ bs. num bs 0 4) same ∙ num_range all at

four : (xs : List ℕ) (a b c d : ℕ) → slice_get xs 0 ≡ Some a → slice_get xs 1 ≡ Some b → slice_get xs 2 ≡ Some c → slice_get xs 3 ≡ Some d → take 4 xs ≡ a ∷ b ∷ c ∷ d ∷ []
four [] a b c d e f g h = absurd cc
four (p ∷ []) a b c d e f g h = absurd cc
four (p ∷ q ∷ []) a b c d e f g h = absurd cc
four (p ∷ q ∷ r ∷ []) a b c d e f g h = absurd cc
four (p ∷ q ∷ r ∷ s ∷ rest) a b c d e f g h =
    let pa : p ≡ a = cc in
    let qb : q ≡ b = cc in
    let rc : r ≡ c = cc in
    let sd : s ≡ d = cc in
    rw (pa, qb, rc, sd) refl

-- a number by its bytes, one by one
pub num_of_four : (all : List ℕ) (at a b c d : ℕ) → slice_get all at ≡ Some a → slice_get all (at + 1) ≡ Some b → slice_get all (at + 2) ≡ Some c → slice_get all (at + 3) ≡ Some d → num all at 4 ≡ num (a ∷ b ∷ c ∷ d ∷ []) 0 4
unfolding num
num_of_four all at a b c d e f g h =
    let none : at + 0 ≡ at = omega arith in
    let first : slice_get (drop at all) 0 ≡ Some a = drop_get all at 0 ∙ ap (slice_get all) none ∙ e in
    rw (four (drop at all) a b c d first (drop_get all at 1 ∙ f) (drop_get all at 2 ∙ g) (drop_get all at 3 ∙ h)) refl

-- ---- the front of what is left

pub front_own : (I front : List ℕ) (all rest : List Span) (n at : ℕ) → IsBehind I all n (front_at at front ∷ rest) → front ≡ bytes_at I (front_at at front) → front ≡ take (length front) (drop n (joined_bytes I all))
front_own I front all rest n at b own =
    sym (take-append_seam front (joined_bytes I rest)) ∙ ap (λ bs. take (length front) (bs ++ joined_bytes I rest)) own ∙ ap (take (length front)) b.bytes
