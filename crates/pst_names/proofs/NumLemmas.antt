-- A number in a part of a list.
use Rattle.std.proofs.Common.{◌≡◌, ℕ, ◌+◌, ◌-◌, ◌≤◌, List, length, length-drop, take, drop, take-take, take_all, arith, refl, ap, ◌∙◌}
use Rattle.std.proofs.lemmas.List.{length-take-le}
use Rattle.byteorder.specs.Endian.{little_number}
use Rattle.std.specs.Prelude.{slice_range}
use Rattle.pst_bytes.specs.Image.{num}

pub range_is : (xs : List ℕ) (at n : ℕ) → slice_range xs at (at + n) ≡ take n (drop at xs)
range_is xs at n = let same : at + n - at ≡ n = omega arith in rw same refl

pub length_range : (xs : List ℕ) (at n : ℕ) → at + n ≤ length xs → length (slice_range xs at (at + n)) ≡ n
length_range xs at n le = ap (λ (bs : List ℕ). length bs) (range_is xs at n) ∙ length-take-le n (drop at xs) (omega (arith, length-drop at xs))

pub num_range : (xs : List ℕ) (at : ℕ) → num (slice_range xs at (at + 4)) 0 4 ≡ num xs at 4
unfolding num
num_range xs at = rw (range_is xs at 4, take-take 4 4 (drop at xs) (omega arith)) refl

pub length_in_range : (bytes xs : List ℕ) (at : ℕ) → bytes ≡ slice_range xs at (at + 4) → at + 4 ≤ length xs → length bytes ≡ 4
length_in_range bytes xs at is le = ap (λ (bs : List ℕ). length bs) is ∙ length_range xs at 4 le

pub num_in_range : (bytes xs : List ℕ) (at : ℕ) → bytes ≡ slice_range xs at (at + 4) → num bytes 0 4 ≡ num xs at 4
num_in_range bytes xs at is = ap (λ bs. num bs 0 4) is ∙ num_range xs at

-- the number of just so many bytes
pub num_whole : (xs : List ℕ) → length xs ≡ 4 → num xs 0 4 ≡ little_number 4 xs
unfolding num
num_whole xs len = ap (little_number 4) (take_all 4 xs (omega (arith, len)))
