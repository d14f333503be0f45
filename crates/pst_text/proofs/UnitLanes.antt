-- Lane by lane: an operation on eight numbers, and one of them.
use Rattle.std.proofs.Common.{◌≡◌, ℕ, ◌<◌, List, length, get_or, replicate, refl, ap, ◌∙◌, arith}
use Rattle.std.proofs.lemmas.Simd.{length-zip2, get_or-zip2, get_or-replicate}
use lib.Lanes.{zip2}

pub both_long : (f : ℕ → ℕ → ℕ) (xs ys : List ℕ) → length xs ≡ 8 → length ys ≡ 8 → length (zip2 f xs ys) ≡ 8
both_long f xs ys long also = length-zip2 f xs ys (omega (arith, long, also)) ∙ long

pub lane : (f : ℕ → ℕ → ℕ) (xs ys : List ℕ) (k : ℕ) → length xs ≡ 8 → length ys ≡ 8 → k < 8 → get_or (zip2 f xs ys) k 0 ≡ f (get_or xs k 0) (get_or ys k 0)
lane f xs ys k long also lt = get_or-zip2 f xs ys k 0 0 0 (omega (arith, long, lt)) (omega (arith, also, lt))

-- with one number for all
pub lane_with : (f : ℕ → ℕ → ℕ) (xs : List ℕ) (y k : ℕ) → length xs ≡ 8 → k < 8 → get_or (zip2 f xs (replicate 8 y)) k 0 ≡ f (get_or xs k 0) y
lane_with f xs y k long lt = lane f xs (replicate 8 y) k long refl lt ∙ ap (f (get_or xs k 0)) (get_or-replicate 8 k y 0 lt)
