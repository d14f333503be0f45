-- The bytes of characters of one unit, as two numbers each.
use Rattle.std.specs.Prelude.{ℕ, ◌/◌, ◌%◌, List, [], ◌∷◌, take}

-- The first two bytes in the lower number, the third in the higher one, and above it how many of them there are.
abbrev pub bytes_of_both : ℕ → ℕ → List ℕ
bytes_of_both low high = take (high / 256) (low % 256 ∷ low / 256 ∷ high % 256 ∷ [])
