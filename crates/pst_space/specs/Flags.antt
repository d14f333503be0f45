-- Flags kept as the bits of words of 64.
use Rattle.std.specs.Prelude.{ℕ, zero, suc, ◌+◌, ◌*◌, ◌/◌, ◌%◌, ◌^◌, Bool, true, not, ◌&&◌, nat_eq, bit_or, List, [], ◌∷◌, slice_index, slice_set}
use Rattle.std.specs.Int.{bit_at}

-- the flag of a unit
unfoldable pub flag_in : List ℕ → ℕ → Bool
flag_in words unit = nat_eq (bit_at (slice_index words (unit / 64)) (unit % 64)) 1

-- the flags of n units from one on
abbrev pub flags_from : List ℕ → ℕ → ℕ → List Bool
flags_from words unit zero = []
flags_from words unit (suc n) = flag_in words unit ∷ flags_from words (unit + 1) n

-- no flag of n units from one on is set
abbrev pub clear_in : List ℕ → ℕ → ℕ → Bool
clear_in words unit zero = true
clear_in words unit (suc n) = not (flag_in words unit) && clear_in words (unit + 1) n

-- the words with one more flag
unfoldable pub with_flag : List ℕ → ℕ → List ℕ
with_flag words unit = slice_set words (unit / 64) (bit_or (slice_index words (unit / 64)) (1 * 2 ^ (unit % 64) % 2 ^ 64))

-- the words with the flags of n units from one on
abbrev pub with_flags : List ℕ → ℕ → ℕ → List ℕ
with_flags words unit zero = words
with_flags words unit (suc n) = with_flags (with_flag words unit) (unit + 1) n
