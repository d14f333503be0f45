-- Permutation of two bytes at a time.
use Rattle.std.specs.Prelude.{List, ℕ, ◌+◌, ◌*◌, ◌/◌, ◌%◌, map}
use Rattle.std.specs.List.{range_with_len}
use Rattle.pst_encoding.specs.Tables.{i_of}

-- what decoding makes of two bytes, as one number: the first is the low half
abbrev pub unpermuted_pair : ℕ → ℕ
unpermuted_pair n = i_of (n % 256) + 256 * i_of (n / 256)

-- of the first n pairs, in order
unfoldable pub pairs_of : ℕ → List ℕ
pairs_of n = map unpermuted_pair (range_with_len 0 n)
