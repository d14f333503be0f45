-- The words of a long piece of bytes, of which most are left out: each is added to four words behind it in place of that.
use Rattle.std.specs.Prelude.{ℕ, zero, suc, ◌+◌, ◌*◌, List, drop, slice_index, bit_xor}
use Rattle.byteorder.specs.Endian.{little_number}
use Rattle.pst_crc.specs.Crc.{shifted_by}

-- the word with a number, of four bytes
abbrev pub word_in : List ℕ → ℕ → ℕ
word_in bytes i = little_number 4 (drop (4 * i) bytes)

-- what is added to it: the words 145, 183, 211 and 300 places before it, where they were left out. Of those that were left out
-- the first one has number 300
abbrev pub added_in : List ℕ → ℕ → ℕ
added_in words i =
    bit_xor (slice_index words (i + 155)) (bit_xor (slice_index words (i + 117)) (bit_xor (slice_index words (i + 89)) (slice_index words i)))

-- the word, and what is added to it
abbrev pub whole_in : List ℕ → List ℕ → ℕ → ℕ
whole_in bytes words i = bit_xor (word_in bytes i) (added_in words i)

-- the register after so many words, from the one with a number on
unfoldable pub fed_words : ℕ → (ℕ → ℕ) → ℕ → ℕ → ℕ
fed_words r f i zero = r
fed_words r f i (suc k) = fed_words (shifted_by 32 (bit_xor r (f i))) f (suc i) k
