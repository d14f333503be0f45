-- The cyclic algorithm ([MS-PST] 5.2), which is bCryptMethod 2: each byte goes through the three tables under a key of 16 bits,
-- which is one more with each byte. It undoes itself.
use Rattle.std.specs.Prelude.{◌≡◌, List, [], ◌∷◌, ℕ, ◌+◌, ◌-◌, ◌/◌, ◌%◌, ◌^◌, bit_xor, map}
use Rattle.std.specs.List.{All, range_with_len}
use Rattle.pst_encoding.specs.Tables.{r_of, s_of, i_of, IsByte}

-- The key at a block's first byte: of the low 32 bits of its BID, the lower half exclusive or the upper one.
abbrev pub cyclic_key : ℕ → ℕ
cyclic_key bid = bit_xor (bid % 2 ^ 16) (bid / 2 ^ 16 % 2 ^ 16)

-- What the inner steps make of a byte, under the high byte of a key: the byte goes through mpbbR, the high byte is added, the
-- byte goes through mpbbS, the high byte is subtracted, and the byte goes through mpbbI. Sums and differences are of bytes:
-- modulo 256.
unfoldable pub turned : ℕ → ℕ → ℕ
turned high b =
    let first = r_of b in
    let second = s_of ((first + high) % 256) in
    i_of ((second + (256 - high)) % 256)

-- A byte under a key: the low byte of the key is added before the inner steps, and subtracted behind them.
unfoldable pub cycled_byte : ℕ → ℕ → ℕ
cycled_byte key b =
    let low = key % 256 in
    (turned (key / 256 % 256) ((b + low) % 256) + (256 - low)) % 256

-- the inner steps for the first n pairs of a high byte and a byte, in order
abbrev pub turned_at : ℕ → ℕ
turned_at n = turned (n / 256) (n % 256)

unfoldable pub turns_of : ℕ → List ℕ
turns_of n = map turned_at (range_with_len 0 n)

-- the bytes under a key, which is the one at the first of them
unfoldable pub cycled : ℕ → List ℕ → List ℕ
cycled key [] = []
cycled key (b ∷ rest) = cycled_byte key b ∷ cycled ((key + 1) % 2 ^ 16) rest

-- ---- the same in three passes

-- the low byte of each byte's key is added: that of the first is given, and the next is one more
unfoldable pub with_low_added : ℕ → List ℕ → List ℕ
with_low_added low [] = []
with_low_added low (b ∷ rest) = (b + low) % 256 ∷ with_low_added ((low + 1) % 256) rest

-- the inner steps are done, under the high byte of each byte's key
unfoldable pub turned_each : ℕ → List ℕ → List ℕ
turned_each key [] = []
turned_each key (b ∷ rest) = turned (key / 256 % 256) b ∷ turned_each ((key + 1) % 2 ^ 16) rest

-- the low byte of each byte's key is subtracted
unfoldable pub lowered : ℕ → List ℕ → List ℕ
lowered low [] = []
lowered low (b ∷ rest) = (b + (256 - low)) % 256 ∷ lowered ((low + 1) % 256) rest

-- ---- the law

-- It undoes itself, whatever the key.
abbrev pub CyclicLaw : Type 0
CyclicLaw = (key : ℕ) (bytes : List ℕ) → All IsByte bytes → cycled key (cycled key bytes) ≡ bytes
