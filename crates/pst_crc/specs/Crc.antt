-- The check value, one bit at a time ([MS-PST] 5.3), and the signature ([MS-PST] 5.5).
use Rattle.std.specs.Prelude.{ℕ, zero, suc, ◌/◌, ◌%◌, ◌^◌, List, fold, bit_xor, nat_eq, if◌then◌else◌}

-- One bit leaves the register: where it was 1, the rest takes the exclusive or with the polynomial.
abbrev pub shifted : ℕ → ℕ
shifted r = if nat_eq (r % 2) 1 then bit_xor (r / 2) 0xEDB88320 else r / 2

-- n bits leave the register
unfoldable pub shifted_by : ℕ → ℕ → ℕ
shifted_by zero r = r
shifted_by (suc n) r = shifted_by n (shifted r)

-- the register after a byte
unfoldable pub after_byte : ℕ → ℕ → ℕ
after_byte r b = shifted_by 8 (bit_xor r b)

-- the check value: the register after all bytes, from 0 and with no final inversion
unfoldable pub crc : List ℕ → ℕ
crc bytes = fold after_byte 0 bytes

-- bits 16 to 31 of the exclusive or of place and identifier, exclusive or its bits 0 to 15
unfoldable pub signature_of : ℕ → ℕ → ℕ
signature_of ib bid = let x = bit_xor ib bid in bit_xor (x / 2 ^ 16 % 2 ^ 16) (x % 2 ^ 16)
