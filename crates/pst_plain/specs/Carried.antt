-- Check values that are carried over from bytes to those that take their place: what was right stays right, and what was wrong
-- stays wrong.
use Rattle.std.specs.Prelude.{ℕ, List, bit_xor}
use Rattle.byteorder.specs.Endian.{little_bytes}
use Rattle.pst_bytes.specs.Image.{num}
use Rattle.pst_crc.specs.Crc.{crc}
use Rattle.pst_plain.specs.Written.{written}

-- a check value of some bytes, carried over to others
abbrev pub carried : ℕ → List ℕ → List ℕ → ℕ
carried check old new = bit_xor check (bit_xor (crc old) (crc new))

-- the file with the check value that stands at a place carried over
unfoldable pub with_carried : List ℕ → ℕ → List ℕ → List ℕ → List ℕ
with_carried I at old new = written I at (little_bytes 4 (carried (num I at 4) old new))
