-- Permutation ([MS-PST] 5.1), which is bCryptMethod 1: each byte is replaced by another, whatever its place and its block.
use Rattle.std.specs.Prelude.{◌≡◌, List, ℕ, map}
use Rattle.std.specs.List.{All}
use Rattle.pst_encoding.specs.Tables.{r_of, i_of, IsByte}

-- encoded: each byte by mpbbR
abbrev pub permuted : List ℕ → List ℕ
permuted bytes = map r_of bytes

-- decoded: each byte by mpbbI
abbrev pub unpermuted : List ℕ → List ℕ
unpermuted bytes = map i_of bytes

-- Decoding undoes encoding, and encoding decoding.
abbrev pub PermuteLaw : Type 0
PermuteLaw = (bytes : List ℕ) → All IsByte bytes → (unpermuted (permuted bytes) ≡ bytes) × (permuted (unpermuted bytes) ≡ bytes)
