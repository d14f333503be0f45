-- The three tables of the encodings, as mpbbCrypt has them one after another ([MS-PST] 5.1): the entries of a byte. The tables
-- themselves stand once, in src/tables.rt.
use Rattle.std.specs.Prelude.{◌≡◌, ℕ, ◌<◌, slice_index}
use Rattle.pst_encoding.specs.declared.tables.TheConstants.{MPBB_R, MPBB_S, MPBB_I}

-- in mpbbR
unfoldable pub r_of : ℕ → ℕ
r_of b = slice_index MPBB_R b

-- in mpbbS
unfoldable pub s_of : ℕ → ℕ
s_of b = slice_index MPBB_S b

-- in mpbbI
unfoldable pub i_of : ℕ → ℕ
i_of b = slice_index MPBB_I b

abbrev pub IsByte : ℕ → Type 0
IsByte b = b < 256

-- Each table has a byte for each byte; mpbbI and mpbbR undo each other, and mpbbS undoes itself. So each holds each byte once.
pub record AreTables (b : ℕ) : Type 0 where
  pub r_byte : IsByte (r_of b)
  pub s_byte : IsByte (s_of b)
  pub i_byte : IsByte (i_of b)
  pub i_undoes_r : i_of (r_of b) ≡ b
  pub r_undoes_i : r_of (i_of b) ≡ b
  pub s_undoes_s : s_of (s_of b) ≡ b

abbrev pub TablesLaw : Type 0
TablesLaw = (b : ℕ) → IsByte b → AreTables b
