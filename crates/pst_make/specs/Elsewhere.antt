-- Writes, and what they leave as it was.
use Rattle.std.specs.Prelude.{◌≡◌, ℕ, ◌+◌, List, [], ◌∷◌, ◌++◌, length, take, drop}
use Rattle.pst_bytes.specs.Image.{bytes_at}
use Rattle.pst_bytes.specs.Span.{IsApartFromAll}
use Rattle.pst_bytes.specs.declared.span.Span.{Span}

-- the bytes after others were written at a place
unfoldable pub overwritten : List ℕ → ℕ → List ℕ → List ℕ
overwritten I at bytes = take at I ++ (bytes ++ drop (at + length bytes) I)

abbrev pub one_field : ℕ → ℕ → List Span
one_field at len = record { at = at; len = len } ∷ []

-- there are as many bytes as there were, and each span apart from these fields has the bytes that it had
pub record SameElsewhere (old new : List ℕ) (fields : List Span) : Type 0 where
  pub length_same : length new ≡ length old
  pub others : (s : Span) → IsApartFromAll s fields → bytes_at new s ≡ bytes_at old s
