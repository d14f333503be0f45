-- The blocks of a row matrix lie in the file.
use Rattle.std.proofs.Common.{◌≡◌, ℕ, zero, suc, List, [], ◌∷◌, Some}
use Rattle.std.specs.Prelude.{slice_get}
use Rattle.pst_bytes.specs.declared.span.Span.{Span}
use Rattle.pst_bytes.specs.Image.{IsInside}
use Rattle.pst_datatree.specs.Spans.{AreInside}

-- an element of spans that lie in the file does
pub got_inside : (I : List ℕ) (spans : List Span) (n : ℕ) (s : Span) → AreInside I spans → Some s ≡ slice_get spans n → IsInside I s
got_inside I [] zero s inside e = absurd cc
got_inside I [] (suc n) s inside e = absurd cc
got_inside I (x ∷ xs) zero s inside e = let same : s ≡ x = cc in rw same inside.0
got_inside I (x ∷ xs) (suc n) s inside e = got_inside I xs n s inside.1 e
