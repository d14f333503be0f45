-- The first span that a reader of spans shows, and the reader behind it.
use Rattle.std.specs.Prelude.{◌≡◌, Option, Some, None, List, [], ◌∷◌}
use Rattle.pst_bytes.specs.declared.Image.{Image}
use Rattle.pst_bytes.specs.declared.span.Span.{Span}
use Rattle.pst_datatree.specs.declared.pieces.Pieces.{Pieces}
use Rattle.pst_datatree.specs.Left.{spans_left, file_of}

-- none exactly where none is left
abbrev pub IsAfter : List Span → Image → Option (Span × Pieces) → Type 0
IsAfter spans file None = spans ≡ []
IsAfter spans file (Some next) = (spans ≡ next.0 ∷ spans_left next.1) × (file_of next.1 ≡ file)
