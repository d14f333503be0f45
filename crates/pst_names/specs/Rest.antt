-- The bytes of a stream that are left to be read.
use Rattle.std.specs.Prelude.{ℕ, suc, List, ◌∷◌, Option, Some, None, length}
use Rattle.pst_bytes.specs.declared.span.Span.{Span}
use Rattle.pst_bytes.specs.Image.{bytes_of}
use Rattle.pst_datatree.specs.declared.pieces.Pieces.{Pieces}
use Rattle.pst_datatree.specs.Left.{spans_left}
use Rattle.pst_names.specs.declared.rest.Rest.{Rest}
use Rattle.pst_names.specs.Behind.{behind_spans}

-- the bytes of the file
abbrev pub rest_file : Rest → List ℕ
rest_file r = bytes_of r.image

-- what is left of a span, and the spans behind it
abbrev pub front_span : Rest → Span
front_span r = record { at = r.at; len = length r.front.now }

abbrev pub rest_spans : Rest → List Span
rest_spans r = front_span r ∷ behind_spans r.behind

-- how often the next piece can be asked for
abbrev pub pieces_in : Option Pieces → ℕ
pieces_in None = 0
pieces_in (Some p) = suc (length (spans_left p))

abbrev pub pieces_left : Rest → ℕ
pieces_left r = pieces_in r.behind
