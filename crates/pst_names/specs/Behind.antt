-- What is left behind some bytes of spans, and the pieces that are left of them.
use Rattle.std.specs.Prelude.{◌≡◌, ℕ, ◌+◌, ◌<◌, List, [], length, drop, Option, Some, None}
use Rattle.pst_bytes.specs.declared.span.Span.{Span}
use Rattle.pst_bytes.specs.Image.{bytes_of}
use Rattle.pst_datatree.specs.declared.pieces.Pieces.{Pieces}
use Rattle.pst_datatree.specs.Left.{spans_left, file_of}
use Rattle.pst_datatree.specs.Spans.{joined_bytes}
use Rattle.pst_names.specs.Streams.{byte_place}

abbrev pub behind_spans : Option Pieces → List Span
behind_spans None = []
behind_spans (Some p) = spans_left p

-- the pieces are of the file with these bytes
abbrev pub file_behind : List ℕ → Option Pieces → List ℕ
file_behind I None = I
file_behind I (Some p) = bytes_of (file_of p)

-- what is left behind so many bytes of spans: the other bytes, each at its place
pub record IsBehind (I : List ℕ) (all : List Span) (n : ℕ) (rest : List Span) : Type 0 where
  pub bytes : joined_bytes I rest ≡ drop n (joined_bytes I all)
  pub place : (k : ℕ) → n + k < length (joined_bytes I all) → byte_place rest k ≡ byte_place all (n + k)
