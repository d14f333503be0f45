-- What an iterator over the pieces of a value has left.
use Rattle.std.specs.Prelude.{◌≡◌, ℕ, List, [], ◌∷◌, Option, Some, None}
use Rattle.std.specs.Borrow.{Bor}
use Rattle.std.specs.Iterator.{YieldsFirstRef}
use Rattle.pst_bytes.specs.declared.Image.{Image}
use Rattle.pst_bytes.specs.declared.span.Span.{Span}
use Rattle.pst_bytes.specs.Image.{bytes_of, bytes_at, IsPartOf}
use Rattle.pst_block.specs.Table.{Table}
use Rattle.pst_block.specs.Blocks.{table_of, image_of}
use Rattle.pst_datatree.specs.declared.pieces.Pieces.{Pieces}
use Rattle.pst_datatree.specs.declared.named.Named.{Named}
use Rattle.pst_datatree.specs.declared.position.Position.{Position}
use Rattle.pst_datatree.specs.Position.{named_left}
use Rattle.pst_datatree.specs.Cut.{shown}
use Rattle.pst_datatree.specs.Spans.{slices_of, first_span}

-- the file that the bytes lie in
abbrev pub file_of : Pieces → Image
file_of p = image_of p.blocks

-- the table of blocks, what the data tree's block identifier names there, and the position in the tree
abbrev pub pieces_table : Pieces → Table
pieces_table p = table_of p.blocks

abbrev pub pieces_named : Pieces → Named
pieces_named p = p.named

abbrev pub position_left : Pieces → Position
position_left p = p.at

-- all spans of the data tree from a position on
abbrev pub spans_from : Pieces → Position → List Span
spans_from p at = named_left (pieces_table p) (pieces_named p) at

-- the spans that are left
abbrev pub spans_left : Pieces → List Span
spans_left p = shown p.whole p.skip p.left (spans_from p (position_left p))

-- their bytes
abbrev pub slices_left : Pieces → List (List ℕ)
slices_left p = slices_of (bytes_of (file_of p)) (spans_left p)

-- The first slice of what is left, taken: it is the file's own memory at the first span that is left. The other spans are
-- left behind it, of the same file.
abbrev pub LendsFirst : Pieces → Option (Bor (List ℕ)) → Pieces → Type 0
LendsFirst old None new = (spans_left old ≡ []) × (spans_left new ≡ [])
LendsFirst old (Some slice) new =
    let span = first_span (spans_left old) in
    (spans_left old ≡ span ∷ spans_left new) × (slice.now ≡ bytes_at (bytes_of (file_of old)) span) × IsPartOf (file_of old) span slice

abbrev pub TakesSlice : Pieces → Option (Bor (List ℕ)) → Pieces → Type 0
TakesSlice old slice new = YieldsFirstRef slices_left old slice new × LendsFirst old slice new × (file_of new ≡ file_of old)
