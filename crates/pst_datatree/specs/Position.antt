-- What is left of a data tree from a position on: of the XBLOCKs that an XXBLOCK names, those from the child's number on,
-- and of their data blocks (or of an XBLOCK's) all but so many first ones.
use Rattle.std.specs.Prelude.{◌≡◌, ℕ, ◌+◌, ◌-◌, ◌<◌, ◌≤◌, ⊤, Option, Some, None, List, [], ◌∷◌, drop, length}
use Rattle.pst_bytes.specs.declared.span.Span.{Span}
use Rattle.pst_fault.specs.First.{join_from}
use Rattle.pst_page.specs.declared.entry.BlockEntry.{BlockEntry}
use Rattle.pst_block.specs.Table.{Table, body_of}
use Rattle.pst_datatree.specs.declared.named.Named.{Named}
use Rattle.pst_datatree.specs.declared.named.Named.TheVariants.{Nothing, Missing, Data, Xblock, Xxblock}
use Rattle.pst_datatree.specs.declared.position.Position.{Position}
use Rattle.pst_datatree.specs.List.{count_in}
use Rattle.pst_datatree.specs.Cut.{cut}
use Rattle.pst_datatree.specs.Data.{data_block_spans, xblock_spans, child_spans}

unfoldable pub xblock_left : Table → BlockEntry → Position → List Span
xblock_left t e at = drop at.leaf (xblock_spans t e)

unfoldable pub xxblock_left : Table → BlockEntry → Position → List Span
xxblock_left t e at = let body = body_of t e in drop at.leaf (join_from (child_spans t body) at.child (count_in body - at.child))

-- of what an identifier names
abbrev pub named_left : Table → Named → Position → List Span
named_left t Nothing at = []
named_left t Missing at = []
named_left t (Data e) at = drop at.leaf (data_block_spans e)
named_left t (Xblock e) at = xblock_left t e at
named_left t (Xxblock e) at = xxblock_left t e at

-- the first span that is left, and the position behind it; none where nothing is left
abbrev pub Splits : (Position → List Span) → Position → Option (Span × Position) → Type 0
Splits left at None = left at ≡ []
Splits left at (Some next) = left at ≡ next.0 ∷ left next.1

-- Whole XBLOCKs are passed over: behind so many bytes from one position on there is the same as behind the others from
-- another, further one.
abbrev pub Passes : (Position → List Span) → Position → ℕ → Option (Position × ℕ) → Type 0
Passes left at skip None = ⊤
Passes left at skip (Some next) =
    ((more : ℕ) → cut skip (skip + more) (left at) ≡ cut next.1 (next.1 + more) (left next.0))
    × (next.1 ≤ skip)
    × (length (left next.0) ≤ length (left at))
    × (at.child < next.0.child)
