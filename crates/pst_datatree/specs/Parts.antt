-- The parts of a data tree ([MS-PST] 2.2.2.8.3): of an XXBLOCK the XBLOCKs that it names, in order; what is no XXBLOCK is one
-- part, itself. The spans of a data tree without fault are those of its parts, one after another.
use Rattle.std.specs.Prelude.{◌≡◌, ℕ, List}
use Rattle.pst_bytes.specs.declared.span.Span.{Span}
use Rattle.pst_fault.specs.First.{join_below}
use Rattle.pst_block.specs.Table.{Table, body_of}
use Rattle.pst_datatree.specs.declared.named.Named.{Named}
use Rattle.pst_datatree.specs.declared.named.Named.TheVariants.{Nothing, Missing, Data, Xblock, Xxblock}
use Rattle.pst_datatree.specs.List.{count_in, bid_in}
use Rattle.pst_datatree.specs.Named.{named_by}
use Rattle.pst_datatree.specs.Data.{data_spans}

-- of what an identifier names: how many there are
abbrev pub named_count : Table → Named → ℕ
named_count t Nothing = 1
named_count t Missing = 1
named_count t (Data e) = 1
named_count t (Xblock e) = 1
named_count t (Xxblock e) = count_in (body_of t e)

-- and the block identifier of the one with a number
abbrev pub named_part : Table → ℕ → Named → ℕ → ℕ
named_part t bid Nothing i = bid
named_part t bid Missing i = bid
named_part t bid (Data e) i = bid
named_part t bid (Xblock e) i = bid
named_part t bid (Xxblock e) i = bid_in (body_of t e) i

-- the same of a block identifier
unfoldable pub part_count : Table → ℕ → ℕ
part_count t bid = named_count t (named_by t bid)

unfoldable pub part_in : Table → ℕ → ℕ → ℕ
part_in t bid i = named_part t bid (named_by t bid) i

-- the spans of the part with a number
abbrev pub part_spans : Table → ℕ → ℕ → List Span
part_spans t bid i = data_spans t (part_in t bid i)

-- the spans of a data tree are those of its parts
abbrev pub HasParts : Table → ℕ → Type 0
HasParts t bid = data_spans t bid ≡ join_below (part_spans t bid) (part_count t bid)
