-- A block ([MS-PST] 2.2.2.8), by its entry in the block B-tree: the cb bytes of its body from ib on, then padding, and at
-- its end the trailer (2.2.2.8.1) of 16 bytes. In all it has the least units that hold both.
use Rattle.std.specs.Prelude.{ℕ, ◌+◌, ◌-◌, ◌*◌, ◌/◌}
use Rattle.pst_bytes.specs.declared.span.Span.{Span}
use Rattle.pst_header.specs.declared.header.TheConstants.{UNIT}
use Rattle.pst_page.specs.declared.entry.BlockEntry.{BlockEntry}
use Rattle.pst_page.specs.declared.kind.PageKind.TheVariants.{Bbt}
use Rattle.pst_page.specs.Entry.{key_of}

-- how many bytes a block with a body of cb bytes takes: cb and 16, rounded up to whole units
unfoldable pub block_size : ℕ → ℕ
block_size cb = (cb + 79) / UNIT * UNIT

-- the bytes that it takes
abbrev pub block_span : BlockEntry → Span
block_span e = record { at = e.ib; len = block_size e.cb }

-- its body
abbrev pub body_span : BlockEntry → Span
body_span e = record { at = e.ib; len = e.cb }

-- where its trailer begins
abbrev pub trailer_at : BlockEntry → ℕ
trailer_at e = e.ib + block_size e.cb - 16

-- a block's identifier (2.2.2.2) without its bit 0, which says nothing
abbrev pub bid_key : ℕ → ℕ
bid_key bid = key_of Bbt bid
