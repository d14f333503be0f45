-- The first fault of a block. Each is told where the block lies, with the identifier of its entry.
use Rattle.std.specs.Prelude.{ℕ, ◌+◌, Bool, ◌&&◌, nat_eq, nat_le, List, Option}
use Rattle.pst_bytes.specs.Image.{num, bytes_at}
use Rattle.pst_crc.specs.Crc.{crc, signature_of}
use Rattle.pst_fault.specs.declared.fault.Fault.{Fault}
use Rattle.pst_fault.specs.declared.kind.Kind.TheVariants.{BlockPlace, BlockTrailer}
use Rattle.pst_fault.specs.Fault.{fault_in}
use Rattle.pst_fault.specs.First.{◌then◌, holds_or}
use Rattle.pst_header.specs.Place.{is_place}
use Rattle.pst_page.specs.declared.entry.BlockEntry.{BlockEntry}
use Rattle.pst_block.specs.Block.{block_span, body_span, trailer_at, bid_key}

-- The trailer that begins at an offset: cb is the entry's, bid the entry's apart from its bit 0, wSig the signature of
-- the block's place and the bid that stands here, and dwCRC the check value of the body.
abbrev pub is_trailer : List ℕ → BlockEntry → ℕ → Bool
is_trailer I e at =
    nat_eq (num I at 2) e.cb
    && nat_eq (bid_key (num I (at + 8) 8)) (bid_key e.bid)
    && nat_eq (num I (at + 2) 2) (signature_of e.ib (num I (at + 8) 8))
    && nat_eq (num I (at + 4) 4) (crc (bytes_at I (body_span e)))

unfoldable pub has_block_trailer : List ℕ → BlockEntry → Bool
has_block_trailer I e = is_trailer I e (trailer_at e)

-- A body has at most 8,176 bytes, and the block lies in the mapped part, which ends at `end`.
unfoldable pub block_place_fault : ℕ → BlockEntry → Option Fault
block_place_fault end e = holds_or (nat_le e.cb 8176 && is_place end (block_span e)) (fault_in BlockPlace e.ib e.bid)

-- of a block that is in its place
unfoldable pub block_trailer_fault : List ℕ → BlockEntry → Option Fault
block_trailer_fault I e = holds_or (has_block_trailer I e) (fault_in BlockTrailer e.ib e.bid)

-- of a block, whatever its entry says
unfoldable pub block_fault : ℕ → List ℕ → BlockEntry → Option Fault
block_fault end I e = block_place_fault end e then block_trailer_fault I e
