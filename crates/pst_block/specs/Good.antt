-- A good block.
use Rattle.std.specs.Prelude.{◌≡◌, ℕ, ◌+◌, ◌≤◌, ◌↔◌, List, None}
use Rattle.pst_bytes.specs.Image.{num, bytes_at}
use Rattle.pst_crc.specs.Crc.{crc, signature_of}
use Rattle.pst_header.specs.Place.{IsPlace}
use Rattle.pst_page.specs.declared.entry.BlockEntry.{BlockEntry}
use Rattle.pst_block.specs.Block.{block_span, body_span, trailer_at, bid_key}
use Rattle.pst_block.specs.Fault.{block_fault}

-- its trailer (2.2.2.8.1): cb, wSig, dwCRC, bid
pub record HasBlockTrailer (I : List ℕ) (e : BlockEntry) : Type 0 where
  pub length : num I (trailer_at e) 2 ≡ e.cb
  pub signature : num I (trailer_at e + 2) 2 ≡ signature_of e.ib (num I (trailer_at e + 8) 8)
  pub check : num I (trailer_at e + 4) 4 ≡ crc (bytes_at I (body_span e))
  pub bid : bid_key (num I (trailer_at e + 8) 8) ≡ bid_key e.bid

-- The block of an entry is good: its body has at most 8,176 bytes, it is in the mapped part, which ends at `end`
-- ([MS-PST] 2.2.2.8), and its trailer is right.
pub record GoodBlock (I : List ℕ) (end : ℕ) (e : BlockEntry) : Type 0 where
  pub small : e.cb ≤ 8176
  pub place : IsPlace end (block_span e)
  pub trailer : HasBlockTrailer I e

-- a block is good exactly where it has no first fault
abbrev pub BlockLaw : Type 0
BlockLaw = (I : List ℕ) (end : ℕ) (e : BlockEntry) → GoodBlock I end e ↔ (block_fault end I e ≡ None)
