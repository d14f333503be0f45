-- The blocks of a damaged file, in the order of their entries: the faults of those that have one, and the entries of the others.
use Rattle.std.specs.Prelude.{ℕ, ◌+◌, Bool, ◌&&◌, nat_eq, List, [], ◌∷◌, ◌++◌, Option, Some, None}
use Rattle.pst_bytes.specs.Image.{num}
use Rattle.pst_fault.specs.declared.fault.Fault.{Fault}
use Rattle.pst_fault.specs.First.{◌then◌}
use Rattle.pst_page.specs.declared.entry.BlockEntry.{BlockEntry}
use Rattle.pst_space.specs.Claimed.{Claimed, with_span}
use Rattle.pst_block.specs.Block.{block_span, trailer_at, bid_key}
use Rattle.pst_block.specs.Fault.{block_place_fault, block_trailer_fault}
use Rattle.pst_remains.specs.Judged.{overlap_fault}

-- The first fault of a block beside what is claimed: its place and length, whether something lies there, its trailer.
unfoldable pub block_damage : ℕ → List ℕ → Claimed → BlockEntry → Option Fault
block_damage end I claimed e =
    block_place_fault end e then overlap_fault claimed (block_span e) e.bid then block_trailer_fault I e

-- Its trailer names it ([MS-PST] 2.2.2.8.1): its length and its identifier, apart from bit 0, are right.
abbrev pub is_named_by_trailer : List ℕ → BlockEntry → Bool
is_named_by_trailer I e = nat_eq (num I (trailer_at e) 2) e.cb && nat_eq (bid_key (num I (trailer_at e + 8) 8)) (bid_key e.bid)

-- what is found of blocks: what is claimed, the faults, and the entries of blocks without fault
pub record BlocksLeft : Type 0 where
  pub claimed : Claimed
  pub faults : List Fault
  pub good : List BlockEntry

abbrev pub blocks_so_far : Claimed → List Fault → List BlockEntry → BlocksLeft
blocks_so_far claimed faults good = record { claimed = claimed; faults = faults; good = good }

-- A block without a fault claims its space; one with a fault is told, and claims nothing.
abbrev pub told_block : Option Fault → BlocksLeft → BlockEntry → BlocksLeft
told_block None b e = blocks_so_far (with_span b.claimed (block_span e)) b.faults (b.good ++ e ∷ [])
told_block (Some f) b e = blocks_so_far b.claimed (b.faults ++ f ∷ []) b.good

unfoldable pub with_block : ℕ → List ℕ → BlocksLeft → BlockEntry → BlocksLeft
with_block end I b e = told_block (block_damage end I b.claimed e) b e

unfoldable pub with_blocks : ℕ → List ℕ → BlocksLeft → List BlockEntry → BlocksLeft
with_blocks end I b [] = b
with_blocks end I b (e ∷ rest) = with_blocks end I (with_block end I b e) rest

abbrev pub blocks_left : ℕ → List ℕ → Claimed → List BlockEntry → BlocksLeft
blocks_left end I claimed entries = with_blocks end I (blocks_so_far claimed [] []) entries
