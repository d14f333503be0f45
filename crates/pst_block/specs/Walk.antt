-- All blocks of a file, in the order of their keys: what is claimed once they are, or the first fault. The place, the claim
-- and the trailer of one block come before the next block.
use Rattle.std.specs.Prelude.{◌≡◌, ⊤, ℕ, ◌-◌, ◌/◌, ◌↔◌, List, [], ◌∷◌, length, map, Option, None, Ok}
use Rattle.pst_bytes.specs.declared.span.Span.{Span}
use Rattle.pst_fault.specs.declared.fault.Fault.{Fault}
use Rattle.pst_fault.specs.First.{◌then◌}
use Rattle.pst_header.specs.declared.header.TheConstants.{FIRST_AMAP, UNIT}
use Rattle.pst_page.specs.declared.entry.BlockEntry.{BlockEntry}
use Rattle.pst_space.specs.Claimed.{Claimed, with_spans}
use Rattle.pst_space.specs.Apart.{AreFree, AreApart}
use Rattle.pst_space.specs.Step.{Step, ◌>>=◌, unless, claim_step}
use Rattle.pst_block.specs.Block.{block_span}
use Rattle.pst_block.specs.Fault.{block_place_fault, block_trailer_fault, block_fault}
use Rattle.pst_block.specs.Good.{GoodBlock}

-- one block: its place, its claim, its trailer
unfoldable pub block_step : ℕ → List ℕ → Claimed → BlockEntry → Step Claimed
block_step end I claimed e =
    unless (block_place_fault end e) claimed (do
      more ← claim_step (block_span e) e.bid claimed
      unless (block_trailer_fault I e) more (Ok more))

-- all blocks, one after another
unfoldable pub blocks_walk : ℕ → List ℕ → Claimed → List BlockEntry → Step Claimed
blocks_walk end I claimed [] = Ok claimed
blocks_walk end I claimed (e ∷ rest) = do
  more ← block_step end I claimed e
  blocks_walk end I more rest

-- the first fault of blocks, whatever is claimed
unfoldable pub blocks_fault : ℕ → List ℕ → List BlockEntry → Option Fault
blocks_fault end I [] = None
blocks_fault end I (e ∷ rest) = block_fault end I e then blocks_fault end I rest

-- each entry's block is good
abbrev pub AreGood : List ℕ → ℕ → List BlockEntry → Type 0
AreGood I end [] = ⊤
AreGood I end (e ∷ rest) = GoodBlock I end e × AreGood I end rest

-- the bytes that blocks take
abbrev pub block_spans : List BlockEntry → List Span
block_spans entries = map block_span entries

-- what blocks have claimed: they have no byte in common with what was claimed, and none with each other
pub record AreClaimed (old new : Claimed) (entries : List BlockEntry) : Type 0 where
  pub free : AreFree old (block_spans entries)
  pub apart : AreApart (block_spans entries)
  pub claims : new ≡ with_spans old (block_spans entries)

-- Where each unit of the mapped part has its flag, there is no fault exactly where all blocks are good, and lie on nothing
-- that is claimed and not on each other.
abbrev pub BlocksLaw : Type 0
BlocksLaw = (I : List ℕ) (end : ℕ) (old new : Claimed) (entries : List BlockEntry) → length old ≡ (end - FIRST_AMAP) / UNIT → (AreGood I end entries × AreClaimed old new entries) ↔ (blocks_walk end I old entries ≡ Ok new)
