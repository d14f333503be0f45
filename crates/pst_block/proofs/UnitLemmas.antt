-- Blocks take whole units of the mapped part.
use Rattle.std.proofs.Common.{◌≡◌, ℕ, ◌-◌, ◌/◌, List, [], ◌∷◌, length, arith}
use Rattle.pst_page.specs.declared.entry.BlockEntry.{BlockEntry}
use Rattle.pst_space.specs.Claimed.{Claimed, IsUnits}
use Rattle.pst_space.specs.Apart.{AreUnits}
use Rattle.pst_block.specs.Block.{block_span}
use Rattle.pst_block.specs.Good.{GoodBlock}
use Rattle.pst_block.specs.Walk.{AreGood, block_spans}
use Rattle.pst_block.proofs.BlockLemmas.{size_large, size_whole}

block_units : (I : List ℕ) (end : ℕ) (m : Claimed) (e : BlockEntry) → length m ≡ (end - 17408) / 64 → GoodBlock I end e → IsUnits m (block_span e)
block_units I end m e long g =
    let large = size_large e.cb in
    let whole = size_whole e.cb in
    record {
      mapped = g.place.mapped;
      whole = g.place.whole_units;
      whole_len = whole;
      some = omega (arith, large);
      inside = omega (arith, long, whole, g.place.mapped, g.place.whole_units, g.place.inside);
    }

pub blocks_units : (I : List ℕ) (end : ℕ) (m : Claimed) (entries : List BlockEntry) → length m ≡ (end - 17408) / 64 → AreGood I end entries → AreUnits m (block_spans entries)
blocks_units I end m [] long g = tt
blocks_units I end m (e ∷ entries) long g = (block_units I end m e long g.0, blocks_units I end m entries long g.1)
