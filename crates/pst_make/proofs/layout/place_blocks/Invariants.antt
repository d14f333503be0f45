use Rattle.std.proofs.Common.{◌≡◌, ◌++◌, map, drop}
use Rattle.std.specs.List.{All}
use Rattle.pst_make.specs.Layout.{after_blocks, place_of_block, places_from, IsBlockBelow}
use Rattle.pst_make.specs.Plan.{body_lengths}
use Rattle.pst_make.proofs.layout.place_blocks.Given as goal

-- what is left to be placed ends where all of it ends; what is placed, and what is left, are all of it
abbrev pub invariant-loop-block : goal.invariant-loop-block
invariant-loop-block l = record {
  next : after_blocks l.cursor.next (drop l.block-index (body_lengths l.blocks)) ≡ after_blocks l.fn.cursor.next (body_lengths l.blocks);
  places : map place_of_block l.placed.items ++ places_from l.cursor.next (drop l.block-index l.blocks) ≡ places_from l.fn.cursor.next l.blocks;
  below : All (IsBlockBelow l.cursor.next) l.placed.items;
}
