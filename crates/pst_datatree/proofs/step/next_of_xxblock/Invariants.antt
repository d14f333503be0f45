use Rattle.std.proofs.Common.{◌≡◌, ◌-◌}
use Rattle.pst_block.specs.Blocks.{table_of}
use Rattle.pst_datatree.specs.Position.{xxblock_left}
use Rattle.pst_datatree.proofs.step.next_of_xxblock.Given as goal

abbrev pub invariant-loop-place : goal.invariant-loop-place
invariant-loop-place l = xxblock_left (table_of l.blocks) l.entry l.place ≡ xxblock_left (table_of l.blocks) l.entry l.fn.at

abbrev pub decreases-loop-place : goal.decreases-loop-place
decreases-loop-place l = l.count - l.place.child
