use Rattle.std.proofs.Common.{◌≡◌, ◌-◌, ◌++◌, length, take, drop}
use Rattle.pst_encoding.specs.Cyclic.{turned_each}
use Rattle.pst_encoding.proofs.cyclic.turn_each.Given as goal

-- what is done, and what is left under the next key, are all of it
abbrev pub invariant-loop-at : goal.invariant-loop-at
invariant-loop-at l = record {
  same : length l.bytes ≡ length l.fn.bytes;
  all : take l.at l.bytes ++ turned_each l.next (drop l.at l.bytes) ≡ turned_each l.fn.key l.fn.bytes;
}

abbrev pub decreases-loop-at : goal.decreases-loop-at
decreases-loop-at l = length l.initial.bytes - l.at
