use Rattle.std.proofs.Common.{◌≡◌, ◌-◌, ◌≤◌, ◌++◌, length, take, drop, map}
use Rattle.pst_encoding.specs.Tables.{i_of}
use Rattle.pst_encoding.proofs.pairs.decode_pairs.Given as goal

-- what is decoded, and what becomes of what is left, are all of it
abbrev pub invariant-loop-at : goal.invariant-loop-at
invariant-loop-at l = record {
  same : length l.bytes ≡ length l.fn.bytes;
  inside : l.at ≤ length l.bytes;
  all : take l.at l.bytes ++ map i_of (drop l.at l.bytes) ≡ map i_of l.fn.bytes;
}

abbrev pub decreases-loop-at : goal.decreases-loop-at
decreases-loop-at l = length l.initial.bytes - l.at
