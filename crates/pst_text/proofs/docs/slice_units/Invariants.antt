use Rattle.std.proofs.Common.{◌≡◌, ◌++◌, ◌+◌, ◌-◌, ◌/◌, ◌≤◌, length, drop}
use Rattle.std.specs.Prelude.{vec_len, vec_capacity}
use Rattle.pst_value.specs.Units.{units_of}
use Rattle.pst_text.proofs.docs.slice_units.Given as goal

-- the units so far, with those that are left, are all, and there is room for what is left
abbrev pub invariant-loop-at : goal.invariant-loop-at
invariant-loop-at l = record {
  within : l.at ≤ length l.bytes;
  room : vec_len l.units + (length l.bytes - l.at) / 2 ≤ vec_capacity l.units;
  all : l.units.items ++ units_of (drop l.at l.bytes) ≡ units_of l.bytes;
}

abbrev pub decreases-loop-at : goal.decreases-loop-at
decreases-loop-at l = length l.bytes - l.at
