use Rattle.std.proofs.Common.{◌≡◌, ◌++◌, length, take, drop}
use Rattle.pst_plain.specs.Laws.{xor_each}
use Rattle.pst_plain.proofs.body.xor_bytes.Given as goal

-- what is done, and what is left, are all of it
abbrev pub invariant-loop-i : goal.invariant-loop-i
invariant-loop-i l = record {
  same : length l.bytes ≡ length l.fn.bytes;
  all : take l.i l.bytes ++ xor_each (drop l.i l.bytes) (drop l.i l.others) ≡ xor_each l.fn.bytes l.fn.others;
}
