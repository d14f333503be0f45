use Rattle.std.proofs.Common.{◌≡◌, ◌++◌, take, drop}
use Rattle.pst_encoding.specs.Cyclic.{with_low_added}
use Rattle.pst_encoding.proofs.cyclic.raise.Given as goal

-- what is done, and what is left from the next low byte on, are all of it
abbrev pub invariant-loop-byte : goal.invariant-loop-byte
invariant-loop-byte l = take l.byte-index l.bytes ++ with_low_added l.next (drop l.byte-index l.bytes) ≡ with_low_added l.fn.low l.fn.bytes
