use Rattle.std.proofs.Common.{◌≡◌, ◌++◌, map, take, drop}
use Rattle.pst_encoding.specs.Tables.{r_of}
use Rattle.pst_encoding.proofs.permute.permute.Given as goal

-- those so far are replaced, the others are as they were
abbrev pub invariant-loop-byte : goal.invariant-loop-byte
invariant-loop-byte l = l.bytes ≡ map r_of (take l.byte-index l.fn.bytes) ++ drop l.byte-index l.fn.bytes
