use Rattle.std.proofs.Common.{◌≡◌, ◌++◌, map, take, drop}
use Rattle.pst_encoding.specs.Cyclic.{turned}
use Rattle.pst_encoding.proofs.cyclic.turn.Given as goal

-- those so far are turned, the others are as they were
abbrev pub invariant-loop-byte : goal.invariant-loop-byte
invariant-loop-byte l = l.bytes ≡ map (turned l.high) (take l.byte-index l.fn.bytes) ++ drop l.byte-index l.fn.bytes
