use Rattle.std.proofs.Common.{◌*◌, ◌≤◌}
use Rattle.pst_make.proofs.maps.free_bytes.Given as goal

abbrev pub invariant-loop-byte : goal.invariant-loop-byte
invariant-loop-byte l = l.units ≤ 8 * l.byte-index
