use Rattle.std.proofs.Common.{◌≡◌, None}
use Rattle.pst_bytes.specs.Image.{bytes_of}
use Rattle.pst_fault.specs.First.{first_below}
use Rattle.pst_tc.specs.Fault.{column_fault}
use Rattle.pst_tc.proofs.info.check_info.Given as goal

abbrev pub invariant-loop-i : goal.invariant-loop-i
invariant-loop-i l = first_below (column_fault (bytes_of l.image) l.info) l.i ≡ None
