use Rattle.std.proofs.Common.{◌≡◌, ◌+◌, ◌-◌}
use Rattle.pst_bytes.specs.Image.{bytes_of}
use Rattle.pst_amap.specs.Old.{are_marked}
use Rattle.pst_amap.proofs.old.are_marked.Given as goal

abbrev pub invariant-loop-i : goal.invariant-loop-i
invariant-loop-i l = are_marked l.order (bytes_of l.image) (l.unit + l.i) (l.count - l.i) ≡ are_marked l.order (bytes_of l.image) l.unit l.count
