use Rattle.std.proofs.Common.{◌≡◌, ◌-◌, ◌≤◌, None, length}
use Rattle.pst_fault.specs.First.{first_below}
use Rattle.pst_bytes.specs.Image.{bytes_of}
use Rattle.pst_amap.specs.Marks.{unit_fault}
use Rattle.pst_amap.proofs.marks.check_marks.Given as goal

abbrev pub invariant-loop-unit : goal.invariant-loop-unit
invariant-loop-unit l = record {
  inside : l.unit ≤ length l.claims;
  sound : first_below (unit_fault l.order (bytes_of l.image) l.claims) l.unit ≡ None;
}

abbrev pub decreases-loop-unit : goal.decreases-loop-unit
decreases-loop-unit l = length l.claims - l.unit
