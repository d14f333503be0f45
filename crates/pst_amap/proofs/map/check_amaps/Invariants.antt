use Rattle.std.proofs.Common.{◌≡◌, None}
use Rattle.pst_fault.specs.First.{first_below}
use Rattle.pst_bytes.specs.Image.{bytes_of}
use Rattle.pst_amap.specs.Map.{amap_fault}
use Rattle.pst_amap.proofs.map.check_amaps.Given as goal

abbrev pub invariant-loop-region : goal.invariant-loop-region
invariant-loop-region l = first_below (amap_fault (bytes_of l.image)) l.region ≡ None
