use Rattle.std.proofs.Common.{◌≡◌, ◌++◌, ◌-◌, ◌≤◌, length}
use Rattle.pst_bytes.specs.Image.{bytes_of}
use Rattle.pst_amap.specs.Lost.{is_lost, runs_from, lost_runs}
use Rattle.pst_amap.proofs.lost.find_lost.Given as goal

abbrev pub invariant-loop-unit : goal.invariant-loop-unit
invariant-loop-unit l = record {
  all : l.runs.items ++ runs_from (is_lost l.order (bytes_of l.image) l.claims) l.run l.unit (l.units - l.unit) ≡ lost_runs l.order (bytes_of l.image) l.claims;
  run : l.run ≤ l.unit;
  inside : l.unit ≤ length l.claims;
}

abbrev pub decreases-loop-unit : goal.decreases-loop-unit
decreases-loop-unit l = length l.claims - l.unit
