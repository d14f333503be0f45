use Rattle.std.proofs.Common.{◌*◌, ◌≤◌}
use Rattle.pst_make.specs.declared.layout.TheConstants.{REGION}
use Rattle.pst_make.proofs.store.build.Given as goal

abbrev pub invariant-loop-region : goal.invariant-loop-region
invariant-loop-region l = l.free ≤ REGION * l.region
