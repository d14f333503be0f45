use Rattle.std.proofs.Common.{◌≡◌}
use Rattle.pst_space.proofs.MapLemmas.{maps_below}
use Rattle.pst_space.proofs.claims.Claims.new.Given as goal

abbrev pub invariant-loop-region : goal.invariant-loop-region
invariant-loop-region l = l.claims ≡ maps_below l.header l.region
