use Rattle.std.proofs.Common.{◌≡◌}
use Rattle.pst_text.proofs.docs.units.Given as goal

-- the units that came so far
abbrev pub invariant-loop-unit : goal.invariant-loop-unit
invariant-loop-unit l = l.units.items ≡ l.yielded
