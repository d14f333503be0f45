use Rattle.std.proofs.Common.{◌≡◌, ◌+◌, ◌-◌, ◌≤◌}
use Rattle.pst_space.specs.Flags.{clear_in}
use Rattle.pst_space.proofs.bits.is_clear.Given as goal

abbrev pub invariant-loop-done : goal.invariant-loop-done
invariant-loop-done l = record {
  rest : clear_in l.words (l.first + l.done) (l.count - l.done) ≡ clear_in l.words l.first l.count;
  within : l.done ≤ l.count;
}

abbrev pub decreases-loop-done : goal.decreases-loop-done
decreases-loop-done l = l.count - l.done
