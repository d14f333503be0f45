use Rattle.std.proofs.Common.{◌≡◌, ◌+◌, ◌-◌, ◌≤◌}
use Rattle.pst_space.specs.Flags.{with_flags}
use Rattle.pst_space.proofs.bits.fill.Given as goal

abbrev pub invariant-loop-done : goal.invariant-loop-done
invariant-loop-done l = record {
  rest : with_flags l.words (l.first + l.done) (l.count - l.done) ≡ with_flags l.fn.words l.first l.count;
  within : l.done ≤ l.count;
}

abbrev pub decreases-loop-done : goal.decreases-loop-done
decreases-loop-done l = l.count - l.done
