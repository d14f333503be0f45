use Rattle.std.proofs.Common.{◌-◌, ◌≤◌}
use Rattle.pst_bytes.specs.Image.{bytes_of}
use Rattle.pst_datatree.specs.List.{count_in}
use Rattle.pst_subnode.proofs.guess.guess_of_entries.Given as goal

abbrev pub invariant-loop-low : goal.invariant-loop-low
invariant-loop-low l = l.high ≤ count_in (bytes_of l.body)

abbrev pub decreases-loop-low : goal.decreases-loop-low
decreases-loop-low l = l.high - l.low
