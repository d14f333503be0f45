use Rattle.std.proofs.Common.{◌≡◌, ◌+◌, ◌≤◌, length}
use Rattle.pst_datatree.specs.Cut.{cut}
use Rattle.pst_datatree.specs.Left.{spans_left, spans_from}
use Rattle.pst_datatree.proofs.pieces.Pieces.after_part.Given as goal

abbrev pub invariant-loop-span : goal.invariant-loop-span
invariant-loop-span l = record {
  same : cut l.skip (l.skip + l.self.left) (spans_from l.self l.place) ≡ spans_left l.self;
  small : l.skip ≤ l.self.skip;
}

abbrev pub decreases-loop-span : goal.decreases-loop-span
decreases-loop-span l = length (spans_from l.self l.place)
