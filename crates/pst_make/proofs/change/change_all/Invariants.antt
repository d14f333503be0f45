use Rattle.std.proofs.Common.{ℕ, List, drop}
use Rattle.pst_make.specs.declared.change.ChangeFault.{ChangeFault}
use Rattle.pst_make.specs.Change.{AreChanged, StopsAt}
use Rattle.pst_make.proofs.change.change_all.Given as goal

-- what is left makes of the image, or stops at, what all of them do
abbrev pub invariant-loop-one : goal.invariant-loop-one
invariant-loop-one l = record {
  done : (new : List ℕ) → AreChanged (drop l.one-index l.fn.changes) l.image.items new → AreChanged l.fn.changes l.fn.image.items new;
  stops : (new : List ℕ) (fault : ChangeFault) → StopsAt (drop l.one-index l.fn.changes) l.image.items new fault → StopsAt l.fn.changes l.fn.image.items new fault;
}
