use Rattle.std.proofs.Common.{◌≡◌, vec_len}
use Rattle.pst_block.specs.Table.{Table}
use Rattle.pst_ndb.specs.NodeIndexes.{AreNodeIndexes}
use Rattle.pst_export.specs.Walk.{IsWalkOver, walk_left}
use Rattle.pst_export.proofs.walk.Walk.next.Given as goal

-- nothing is left of the tasks that were taken
abbrev pub invariant-loop-task : goal.invariant-loop-task
invariant-loop-task l = record {
  left : walk_left l.initial.self ≡ walk_left l.self;
  over : (t : Table) → IsWalkOver t l.initial.self → IsWalkOver t l.self;
  index : (t : Table) → IsWalkOver t l.initial.self → AreNodeIndexes t l.initial.index → AreNodeIndexes t l.index;
}

abbrev pub decreases-loop-task : goal.decreases-loop-task
decreases-loop-task l = vec_len l.self.tasks
