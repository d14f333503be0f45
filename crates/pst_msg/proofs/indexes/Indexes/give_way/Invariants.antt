use Rattle.std.proofs.Common.{vec_len}
use Rattle.pst_block.specs.Table.{Table}
use Rattle.pst_msg.specs.Indexes.{AreIndexes}
use Rattle.pst_msg.proofs.indexes.Indexes.give_way.Given as goal

abbrev pub invariant-loop-last : goal.invariant-loop-last
invariant-loop-last l = record {
  index : (t : Table) → AreIndexes t l.fn.self → AreIndexes t l.self;
}

abbrev pub decreases-loop-last : goal.decreases-loop-last
decreases-loop-last l = vec_len l.self.held
