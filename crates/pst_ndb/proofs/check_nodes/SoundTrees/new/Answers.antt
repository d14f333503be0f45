use Rattle.std.proofs.Common.{arith}
use Rattle.pst_ndb.proofs.check_nodes.SoundTrees.new.Goals as goal

pub returns-clause-known : goal.returns-clause-known
returns-clause-known c t = record { trees = c.new.ensures.known t; lists = c.new-2.ensures.known t }

pub returns-clause-empty : goal.returns-clause-empty
returns-clause-empty c = record { trees = c.new.ensures.empty; lists = c.new-2.ensures.empty }

pub returns-clause-counts : goal.returns-clause-counts
returns-clause-counts c = record {
  trees = omega (arith, c.new.ensures.counts, c.new.ensures.none);
  lists = omega (arith, c.new-2.ensures.counts, c.new-2.ensures.none);
}
