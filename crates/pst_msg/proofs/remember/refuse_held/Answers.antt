use Rattle.std.proofs.Common.{refl}
use Rattle.pst_ndb.specs.Views.{table_of_node}
use Rattle.pst_msg.proofs.BrokenLemmas.{whole_first}
use Rattle.pst_msg.proofs.remember.refuse_held.Goals as goal

pub remember_broken-requires-clause-first : goal.remember_broken-requires-clause-first
remember_broken-requires-clause-first c = whole_first (table_of_node c.args.node) c.args.limit c.args.node c.args.fault refl c.requires.sound c.requires.first
