use Rattle.pst_ndb.specs.Views.{table_of_node}
use Rattle.pst_msg.proofs.AidLemmas.{indexes_turned}
use Rattle.pst_msg.proofs.message.turn_to.Goals as goal

pub returns-clause-known : goal.returns-clause-known
returns-clause-known c = indexes_turned (table_of_node c.args.frame.now.node) c.args.known.now c.turn.new.self c.requires c.turn.ensures.index
