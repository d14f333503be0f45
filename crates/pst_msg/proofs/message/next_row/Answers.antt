use Rattle.pst_ndb.specs.Views.{table_of_node}
use Rattle.pst_msg.proofs.AidLemmas.{names_turned}
use Rattle.pst_msg.proofs.message.next_row.Goals as goal

pub returns-clause-known : goal.returns-clause-known
returns-clause-known c = names_turned (table_of_node c.args.frame.now.node) c.args.known.now c.next.new.names c.requires.known (rw c.requires.table at c.next.ensures.names)
