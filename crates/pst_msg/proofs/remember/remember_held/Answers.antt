use Rattle.pst_ndb.specs.Views.{table_of_node}
use Rattle.pst_msg.proofs.CountLemmas.{grows_then}
use Rattle.pst_msg.proofs.remember.remember_held.Goals as goal

pub returns-clause-grows : goal.returns-clause-grows
returns-clause-grows c = grows_then (table_of_node c.args.node) (λ nodes. Unit {0}) _ _ _ c.remember_list.ensures.grows c.remember_message.ensures.grows
