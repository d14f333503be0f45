use Rattle.pst_ndb.specs.Views.{table_of_node}
use Rattle.pst_verify.specs.pst_msg.View.{node_of_message}
use Rattle.pst_export.proofs.count.count_message.Goals as goal

pub next-requires : goal.next-requires
next-requires c = (table_of_node (node_of_message c.args.message), c.loop-walk.invariant.over, c.loop-walk.invariant.index)
