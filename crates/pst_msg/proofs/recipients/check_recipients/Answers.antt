use Rattle.pst_ndb.specs.Views.{table_of_node, roots_of}
use Rattle.pst_msg.proofs.GrowLemmas.{recipients_grow}
use Rattle.pst_msg.proofs.recipients.check_recipients.Goals as goal

pub returns-in_err-once-in-Some-clause-grows : goal.returns-in_err-once-in-Some-clause-grows
returns-in_err-once-in-Some-clause-grows c = recipients_grow (table_of_node c.args.node) (table_of_node c.in-Some.table) (roots_of c.args.node) c.in-Some.table c.args.known.now c.once.new.known c.in-Some.ensures.table c.in-Some.ensures.roots c.once.ensures.grows

pub returns-in_ok-once-in-Some-clause-grows : goal.returns-in_ok-once-in-Some-clause-grows
returns-in_ok-once-in-Some-clause-grows c = recipients_grow (table_of_node c.args.node) (table_of_node c.in-Some.table) (roots_of c.args.node) c.in-Some.table c.args.known.now c.once.new.known c.in-Some.ensures.table c.in-Some.ensures.roots c.once.ensures.grows
