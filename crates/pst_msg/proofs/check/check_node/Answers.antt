use Rattle.pst_ndb.specs.Views.{table_of_node, table_of_ndb, nodes_of, roots_of}
use Rattle.pst_msg.proofs.GrowLemmas.{search_grows, message_node_grows}
use Rattle.pst_msg.proofs.check.check_node.Goals as goal

pub returns-in_err-once-clause-grows : goal.returns-in_err-once-clause-grows
returns-in_err-once-clause-grows c = search_grows (table_of_ndb c.args.ndb.now) (table_of_node c.args.node) (nodes_of c.args.ndb.now) (roots_of c.args.node) c.args.known.now c.once.new.known c.requires.table (rw (← c.top-nid.ensures, ← c.is_type-2.ensures) c.if-is_type-2.true) c.once.ensures.grows

pub returns-then-is_type-2-clause-grows : goal.returns-then-is_type-2-clause-grows
returns-then-is_type-2-clause-grows c = search_grows (table_of_ndb c.args.ndb.now) (table_of_node c.args.node) (nodes_of c.args.ndb.now) (roots_of c.args.node) c.args.known.now c.once.new.known c.requires.table (rw (← c.top-nid.ensures, ← c.is_type-2.ensures) c.if-is_type-2.true) c.once.ensures.grows

pub returns-then-is_message-clause-grows : goal.returns-then-is_message-clause-grows
returns-then-is_message-clause-grows c = message_node_grows (table_of_ndb c.args.ndb.now) (table_of_node c.args.node) (nodes_of c.args.ndb.now) (roots_of c.args.node) c.args.known.now c.check_message.new.known c.requires.table (rw (← c.top-nid.ensures, ← c.is_message.ensures) c.if-is_message.true) c.check_message.ensures.grows
