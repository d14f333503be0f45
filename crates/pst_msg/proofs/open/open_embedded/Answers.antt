use Rattle.pst_ndb.specs.Views.{table_of_node, roots_of}
use Rattle.pst_msg.proofs.OpenLemmas.{object_opening}
use Rattle.pst_mail.proofs.SubnodeLemmas.{found_limit, found_sound}
use Rattle.pst_msg.proofs.open.open_embedded.Goals as goal

pub overflow_sub-limit : goal.overflow_sub-limit
overflow_sub-limit c = found_limit (table_of_node c.args.node) c.args.limit c.args.object.nid (roots_of c.args.node) c.in-Some.sub c.requires.sound c.in-Some.ensures.roots

pub open_message-requires-clause-sound : goal.open_message-requires-clause-sound
open_message-requires-clause-sound c = found_sound (table_of_node c.args.node) (table_of_node c.in-Some.sub) c.args.limit c.args.object.nid (roots_of c.args.node) c.in-Some.sub c.in-Some.ensures.table c.requires.sound c.in-Some.ensures.roots

pub returns-in-Some : goal.returns-in-Some
returns-in-Some c = record { opening = object_opening (table_of_node c.args.node) _ _ c.args.node c.in-Some.sub c.args.limit c.args.object _ c.in-Some.ensures.table c.requires.sound c.in-Some.ensures.roots c.open_message.ensures.opening }
