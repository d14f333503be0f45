use Rattle.pst_ndb.specs.Views.{table_of_node, roots_of}
use Rattle.pst_msg.specs.Frames.{row_named}
use Rattle.pst_msg.proofs.OpenLemmas.{row_opening}
use Rattle.pst_mail.proofs.SubnodeLemmas.{found_limit, found_sound}
use Rattle.pst_msg.proofs.open.open_row.Goals as goal

pub overflow_sub-limit : goal.overflow_sub-limit
overflow_sub-limit c = found_limit (table_of_node c.args.node) c.args.limit _ (roots_of c.args.node) c.in-Some.sub c.requires.sound c.in-Some.ensures.roots

pub open_attachment-requires-clause-sound : goal.open_attachment-requires-clause-sound
open_attachment-requires-clause-sound c = found_sound (table_of_node c.args.node) (table_of_node c.in-Some.sub) c.args.limit _ (roots_of c.args.node) c.in-Some.sub c.in-Some.ensures.table c.requires.sound c.in-Some.ensures.roots

pub returns-else-not-is_type : goal.returns-else-not-is_type
returns-else-not-is_type c = record { opening = row_opening (table_of_node c.args.node) _ _ c.args.node c.in-Some.sub c.args.limit c.args.bid (row_named c.args.row) _ c.in-Some.ensures.table c.requires.sound c.in-Some.ensures.roots (rw (← c.is_type.ensures) c.if-not-is_type.false) c.open_attachment.ensures.opening }
