use Rattle.pst_tc.specs.View.{row_parts}
use Rattle.pst_mail.proofs.ViewLemmas.{found_there, found_attachment}
use Rattle.pst_mail.proofs.message_view.Message.attachment.Goals as goal

pub of-requires : goal.of-requires
of-requires c = found_attachment c.args.self.now.node c.in-Some.sub c.args.nid c.id.result (row_parts c.in_ok-row.row) c.args.self.now.sound c.in_ok-row.ensures c.id.ensures c.in-Some.ensures.roots c.in-Some.ensures.table

pub unreachable-requires : goal.unreachable-requires
unreachable-requires c = found_there c.args.self.now.node c.args.nid c.id.result (row_parts c.in_ok-row.row) c.args.self.now.sound c.in_ok-row.ensures c.id.ensures c.in-None.ensures.roots
