use Rattle.pst_mail.proofs.ViewLemmas.{next_left, next_there, next_sound}
use Rattle.pst_mail.proofs.attachments.Attachments.next_by.Goals as goal

pub of-requires : goal.of-requires
of-requires c = next_sound c.args.self.now.node c.in-Some-subnode.sub c.args.self.now.rest c.in-Some.rest c.next.new.self c.in_ok-row.row c.id.result c.args.self.now.sound c.in-Some.is c.in_ok-row.ensures.steps.0 c.id.ensures c.in-Some-subnode.ensures.roots c.in-Some-subnode.ensures.table

pub unreachable-requires : goal.unreachable-requires
unreachable-requires c = next_there c.args.self.now.node c.args.self.now.rest c.in-Some.rest c.next.new.self c.in_ok-row.row c.id.result c.args.self.now.sound c.in-Some.is c.in_ok-row.ensures.steps.0 c.id.ensures c.in-None.ensures.roots

pub invariant_of-self : goal.invariant_of-self
invariant_of-self c = record { sound = next_left c.args.self.now.node c.args.self.now.rest c.in-Some.rest c.next.new.self c.in_ok-row.row c.args.self.now.sound c.in-Some.is c.in_ok-row.ensures.steps.0 }
