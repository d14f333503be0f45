use Rattle.std.proofs.Common.{refl}
use Rattle.pst_subnode.specs.declared.check.TheConstants.{LISTS}
use Rattle.pst_ndb.specs.Views.{table_of_node}
use Rattle.pst_msg.proofs.KnownLemmas.{attachment_remembered}
use Rattle.pst_msg.proofs.remember.remember_attachment.Goals as goal

pub returns-clause-known : goal.returns-clause-known
returns-clause-known c = attachment_remembered (table_of_node c.args.node) c.args.known.now c.insert.new.self LISTS c.args.node refl c.requires.known c.args.node.subs c.requires.none c.requires.inside (rw (← c.key_of.ensures) c.insert.ensures.only) c.insert.ensures.grows
