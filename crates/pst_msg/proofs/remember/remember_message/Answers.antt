use Rattle.std.proofs.Common.{refl}
use Rattle.pst_subnode.specs.declared.check.TheConstants.{LISTS}
use Rattle.pst_ndb.specs.Views.{table_of_node, roots_of}
use Rattle.pst_remembered.specs.declared.role.Role.TheVariants.{Properties}
use Rattle.pst_msg.proofs.OpenLemmas.{whole_message}
use Rattle.pst_msg.proofs.KnownLemmas.{message_remembered}
use Rattle.pst_msg.proofs.remember.remember_message.Goals as goal

pub returns-clause-known : goal.returns-clause-known
returns-clause-known c =
    let t = table_of_node c.args.node in
    let r = roots_of c.args.node in
    message_remembered t c.args.known.now c.insert.new.self LISTS c.args.node refl c.requires.known c.args.node.subs
    (whole_message t r (c.requires.known.contexts Properties r c.requires.properties) c.requires.none)
    (record { properties = c.requires.properties; held = c.requires.inside })
    (rw (← c.key_of.ensures) c.insert.ensures.only) c.insert.ensures.grows
