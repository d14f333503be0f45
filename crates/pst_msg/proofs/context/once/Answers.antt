use Rattle.pst_ndb.specs.Views.{table_of_node, roots_of}
use Rattle.pst_msg.specs.declared.known.KnownParts.{KnownParts}
use Rattle.pst_remembered.specs.Keys.{key}
use Rattle.pst_msg.specs.Known.{IsTrueOf}
use Rattle.pst_remembered.specs.Roles.{role_number}
use Rattle.pst_msg.proofs.AidLemmas.{aids_turned}
use Rattle.pst_msg.proofs.KnownLemmas.{OneMore, context_remembered}
use Rattle.pst_msg.proofs.context.once.Goals as goal

pub returns-in_err-check_anew-clause-known : goal.returns-in_err-check_anew-clause-known
returns-in_err-check_anew-clause-known c =
    let k = c.args.known.now in
    aids_turned (table_of_node c.args.node) k c.check_anew.new.index c.check_anew.new.maps c.check_anew.new.asked c.check_anew.new.broken c.requires c.check_anew.ensures.index c.check_anew.ensures.maps c.check_anew.ensures.asked c.check_anew.ensures.broken

pub returns-in_err-insert-clause-known : goal.returns-in_err-insert-clause-known
returns-in_err-insert-clause-known c =
    let k = c.args.known.now in
    let turned : KnownParts = record k { index = c.check_anew.new.index; maps = c.check_anew.new.maps; asked = c.check_anew.new.asked; broken = c.check_anew.new.broken } in
    let is : IsTrueOf (table_of_node c.args.node) turned =
    aids_turned (table_of_node c.args.node) k c.check_anew.new.index c.check_anew.new.maps c.check_anew.new.asked c.check_anew.new.broken c.requires c.check_anew.ensures.index c.check_anew.ensures.maps c.check_anew.ensures.asked c.check_anew.ensures.broken in
    let more : OneMore k.contexts c.insert.new.self (key (role_number c.args.role) (roots_of c.args.node)) = rw (← c.role_number.ensures, ← c.key_of-taken.ensures) c.insert.ensures.only in
    context_remembered (table_of_node c.args.node) c.args.role (roots_of c.args.node) turned c.insert.new.self k.count is c.in_ok-check_anew.ensures.exact.0 more c.insert.ensures.grows

pub returns-clause-known : goal.returns-clause-known
returns-clause-known c =
    let k = c.args.known.now in
    let turned : KnownParts = record k { index = c.check_anew.new.index; maps = c.check_anew.new.maps; asked = c.check_anew.new.asked; broken = c.check_anew.new.broken } in
    let is : IsTrueOf (table_of_node c.args.node) turned =
    aids_turned (table_of_node c.args.node) k c.check_anew.new.index c.check_anew.new.maps c.check_anew.new.asked c.check_anew.new.broken c.requires c.check_anew.ensures.index c.check_anew.ensures.maps c.check_anew.ensures.asked c.check_anew.ensures.broken in
    let more : OneMore k.contexts c.insert.new.self (key (role_number c.args.role) (roots_of c.args.node)) = rw (← c.role_number.ensures, ← c.key_of-taken.ensures) c.insert.ensures.only in
    context_remembered (table_of_node c.args.node) c.args.role (roots_of c.args.node) turned c.insert.new.self c.saturating_add-known.result is c.in_ok-check_anew.ensures.exact.0 more c.insert.ensures.grows
