use Rattle.pst_ndb.specs.Views.{table_of_node, roots_of}
use Rattle.pst_remembered.specs.Broken.{held_part, retold}
use Rattle.pst_msg.proofs.KnownLemmas.{fault_remembered}
use Rattle.pst_remembered.proofs.RetoldLemmas.{held_keep}
use Rattle.pst_msg.proofs.remember.remember_broken.Goals as goal

pub returns-in_err-remember-clause-known : goal.returns-in_err-remember-clause-known
returns-in_err-remember-clause-known c =
    let t = table_of_node c.args.node in
    fault_remembered t c.args.known.now c.remember.new.self c.requires.known
    (c.remember.ensures retold (held_part t) (held_keep t (roots_of c.args.node) c.part_of_list.result c.args.fault c.top.result c.part_of_list.ensures c.requires.first c.top.ensures (c.is_alike.ensures c.if-is_alike.true)) c.requires.known.broken_lists)

pub returns-in_ok-remember-clause-known : goal.returns-in_ok-remember-clause-known
returns-in_ok-remember-clause-known c =
    let t = table_of_node c.args.node in
    fault_remembered t c.args.known.now c.remember.new.self c.requires.known
    (c.remember.ensures retold (held_part t) (held_keep t (roots_of c.args.node) c.part_of_list.result c.args.fault c.top.result c.part_of_list.ensures c.requires.first c.top.ensures (c.is_alike.ensures c.if-is_alike.true)) c.requires.known.broken_lists)
