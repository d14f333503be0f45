use Rattle.std.proofs.Common.{inr, refl}
use Rattle.pst_ndb.specs.Views.{table_of_node}
use Rattle.pst_remembered.proofs.RetoldLemmas.{held_told}
use Rattle.pst_msg.proofs.CountLemmas.{grows_same}
use Rattle.pst_msg.proofs.OpenLemmas.{opening_refused}
use Rattle.pst_msg.proofs.open.open_list.Goals as goal

pub returns-in-Some : goal.returns-in-Some
returns-in-Some c =
    let told = held_told (table_of_node c.args.node) c.args.limit c.args.node c.args.known.now.broken_lists c.part_of_list.result c.top.result c.in-Some.fault c.retold.result refl c.requires.sound c.requires.known.broken_lists c.part_of_list.ensures c.in-Some.ensures c.top.ensures c.retold.ensures in
    record { opening = opening_refused c.requires.known (grows_same _ _ _) (inr told) }
