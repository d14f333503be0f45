use Rattle.pst_ndb.specs.Views.{table_of_node, roots_of}
use Rattle.pst_remembered.proofs.DataFaultLemmas.{data_told}
use Rattle.pst_remembered.proofs.FaultsLemmas.{context_told}
use Rattle.pst_msg.proofs.context.known_fault.Goals as goal

pub returns-in-Some : goal.returns-in-Some
returns-in-Some c =
    context_told (table_of_node c.args.node) c.args.role c.args.broken.now c.part_of.result (roots_of c.args.node) c.top.result c.in-Some.fault c.at_node.result c.requires c.part_of.ensures.roots (rw (← c.role_number-number.ensures) c.part_of.ensures.number) c.in-Some.ensures c.top.ensures c.at_node.ensures

pub returns-in-Some-get : goal.returns-in-Some-get
returns-in-Some-get c =
    data_told (table_of_node c.args.node) c.args.role c.args.broken.now c.part_of_data.result (roots_of c.args.node) c.top-in-Some-get.result c.in-Some-get.fault c.at_node-in-Some-get.result c.requires c.part_of_data.ensures.data (rw (← c.role_number-number.ensures) c.part_of_data.ensures.number) c.in-Some-get.ensures (rw (← c.is_of_data.ensures) c.if-is_of_data.true) c.top-in-Some-get.ensures c.at_node-in-Some-get.ensures
