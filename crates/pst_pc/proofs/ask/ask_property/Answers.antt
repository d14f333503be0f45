use Rattle.std.proofs.Common.{rules, ◌≡◌, ◌-◌}
use Rattle.pst_bytes.specs.Image.{num}
use Rattle.pst_ndb.specs.Views.{table_of_node, roots_of}
use Rattle.pst_heap.specs.View.{node_of}
use Rattle.pst_pc.specs.Fault.{property_fault}
use Rattle.pst_pc.proofs.PcLemmas.{has_value}
use Rattle.pst_pc.proofs.ask.ask_property.Goals as goal

pub ask_value-requires-clause-sound : goal.ask_value-requires-clause-sound
ask_value-requires-clause-sound c =
    let node = node_of c.args.heap.now in
    let is : c.number16.result ≡ num (table_of_node node).image c.args.content.at 2 = search rules in
    has_value (table_of_node node) (roots_of node) c.args.id c.number16.result c.args.content c.requires.sound is

pub returns-clause-holds : goal.returns-clause-holds
unfolding property_fault
returns-clause-holds c =
    let node = node_of c.args.heap.now in
    let is : c.number16.result ≡ num (table_of_node node).image c.args.content.at 2 = search rules in
    rw is at c.ask_value.ensures.holds (c.args.content.at - 2)
