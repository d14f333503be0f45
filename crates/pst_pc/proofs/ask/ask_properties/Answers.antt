use Rattle.std.proofs.Common.{rules, ◌≡◌, []}
use Rattle.pst_ndb.specs.Views.{table_of_node, roots_of}
use Rattle.pst_heap.specs.View.{node_of}
use Rattle.pst_bth.specs.View.{records_of}
use Rattle.pst_bth.specs.Left.{records_left}
use Rattle.pst_value.proofs.AskLemmas.{left_next, left_done}
use Rattle.pst_pc.specs.Fault.{property_fault}
use Rattle.pst_pc.proofs.PcLemmas.{first_sound, rest_sound}
use Rattle.pst_pc.proofs.ask.ask_properties.Goals as goal

pub ask_property-requires-clause-sound : goal.ask_property-requires-clause-sound
ask_property-requires-clause-sound c =
    let node = node_of c.args.heap.now in
    first_sound (table_of_node node) (roots_of node) (records_left c.loop-taken.rest) (records_left c.next.new.self) c.in-Some.taken c.in-Some.taken.0 c.loop-taken.invariant.sound c.in-Some.ensures.steps.0

pub loop-taken-preserved : goal.loop-taken-preserved
loop-taken-preserved c =
    let node = node_of c.args.heap.now in
    let t = table_of_node node in
    let r = roots_of node in
    let old = records_left c.loop-taken.rest in
    let new = records_left c.next.new.self in
    record {
      left = left_next t r c.loop-taken.asks c.ask_property.new.asks (property_fault t) (records_of c.args.bth.now) old new c.in-Some.taken c.loop-taken.invariant.left c.in-Some.ensures.steps.0 c.ask_property.ensures.more c.in_ok-ask_property.ensures.holds;
      sound = rest_sound t r old new c.in-Some.taken c.loop-taken.invariant.sound c.in-Some.ensures.steps.0;
      bth = search rules;
    }

pub returns-clause-holds : goal.returns-clause-holds
returns-clause-holds c =
    let node = node_of c.args.heap.now in
    let done : records_left c.loop-taken.rest ≡ [] = search rules in
    left_done (table_of_node node) (roots_of node) c.loop-taken.asks (property_fault (table_of_node node)) (records_of c.args.bth.now) (records_left c.loop-taken.rest) c.loop-taken.invariant.left done
