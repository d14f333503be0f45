use Rattle.std.proofs.Common.{rules, ◌≡◌, []}
use Rattle.pst_fault.proofs.EachLemmas.{each_first, each_rest}
use Rattle.pst_ndb.specs.Views.{table_of_node, roots_of}
use Rattle.pst_heap.specs.View.{node_of}
use Rattle.pst_bth.specs.View.{records_of}
use Rattle.pst_bth.specs.Left.{records_left}
use Rattle.pst_value.proofs.AskLemmas.{left_next, left_done}
use Rattle.pst_tc.specs.Fault.{row_record_fault}
use Rattle.pst_tc.proofs.ask.ask_rows.Goals as goal

pub ask_row-requires-clause-sound : goal.ask_row-requires-clause-sound
ask_row-requires-clause-sound c =
    let node = node_of c.args.heap.now in
    each_first (row_record_fault (table_of_node node) (roots_of node) c.args.info) (records_left c.loop-taken.rest) (records_left c.next.new.self) c.in-Some.taken c.loop-taken.invariant.sound c.in-Some.ensures.steps.0

pub ask_row-requires-clause-asked : goal.ask_row-requires-clause-asked
ask_row-requires-clause-asked c = λ s e met. c.requires.asked s e (c.loop-taken.invariant.more (table_of_node (node_of c.args.heap.now)) s met)

pub loop-taken-preserved : goal.loop-taken-preserved
loop-taken-preserved c =
    let node = node_of c.args.heap.now in
    let t = table_of_node node in
    let r = roots_of node in
    let old = records_left c.loop-taken.rest in
    let new = records_left c.next.new.self in
    record {
      left = left_next t r c.loop-taken.asks c.ask_row.new.asks (λ s. row_record_fault t s c.args.info) (records_of c.args.bth.now) old new c.in-Some.taken c.loop-taken.invariant.left c.in-Some.ensures.steps.0 c.ask_row.ensures.more c.in_ok-ask_row.ensures.holds;
      sound = each_rest (row_record_fault t r c.args.info) old new c.in-Some.taken c.loop-taken.invariant.sound c.in-Some.ensures.steps.0;
      more = λ u s met. c.loop-taken.invariant.more u s (c.ask_row.ensures.more u s met);
      bth = search rules;
      lies = search rules;
      rows = search rules;
    }

pub returns-clause-holds : goal.returns-clause-holds
returns-clause-holds c =
    let node = node_of c.args.heap.now in
    let t = table_of_node node in
    let done : records_left c.loop-taken.rest ≡ [] = search rules in
    left_done t (roots_of node) c.loop-taken.asks (λ s. row_record_fault t s c.args.info) (records_of c.args.bth.now) (records_left c.loop-taken.rest) c.loop-taken.invariant.left done
