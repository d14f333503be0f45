use Rattle.std.proofs.Common.{◌≡◌, ◌<◌, ◌+◌, ◌*◌, ap, ℕ, arith}
use Rattle.pst_ndb.specs.Views.{table_of_node, roots_of}
use Rattle.pst_heap.specs.View.{node_of}
use Rattle.pst_tc.specs.Info.{column_count}
use Rattle.pst_tc.proofs.InfoLemmas.{sound_column}
use Rattle.pst_tc.proofs.AskLemmas.{cell_at, cells_next}
use Rattle.pst_tc.proofs.ask.ask_cells.Goals as goal

pub ask_cell-requires-clause-good : goal.ask_cell-requires-clause-good
ask_cell-requires-clause-good c =
    let I = (table_of_node (node_of c.args.heap.now)).image in
    let count : c.column_count-count.result ≡ column_count I c.args.info = cc (c.column_count-count.ensures.value, c.image.ensures.bytes) in
    let lt : c.loop-i.i < column_count I c.args.info = omega (arith, count, c.loop-i-test.true) in
    sound_column I c.args.info c.loop-i.i _ c.requires.front lt (ap (λ (i : ℕ). c.args.info.at + 22 + 8 * i) c.from.ensures)

pub ask_cell-requires-clause-sound : goal.ask_cell-requires-clause-sound
ask_cell-requires-clause-sound c =
    let node = node_of c.args.heap.now in
    let I = (table_of_node node).image in
    let count : c.column_count-count.result ≡ column_count I c.args.info = cc (c.column_count-count.ensures.value, c.image.ensures.bytes) in
    let lt : c.loop-i.i < column_count I c.args.info = omega (arith, count, c.loop-i-test.true) in
    cell_at (table_of_node node) (roots_of node) c.args.info c.args.row.at c.loop-i.i _ c.requires.sound lt (ap (λ (i : ℕ). c.args.info.at + 22 + 8 * i) c.from.ensures)

pub loop-i-preserved : goal.loop-i-preserved
loop-i-preserved c =
    let node = node_of c.args.heap.now in
    record {
      holds = cells_next (table_of_node node) (roots_of node) c.loop-i.asks c.ask_cell.new.asks c.args.info c.args.row.at c.loop-i.i _ c.loop-i.invariant.holds c.ask_cell.ensures.more (ap (λ (i : ℕ). c.args.info.at + 22 + 8 * i) c.from.ensures) c.in_ok-ask_cell.ensures.holds;
      more = λ t s met. c.loop-i.invariant.more t s (c.ask_cell.ensures.more t s met);
    }
