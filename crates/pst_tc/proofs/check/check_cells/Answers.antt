use Rattle.std.proofs.Common.{◌≡◌, ◌<◌, ◌+◌, ◌*◌, ap, ℕ, arith}
use Rattle.std.proofs.lemmas.Result.{err_from_is_err_and}
use Rattle.pst_ndb.specs.Views.{table_of_node}
use Rattle.pst_ndb.specs.Views.{roots_of}
use Rattle.pst_heap.specs.Items.{node_of_items}
use Rattle.pst_tc.specs.Info.{column_count}
use Rattle.pst_tc.proofs.InfoLemmas.{sound_column}
use Rattle.pst_tc.proofs.TcLemmas.{cells_fail}
use Rattle.pst_tc.proofs.check.check_cells.Goals as goal

pub check_cell-requires-clause-good : goal.check_cell-requires-clause-good
check_cell-requires-clause-good c =
    let I = (table_of_node (node_of_items c.args.items.now)).image in
    let count : c.column_count-count.result ≡ column_count I c.args.info = cc (c.column_count-count.ensures.value, c.image-image.ensures.bytes) in
    let lt : c.loop-i.i < column_count I c.args.info = omega (arith, count, c.loop-i-test.true) in
    rw c.loop-i.invariant.heap (sound_column I c.args.info c.loop-i.i _ c.requires.sound lt (ap (λ (i : ℕ). c.args.info.at + 22 + 8 * i) c.from.ensures))

pub returns-in_err-check_cell-clause-exact : goal.returns-in_err-check_cell-clause-exact
returns-in_err-check_cell-clause-exact c =
    let p = err_from_is_err_and c.from_residual.result c.from_residual.ensures.1 in
    let t = table_of_node (node_of_items c.args.items.now) in
    let r = roots_of (node_of_items c.args.items.now) in
    let I = t.image in
    let count : c.column_count-count.result ≡ column_count I c.args.info = cc (c.column_count-count.ensures.value, c.image-image.ensures.bytes) in
    let lt : c.loop-i.i < column_count I c.args.info = omega (arith, count, c.loop-i-test.true) in
    let failed = rw c.loop-i.invariant.heap at c.in_err-check_cell.ensures.exact in
    rw (p.1, p.2) (cells_fail t r c.args.info c.args.row.at c.loop-i.i _ _ lt c.loop-i.invariant.none (ap (λ (i : ℕ). c.args.info.at + 22 + 8 * i) c.from.ensures) failed)
