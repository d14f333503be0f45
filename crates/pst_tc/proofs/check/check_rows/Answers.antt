use Rattle.std.proofs.lemmas.Result.{err_from_is_err_and}
use Rattle.pst_ndb.specs.Views.{table_of_node}
use Rattle.pst_ndb.specs.Views.{roots_of}
use Rattle.pst_heap.specs.Fault.{told_under}
use Rattle.pst_heap.specs.View.{node_of}
use Rattle.pst_tc.specs.Fault.{row_record_fault}
use Rattle.pst_bth.proofs.RecordLemmas.{record_fails}
use Rattle.pst_tc.proofs.check.check_rows.Goals as goal

pub returns-in_err-check_row : goal.returns-in_err-check_row
returns-in_err-check_row c =
    let p = err_from_is_err_and c.from_residual.result c.from_residual.ensures.1 in
    let t = table_of_node (node_of c.args.heap.now) in
    let r = roots_of (node_of c.args.heap.now) in
    let failed = rw c.loop-taken.invariant.items at c.in_err-check_row.ensures.exact in
    record { exact = rw (p.1, p.2) (record_fails (row_record_fault t r c.args.info) (told_under r) _ _ c.in-Some.taken _ _ c.in-Some.ensures.steps.0 failed c.loop-taken.invariant.left) }
