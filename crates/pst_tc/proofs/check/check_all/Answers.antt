use Rattle.std.proofs.lemmas.Result.{err_from_is_err_and}
use Rattle.pst_ndb.specs.Views.{table_of_node, roots_of}
use Rattle.pst_tc.proofs.TcLemmas.{heap_fails}
use Rattle.pst_tc.proofs.check.check_all.Goals as goal

pub returns-in_err-heap-clause-exact : goal.returns-in_err-heap-clause-exact
returns-in_err-heap-clause-exact c =
    let p = err_from_is_err_and c.from_residual.result c.from_residual.ensures.1 in
    rw (p.1, p.2) (heap_fails (table_of_node c.args.node) (roots_of c.args.node) _ c.in_err-heap.ensures.exact)
