use Rattle.std.proofs.Common.{refl}
use Rattle.std.proofs.lemmas.Result.{err_from_is_err_and}
use Rattle.pst_fault.proofs.EachLemmas.{each_refused, each_next, each_done}
use Rattle.pst_damage.specs.Folder.{row_damage}
use Rattle.pst_damage.specs.Left.{left_nodes, left_pages}
use Rattle.pst_damage.proofs.folder.check_each.Goals as goal

pub returns-in_err-check_row : goal.returns-in_err-check_row
returns-in_err-check_row c =
    let p = err_from_is_err_and c.from_residual.result c.from_residual.ensures.1 in
    record { exact = rw (p.1, p.2) (each_refused (row_damage (left_nodes c.args.left.now) (left_pages c.args.left.now) c.args.items c.args.bid) _ _ _ _ _ c.in-Some.ensures.steps.0 c.in_err-check_row.ensures.exact c.loop-row.invariant) }

pub loop-row-preserved : goal.loop-row-preserved
loop-row-preserved c = each_next (row_damage (left_nodes c.args.left.now) (left_pages c.args.left.now) c.args.items c.args.bid) _ _ _ _ c.in-Some.ensures.steps.0 c.in_ok-check_row.ensures.exact.0 c.loop-row.invariant

pub returns : goal.returns
returns c = record { exact = (each_done (row_damage (left_nodes c.args.left.now) (left_pages c.args.left.now) c.args.items c.args.bid) _ _ c.in-None.ensures.steps.0.0 c.loop-row.invariant, refl) }
