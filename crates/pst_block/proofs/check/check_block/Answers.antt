use Rattle.std.proofs.Common.{sym}
use Rattle.std.proofs.lemmas.Result.{err_from_is_err_and}
use Rattle.pst_fault.proofs.FirstLemmas.{answer_ok}
use Rattle.pst_block.proofs.WalkLemmas.{step_refused}
use Rattle.pst_block.proofs.check.check_block.Goals as goal

pub returns-in_err-claim_block-clause-ends : goal.returns-in_err-claim_block-clause-ends
returns-in_err-claim_block-clause-ends c =
    let p = err_from_is_err_and c.from_residual-in_err-claim_block.result c.from_residual-in_err-claim_block.ensures.1 in
    let place = answer_ok _ _ _ (sym c.in_ok-span.ensures.exact) in
    rw (p.1, p.2) (step_refused _ _ _ _ _ _ place.0 c.in_err-claim_block.ensures.ends)
