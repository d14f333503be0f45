use Rattle.std.proofs.Common.{Ok, Err}
use Rattle.std.proofs.lemmas.Result.{err_from_is_err_and}
use Rattle.pst_block.proofs.WalkLaws.{walked_good, only_if, some_if}
use Rattle.pst_block.proofs.check.check_blocks.Goals as goal

pub returns-in_err-blocks-clause-only : goal.returns-in_err-blocks-clause-only
returns-in_err-blocks-clause-only c new g all =
    let p = err_from_is_err_and c.from_residual.result c.from_residual.ensures.1 in
    rw p.1 (only_if {X = Unit {0}} _ _ _ _ new _ (Err _) c.in_err-blocks.ensures.exact g all)

pub returns-in_err-blocks-clause-some : goal.returns-in_err-blocks-clause-some
returns-in_err-blocks-clause-some c = some_if {X = Unit {0}} _ _ _ _ _ (Err _) c.in_err-blocks.ensures.exact

pub returns-clause-found : goal.returns-clause-found
returns-clause-found c = (walked_good _ _ _ _ _ c.in_ok-blocks.ensures.exact).0

pub returns-clause-some : goal.returns-clause-some
returns-clause-some c = some_if {X = Unit {0}} _ _ _ _ _ (Ok tt) c.in_ok-blocks.ensures.exact
