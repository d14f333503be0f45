use Rattle.std.proofs.Common.{arith}
use Rattle.std.proofs.lemmas.Result.{err_from_is_err_and}
use Rattle.pst_block.specs.Blocks.{table_of}
use Rattle.pst_fault.proofs.FirstLemmas.{answer-first_at}
use Rattle.pst_datatree.specs.Data.{data_leaf_fault}
use Rattle.pst_datatree.proofs.lengths.leaves_len.Goals as goal

pub returns-in_err-total-clause-value : goal.returns-in_err-total-clause-value
returns-in_err-total-clause-value c =
    let p = err_from_is_err_and c.from_residual.result c.from_residual.ensures.1 in
    let part = data_leaf_fault (table_of c.args.blocks.now) c.args.holder in
    rw (p.1, p.2) (answer-first_at part c.args.count c.loop-i.i _ _ _ c.in_err-total.ensures.value c.loop-i.invariant.sound (omega arith))
