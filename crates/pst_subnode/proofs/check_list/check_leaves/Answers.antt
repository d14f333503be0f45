use Rattle.std.proofs.Common.{arith}
use Rattle.std.proofs.lemmas.Result.{err_from_is_err_and}
use Rattle.pst_block.specs.Blocks.{table_of}
use Rattle.pst_fault.proofs.FirstLemmas.{answer-first_at}
use Rattle.pst_subnode.specs.List.{list_leaf_fault}
use Rattle.pst_subnode.proofs.check_list.check_leaves.Goals as goal

pub returns-in_err-check_leaf : goal.returns-in_err-check_leaf
returns-in_err-check_leaf c =
    let p = err_from_is_err_and c.from_residual.result c.from_residual.ensures.1 in
    rw (p.1, p.2) (answer-first_at (list_leaf_fault (table_of c.args.blocks.now) c.args.holder) c.args.count c.loop-i.i _ _ _ c.in_err-check_leaf.ensures c.loop-i.invariant (omega arith))
