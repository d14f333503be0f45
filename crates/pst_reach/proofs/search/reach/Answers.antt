use Rattle.std.proofs.Common.{arith}
use Rattle.pst_reach.proofs.LoopLemmas.{capped_small}
use Rattle.pst_reach.proofs.search.reach.Goals as goal

pub returns-clause-walked : goal.returns-clause-walked
returns-clause-walked c =
    let before = c.walked_in-walked in
    let counted = c.in_ok-reached.ensures.walked before.result (capped_small before.result (omega (arith, before.type_inv))) in
    rw c.known.ensures at (rw (c.of-intact.ensures.table, c.of-intact.ensures.nodes, before.ensures) at counted)
