use Rattle.pst_subnode.proofs.FaultLemmas.{found_there, deep_there}
use Rattle.pst_subnode.proofs.faults.SubFaults.put_list.Goals as goal

pub returns-then-is_nesting : goal.returns-then-is_nesting
returns-then-is_nesting c t first are =
    c.keep_deep.ensures t (deep_there t c.args.bid c.args.limit c.args.fault first (c.is_nesting.ensures c.if-is_nesting.true)) are

pub returns-then-is_worth : goal.returns-then-is_worth
returns-then-is_worth c t first are =
    c.keep_found.ensures t (found_there t c.args.bid c.args.limit c.args.fault first (c.is_worth.ensures c.if-is_worth.true) c.in_default.not-Nesting) are
