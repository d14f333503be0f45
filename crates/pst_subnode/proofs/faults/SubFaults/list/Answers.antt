use Rattle.std.proofs.Common.{sym, ◌∙◌, arith}
use Rattle.pst_subnode.proofs.faults.SubFaults.list.Goals as goal

pub returns-then-limit-most : goal.returns-then-limit-most
returns-then-limit-most c t are = rw c.nesting_fault.ensures (are.deep c.args.bid c.in-Some-depth.most (sym c.depth.ensures ∙ c.in-Some-depth.is) c.args.limit (omega (arith, c.if-limit-most.true)))
