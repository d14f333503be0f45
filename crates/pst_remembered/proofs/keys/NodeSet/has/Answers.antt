use Rattle.std.proofs.Common.{arith, sym, ◌∙◌}
use Rattle.pst_remembered.proofs.KeyLemmas.{not_alone, never_alone}
use Rattle.pst_remembered.proofs.keys.NodeSet.has.Goals as goal

pub returns-then-sub-gt0 : goal.returns-then-sub-gt0
returns-then-sub-gt0 c = c.has.ensures ∙ never_alone c.args.self.now c.args.taken (omega (arith, c.if-sub-gt0.true))

pub returns : goal.returns
returns c = c.has-3.ensures ∙ not_alone c.args.self.now c.args.taken (omega (arith, c.if-sub-gt0.false)) (sym c.has-2.ensures ∙ c.if-has.false)
