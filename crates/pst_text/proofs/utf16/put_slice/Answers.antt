use Rattle.pst_text.proofs.UnitLemmas.{units_end}
use Rattle.pst_text.proofs.utf16.put_slice.Goals as goal

pub returns-clause-put : goal.returns-clause-put
returns-clause-put c = units_end c.args.bytes.now c.loop-at.at _ _ c.loop-at-test.false c.loop-at.invariant.all
