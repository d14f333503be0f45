use Rattle.pst_value_json.proofs.PenLemmas.{object_end}
use Rattle.pst_value_json.proofs.pens.VecU8Pen.close.Goals as goal

pub returns-clause-put : goal.returns-clause-put
returns-clause-put c base done at = object_end base.items at.0.items _ _ at.1 at.2 at.3 done at.4 at.5 at.7 c.in_ok-push.ensures.items
