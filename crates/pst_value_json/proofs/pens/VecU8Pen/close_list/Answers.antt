use Rattle.pst_value_json.proofs.PenLemmas.{list_end}
use Rattle.pst_value_json.proofs.pens.VecU8Pen.close_list.Goals as goal

pub returns-clause-put : goal.returns-clause-put
returns-clause-put c base done so_far = list_end base.items _ _ c.args._later done so_far c.in_ok-push.ensures.items
