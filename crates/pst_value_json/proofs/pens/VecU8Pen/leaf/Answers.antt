use Rattle.pst_text.proofs.KeptLemmas.{kept_by}
use Rattle.pst_value_json.proofs.pens.VecU8Pen.leaf.Goals as goal

pub returns-clause-kept : goal.returns-clause-kept
returns-clause-kept c base kept = kept_by c.put_leaf.result _ _ _ _ c.put_leaf.ensures.put c.put_leaf.ensures.kept kept
