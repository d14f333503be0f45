use Rattle.pst_value_json.proofs.PenLemmas.{first_key}
use Rattle.pst_value_json.proofs.pens.VecU8Pen.first.Goals as goal

pub returns-clause-put : goal.returns-clause-put
returns-clause-put c d rest = first_key _ _ c.args.mark.now c.args._key.now d rest c.requires.plain c.requires.mark c.in_ok-extend_from_slice.ensures.items
