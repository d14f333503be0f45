use Rattle.pst_value_json.proofs.PenLemmas.{next_key}
use Rattle.pst_value_json.proofs.pens.VecU8Pen.next.Goals as goal

pub returns-clause-put : goal.returns-clause-put
returns-clause-put c base done at e rest =
    next_key base.items at.0.items _ _ c.args.mark.now c.args._key.now at.1 at.2 at.3 done e rest c.requires.plain at.4 at.5 at.7 c.requires.mark c.in_ok-extend_from_slice.ensures.items
