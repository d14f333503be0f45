use Rattle.pst_text.proofs.UnitLemmas.{three_put}
use Rattle.pst_text.proofs.utf16.put_three.Goals as goal

pub returns-clause-put : goal.returns-clause-put
returns-clause-put c =
    three_put c.args.shown _ _ _ _ _ _ c.requires.three.0 c.requires.three.1 c.following.ensures c.following-2.ensures
    c.push_reserved.ensures.items c.push_reserved-2.ensures.items c.push_reserved-3.ensures.items
