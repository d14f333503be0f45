use Rattle.pst_text.proofs.UnitLemmas.{four_put}
use Rattle.pst_text.proofs.utf16.put_four.Goals as goal

pub returns-clause-put : goal.returns-clause-put
returns-clause-put c =
    four_put c.args.shown _ _ _ _ _ _ _ _ c.requires.four.0 c.following.ensures c.following-2.ensures c.following-3.ensures
    c.push_reserved.ensures.items c.push_reserved-2.ensures.items c.push_reserved-3.ensures.items c.push_reserved-4.ensures.items
