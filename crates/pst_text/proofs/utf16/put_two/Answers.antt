use Rattle.pst_text.proofs.UnitLemmas.{two_put}
use Rattle.pst_text.proofs.utf16.put_two.Goals as goal

pub returns-clause-put : goal.returns-clause-put
returns-clause-put c = two_put c.args.shown _ _ _ _ c.requires.two.0 c.requires.two.1 c.following.ensures c.push_reserved.ensures.items c.push_reserved-2.ensures.items
