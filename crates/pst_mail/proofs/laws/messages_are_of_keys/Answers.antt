use Rattle.pst_mail.proofs.AlikeLemmas.{alike_law}
use Rattle.pst_mail.proofs.laws.messages_are_of_keys.Goals as goal

pub returns : goal.returns
returns c = alike_law
