use Rattle.pst_mail.proofs.LimitLemmas.{limit_law}
use Rattle.pst_mail.proofs.laws.limits_agree.Goals as goal

pub returns : goal.returns
returns c = limit_law
