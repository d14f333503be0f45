use Rattle.pst_mail.proofs.ContentsLaws.{contents_law}
use Rattle.pst_mail.proofs.laws.contents_decide.Goals as goal

pub returns : goal.returns
returns c = contents_law
