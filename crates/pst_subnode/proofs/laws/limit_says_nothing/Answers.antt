use Rattle.pst_subnode.proofs.HeightLaws.{limit_law}
use Rattle.pst_subnode.proofs.laws.limit_says_nothing.Goals as goal

pub returns : goal.returns
returns c = limit_law
