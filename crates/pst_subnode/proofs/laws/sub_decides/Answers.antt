use Rattle.pst_subnode.proofs.TreeLaws.{sub_law}
use Rattle.pst_subnode.proofs.laws.sub_decides.Goals as goal

pub returns : goal.returns
returns c = sub_law
