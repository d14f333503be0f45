use Rattle.pst_subnode.proofs.TreeLaws.{one_law}
use Rattle.pst_subnode.proofs.laws.sub_is_one.Goals as goal

pub returns : goal.returns
returns c = one_law
