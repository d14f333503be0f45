use Rattle.pst_subnode.proofs.HeightLaws.{below_law}
use Rattle.pst_subnode.proofs.laws.found_nests_fewer.Goals as goal

pub returns : goal.returns
returns c = below_law
