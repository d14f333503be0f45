use Rattle.pst_subnode.proofs.HeightLaws.{height_law}
use Rattle.pst_subnode.proofs.laws.height_is_enough.Goals as goal

pub returns : goal.returns
returns c = height_law
