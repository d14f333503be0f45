use Rattle.pst_subnode.proofs.HeightLemmas.{depth_law}
use Rattle.pst_subnode.proofs.laws.height_tells.Goals as goal

pub returns : goal.returns
returns c = depth_law
