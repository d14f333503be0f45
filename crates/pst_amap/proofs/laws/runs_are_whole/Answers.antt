use Rattle.pst_amap.proofs.RunLaws.{runs_law}
use Rattle.pst_amap.proofs.laws.runs_are_whole.Goals as goal

pub returns : goal.returns
returns c = runs_law
