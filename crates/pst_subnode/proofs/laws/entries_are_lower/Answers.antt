use Rattle.pst_subnode.proofs.HeightLaws.{lower_law}
use Rattle.pst_subnode.proofs.laws.entries_are_lower.Goals as goal

pub returns : goal.returns
returns c = lower_law
