use Rattle.pst_subnode.proofs.HeightLaws.{same_sub_law}
use Rattle.pst_subnode.proofs.laws.subs_are_of_key.Goals as goal

pub returns : goal.returns
returns c = same_sub_law
