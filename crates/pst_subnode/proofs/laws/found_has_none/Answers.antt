use Rattle.pst_subnode.proofs.MapLaws.{found_law}
use Rattle.pst_subnode.proofs.laws.found_has_none.Goals as goal

pub returns : goal.returns
returns c = found_law
