use Rattle.pst_subnode.proofs.MapLaws.{map_law}
use Rattle.pst_subnode.proofs.laws.subs_are_a_map.Goals as goal

pub returns : goal.returns
returns c = map_law
