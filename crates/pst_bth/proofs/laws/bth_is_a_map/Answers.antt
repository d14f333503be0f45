use Rattle.pst_bth.proofs.MapLaws.{bth_map_law}
use Rattle.pst_bth.proofs.laws.bth_is_a_map.Goals as goal

pub returns : goal.returns
returns c = bth_map_law
