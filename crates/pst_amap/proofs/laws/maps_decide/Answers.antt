use Rattle.pst_amap.proofs.MapsLaws.{maps_law}
use Rattle.pst_amap.proofs.laws.maps_decide.Goals as goal

pub returns : goal.returns
returns c = maps_law
