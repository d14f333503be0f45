use Rattle.pst_space.proofs.MapLemmas.{maps_law}
use Rattle.pst_space.proofs.laws.map_pages_are_apart.Goals as goal

pub returns : goal.returns
returns c = maps_law
