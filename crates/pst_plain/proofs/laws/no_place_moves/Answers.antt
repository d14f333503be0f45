use Rattle.pst_plain.proofs.LawLemmas.{places_law}
use Rattle.pst_plain.proofs.laws.no_place_moves.Goals as goal

pub returns : goal.returns
returns c = places_law
