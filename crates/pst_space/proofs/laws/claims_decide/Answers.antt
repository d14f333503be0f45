use Rattle.pst_space.proofs.ApartLemmas.{claims_law}
use Rattle.pst_space.proofs.laws.claims_decide.Goals as goal

pub returns : goal.returns
returns c = claims_law
