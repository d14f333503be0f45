use Rattle.pst_remains.proofs.LawLemmas.{first_law}
use Rattle.pst_remains.proofs.laws.first_told_decides.Goals as goal

pub returns : goal.returns
returns c = first_law
