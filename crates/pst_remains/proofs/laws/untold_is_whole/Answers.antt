use Rattle.pst_remains.proofs.LawLemmas.{whole_law}
use Rattle.pst_remains.proofs.laws.untold_is_whole.Goals as goal

pub returns : goal.returns
returns c = whole_law
