use Rattle.pst_encoding.proofs.CyclicLemmas.{cyclic_law}
use Rattle.pst_encoding.proofs.laws.cyclic_undoes_itself.Goals as goal

pub returns : goal.returns
returns c = cyclic_law
