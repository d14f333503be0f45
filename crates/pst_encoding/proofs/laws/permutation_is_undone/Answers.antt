use Rattle.pst_encoding.proofs.MethodLemmas.{permute_law}
use Rattle.pst_encoding.proofs.laws.permutation_is_undone.Goals as goal

pub returns : goal.returns
returns c = permute_law
