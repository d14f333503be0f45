use Rattle.pst_encoding.proofs.MethodLemmas.{method_law}
use Rattle.pst_encoding.proofs.laws.decoding_undoes_encoding.Goals as goal

pub returns : goal.returns
returns c = method_law
