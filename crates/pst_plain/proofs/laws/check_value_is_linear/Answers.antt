use Rattle.pst_plain.proofs.LawLemmas.{linear_law}
use Rattle.pst_plain.proofs.laws.check_value_is_linear.Goals as goal

pub returns : goal.returns
returns c = linear_law
