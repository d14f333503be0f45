use Rattle.pst_amap.proofs.ExactLaws.{exact_law}
use Rattle.pst_amap.proofs.laws.marks_are_exact.Goals as goal

pub returns : goal.returns
returns c = exact_law
