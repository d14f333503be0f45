use Rattle.pst_whole.proofs.WholeLaws.{sorted_law}
use Rattle.pst_whole.proofs.laws.whole_or_told.Goals as goal

pub returns : goal.returns
returns c = sorted_law
