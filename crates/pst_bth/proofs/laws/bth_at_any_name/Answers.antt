use Rattle.pst_bth.proofs.BthLaws.{name_law}
use Rattle.pst_bth.proofs.laws.bth_at_any_name.Goals as goal

pub returns : goal.returns
returns c = name_law
