use Rattle.pst_tc.proofs.LookUpLaws.{look_ups_law}
use Rattle.pst_tc.proofs.laws.tc_look_ups.Goals as goal

pub returns : goal.returns
returns c = look_ups_law
