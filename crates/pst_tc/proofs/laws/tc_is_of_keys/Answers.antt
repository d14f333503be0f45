use Rattle.pst_tc.proofs.AlikeLaws.{alike_tc_law}
use Rattle.pst_tc.proofs.laws.tc_is_of_keys.Goals as goal

pub returns : goal.returns
returns c = alike_tc_law
