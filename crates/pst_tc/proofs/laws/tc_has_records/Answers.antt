use Rattle.pst_tc.proofs.TcLaws.{records_law}
use Rattle.pst_tc.proofs.laws.tc_has_records.Goals as goal

pub returns : goal.returns
returns c = records_law
