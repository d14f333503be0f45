use Rattle.pst_tc.proofs.TcLaws.{rise_of_rows}
use Rattle.pst_tc.proofs.laws.tc_ids_rise.Goals as goal

pub returns : goal.returns
returns c = rise_of_rows
