use Rattle.pst_pc.proofs.PcLaws.{rise_of_props}
use Rattle.pst_pc.proofs.laws.pc_keys_rise.Goals as goal

pub returns : goal.returns
returns c = rise_of_props
