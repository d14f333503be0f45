use Rattle.pst_pc.proofs.LookUpLaws.{look_ups_law}
use Rattle.pst_pc.proofs.laws.pc_look_ups.Goals as goal

pub returns : goal.returns
returns c = look_ups_law
