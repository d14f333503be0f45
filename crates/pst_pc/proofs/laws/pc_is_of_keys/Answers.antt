use Rattle.pst_pc.proofs.AlikeLaws.{alike_pc_law}
use Rattle.pst_pc.proofs.laws.pc_is_of_keys.Goals as goal

pub returns : goal.returns
returns c = alike_pc_law
