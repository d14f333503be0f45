use Rattle.pst_damage.proofs.DamageLaws.{first_damage_law}
use Rattle.pst_damage.proofs.laws.first_damage_decides.Goals as goal

pub returns : goal.returns
returns c = first_damage_law
