use Rattle.pst_damage.proofs.DamageLaws.{decoded_damage_law}
use Rattle.pst_damage.proofs.laws.decoded_damage_decides.Goals as goal

pub returns : goal.returns
returns c = decoded_damage_law
