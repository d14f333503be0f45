use Rattle.pst_damage.proofs.DamageLaws.{decoded_nothing_law}
use Rattle.pst_damage.proofs.laws.decoded_nothing_decides.Goals as goal

pub returns : goal.returns
returns c = decoded_nothing_law
