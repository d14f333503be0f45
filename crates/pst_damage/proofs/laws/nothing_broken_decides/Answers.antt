use Rattle.pst_damage.proofs.DamageLaws.{nothing_broken_law}
use Rattle.pst_damage.proofs.laws.nothing_broken_decides.Goals as goal

pub returns : goal.returns
returns c = nothing_broken_law
