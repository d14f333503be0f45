use Rattle.pst_value.proofs.ValueLaws.{value_law}
use Rattle.pst_value.proofs.laws.value_decides.Goals as goal

pub returns : goal.returns
returns c = value_law
