use Rattle.pst_value.proofs.AlikeLaws.{alike_value_law}
use Rattle.pst_value.proofs.laws.values_are_of_keys.Goals as goal

pub returns : goal.returns
returns c = alike_value_law
