use Rattle.pst_value.proofs.ValueLaws.{place_law}
use Rattle.pst_value.proofs.laws.value_is_of_no_place.Goals as goal

pub returns : goal.returns
returns c = place_law
