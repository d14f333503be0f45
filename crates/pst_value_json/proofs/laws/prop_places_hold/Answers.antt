use Rattle.pst_value_json.proofs.PlaceLemmas.{prop_places}
use Rattle.pst_value_json.proofs.laws.prop_places_hold.Goals as goal

pub returns : goal.returns
returns c = prop_places
