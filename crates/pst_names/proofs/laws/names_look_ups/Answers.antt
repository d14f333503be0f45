use Rattle.pst_names.proofs.NameLaws.{look_ups_law}
use Rattle.pst_names.proofs.laws.names_look_ups.Goals as goal

pub returns : goal.returns
returns c = look_ups_law
