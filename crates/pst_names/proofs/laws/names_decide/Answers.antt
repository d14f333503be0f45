use Rattle.pst_names.proofs.NameLaws.{name_map_law}
use Rattle.pst_names.proofs.laws.names_decide.Goals as goal

pub returns : goal.returns
returns c = name_map_law
