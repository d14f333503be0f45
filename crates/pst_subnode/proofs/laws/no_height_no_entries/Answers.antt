use Rattle.pst_subnode.proofs.HeightLaws.{no_height_law}
use Rattle.pst_subnode.proofs.laws.no_height_no_entries.Goals as goal

pub returns : goal.returns
returns c = no_height_law
