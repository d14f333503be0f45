use Rattle.pst_datatree.proofs.RelationLemmas.{data_law}
use Rattle.pst_datatree.proofs.laws.data_decides.Goals as goal

pub returns : goal.returns
returns c = data_law
