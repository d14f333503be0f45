use Rattle.pst_datatree.proofs.KeyLemmas.{same_data_law}
use Rattle.pst_datatree.proofs.laws.data_is_of_key.Goals as goal

pub returns : goal.returns
returns c = same_data_law
