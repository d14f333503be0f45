use Rattle.pst_store.proofs.StoreLaws.{store_law}
use Rattle.pst_store.proofs.laws.store_decides.Goals as goal

pub returns : goal.returns
returns c = store_law
