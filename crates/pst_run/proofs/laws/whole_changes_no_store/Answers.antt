use Rattle.pst_run.proofs.WholeLemmas.{whole_law}
use Rattle.pst_run.proofs.laws.whole_changes_no_store.Goals as goal

pub returns : goal.returns
returns c = whole_law
