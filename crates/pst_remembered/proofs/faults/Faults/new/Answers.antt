use Rattle.pst_remembered.proofs.FaultsLemmas.{none_kept}
use Rattle.pst_remembered.proofs.faults.Faults.new.Goals as goal

pub returns : goal.returns
returns c retell parts = none_kept retell parts _ c.new.ensures.empty
