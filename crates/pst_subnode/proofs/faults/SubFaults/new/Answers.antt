use Rattle.pst_subnode.proofs.FaultLemmas.{none_remembered}
use Rattle.pst_subnode.proofs.faults.SubFaults.new.Goals as goal

pub returns : goal.returns
returns c t = none_remembered t _ c.new.ensures.empty c.new-2.ensures.empty c.new-3.ensures.empty c.new-4.ensures.empty
