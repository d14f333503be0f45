use Rattle.pst_subnode.proofs.SubLemmas.{sub_fault_more}
use Rattle.pst_subnode.proofs.laws.deeper_has_none.Goals as goal

pub returns : goal.returns
returns c = sub_fault_more
