use Rattle.pst_subnode.proofs.TreeLaws.{entry_law}
use Rattle.pst_subnode.proofs.laws.entries_have_none.Goals as goal

pub returns : goal.returns
returns c = entry_law
