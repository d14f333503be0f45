use Rattle.pst_msg.proofs.NamesLaws.{names_law}
use Rattle.pst_msg.proofs.laws.named_are_contexts.Goals as goal

pub returns : goal.returns
returns c = names_law
