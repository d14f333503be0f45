use Rattle.pst_ask.proofs.CommandLaws.{words_law}
use Rattle.pst_ask.proofs.laws.commands_are_asked.Goals as goal

pub returns : goal.returns
returns c = words_law
