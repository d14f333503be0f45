use Rattle.pst_run.proofs.SaidLemmas.{line_is}
use Rattle.pst_run.proofs.said.line_of.Goals as goal

pub returns-in-Ok : goal.returns-in-Ok
returns-in-Ok g c = line_is _ _ _ c.new-line.ensures c.in-Ok.ensures.writes
