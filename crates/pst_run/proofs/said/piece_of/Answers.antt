use Rattle.pst_run.proofs.SaidLemmas.{piece_is}
use Rattle.pst_run.proofs.said.piece_of.Goals as goal

pub returns-in-Ok : goal.returns-in-Ok
returns-in-Ok g c = piece_is _ _ _ c.new-piece.ensures c.in-Ok.ensures.writes
