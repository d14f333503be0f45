use Rattle.pst_export.proofs.ValueLaws.{bodies_law, content_law}
use Rattle.pst_export.proofs.laws.values_are_whole.Goals as goal

pub returns-clause-bodies : goal.returns-clause-bodies
returns-clause-bodies c = bodies_law

pub returns-clause-content : goal.returns-clause-content
returns-clause-content c = content_law
