use Rattle.pst_export.proofs.SafeLaws.{safe_law}
use Rattle.pst_export.proofs.laws.names_are_safe.Goals as goal

pub returns : goal.returns
returns c = safe_law
