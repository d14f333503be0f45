use Rattle.pst_ndb.proofs.DatabaseLaws.{database_law}
use Rattle.pst_ndb.proofs.laws.database_decides.Goals as goal

pub returns : goal.returns
returns c = database_law
