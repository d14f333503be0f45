use Rattle.pst_ndb.proofs.CountLemmas.{count_law}
use Rattle.pst_ndb.proofs.laws.counts_agree.Goals as goal

pub returns : goal.returns
returns c = count_law
