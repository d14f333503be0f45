use Rattle.pst_ndb.proofs.SubIndexesLemmas.{one_made, same_made}
use Rattle.pst_ndb.proofs.sub_indexes.SubIndexes.put.Goals as goal

pub returns-in_err-_before : goal.returns-in_err-_before
returns-in_err-_before c t is are = same_made t c.args.self.now _ c.in_err-_before.ensures.err are

pub returns : goal.returns
returns c t is are = one_made t c.args.self.now _ c.args.list c.args.index c.in_ok-_before.ensures.updates.0 is are
