use Rattle.pst_ndb.proofs.SpanIndexesLemmas.{index_put, indexes_same}
use Rattle.pst_ndb.proofs.span_indexes.SpanIndexes.put.Goals as goal

pub returns-in_err-_before : goal.returns-in_err-_before
returns-in_err-_before c t is are = indexes_same t c.args.self.now _ c.in_err-_before.ensures.err are

pub returns : goal.returns
returns c t is are = index_put t c.args.self.now _ c.args.bid c.args.index c.in_ok-_before.ensures.updates.0 is are
