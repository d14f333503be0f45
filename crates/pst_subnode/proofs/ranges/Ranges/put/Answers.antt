use Rattle.std.proofs.Common.{refl}
use Rattle.pst_subnode.proofs.RangeLemmas.{range_put, range_kept}
use Rattle.pst_subnode.proofs.ranges.Ranges.put.Goals as goal

pub returns-in_err-_old-clause-known : goal.returns-in_err-_old-clause-known
returns-in_err-_old-clause-known c t is are = range_kept t c.args.self.now _ c.in_err-_old.ensures.err are refl

pub returns-clause-known : goal.returns-clause-known
returns-clause-known c t is are = range_put t c.args.self.now _ c.args.bid c.args.range (rw c.key_of.ensures.value at c.in_ok-_old.ensures.updates.0) is are refl
