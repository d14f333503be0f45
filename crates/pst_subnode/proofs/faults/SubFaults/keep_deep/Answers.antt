use Rattle.std.proofs.Common.{refl}
use Rattle.pst_subnode.proofs.FaultLemmas.{deep_put, same_remembered}
use Rattle.pst_subnode.proofs.faults.SubFaults.keep_deep.Goals as goal

pub returns-in_err-insert : goal.returns-in_err-insert
returns-in_err-insert c t is are = same_remembered t c.args.self.now _ refl c.in_err-insert.ensures.err refl refl are

pub returns : goal.returns
returns c t is are = deep_put t c.args.self.now _ c.args.bid c.args.most c.in_ok-insert.ensures.updates.0 refl refl refl is are
