use Rattle.std.proofs.Common.{refl}
use Rattle.pst_subnode.proofs.FaultLemmas.{data_put, same_remembered}
use Rattle.pst_subnode.proofs.faults.SubFaults.keep_content.Goals as goal

pub returns-in_err-insert : goal.returns-in_err-insert
returns-in_err-insert c t is are = same_remembered t c.args.self.now _ refl refl c.in_err-insert.ensures.err refl are

pub returns : goal.returns
returns c t is are = data_put t c.args.self.now _ c.args.bid c.args.fault c.in_ok-insert.ensures.updates.0 refl refl refl is are
