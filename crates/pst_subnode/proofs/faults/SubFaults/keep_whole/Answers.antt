use Rattle.std.proofs.Common.{refl}
use Rattle.pst_subnode.proofs.FaultLemmas.{whole_put}
use Rattle.pst_subnode.proofs.faults.SubFaults.keep_whole.Goals as goal

pub returns : goal.returns
returns c t is are = whole_put t c.args.self.now _ c.args.bid c.in_ok-insert.ensures.updates.0 refl refl refl is are
