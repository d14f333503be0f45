use Rattle.std.proofs.Common.{refl}
use Rattle.pst_value.proofs.AskLemmas.{put_fits}
use Rattle.pst_value.proofs.asks.Asks.put.Goals as goal

pub returns-clause-more : goal.returns-clause-more
returns-clause-more c = λ t s met.
    (put_fits t s c.args.self.now (record { values = c.insert.new.self; matrix = c.args.self.now.matrix }) (c.args.nid, c.args.kind) c.in_ok-insert.ensures.keys refl met).0

pub returns-clause-there : goal.returns-clause-there
returns-clause-there c = λ t s met.
    (put_fits t s c.args.self.now (record { values = c.insert.new.self; matrix = c.args.self.now.matrix }) (c.args.nid, c.args.kind) c.in_ok-insert.ensures.keys refl met).1
