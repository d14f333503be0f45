use Rattle.pst_remembered.proofs.FaultsLemmas.{one_kept, same_kept}
use Rattle.pst_remembered.proofs.faults.Faults.remember.Goals as goal

pub returns-in_err-insert : goal.returns-in_err-insert
returns-in_err-insert c retell parts is are = same_kept retell parts c.args.self.now (record { faults = c.insert.new.self }) c.in_err-insert.ensures.err are

pub returns-in_ok-insert : goal.returns-in_ok-insert
returns-in_ok-insert c retell parts is are =
    one_kept retell parts c.args.self.now (record { faults = c.insert.new.self }) c.args.part c.args.fault c.in_ok-insert.ensures.updates.0 (is (c.is_worth.ensures c.if-is_worth.true)) are
