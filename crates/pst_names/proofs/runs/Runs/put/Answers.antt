use Rattle.pst_names.proofs.RunLemmas.{kept_true, put_true}
use Rattle.pst_names.proofs.runs.Runs.put.Goals as goal

pub returns-in_err-_before : goal.returns-in_err-_before
returns-in_err-_before c good I is are = kept_true good I c.args.self.now _ c.in_err-_before.ensures.err are

pub returns : goal.returns
returns c good I is are = put_true good I c.args.self.now _ c.args.at c.args.count c.in_ok-_before.ensures.updates.0 is are
