use Rattle.pst_json.proofs.RowIdsLemmas.{ids_kept, ids_put}
use Rattle.pst_json.proofs.row_ids.RowIds.insert.Goals as goal

pub returns-in_err-_before : goal.returns-in_err-_before
returns-in_err-_before c asked t is are = ids_kept asked t c.args.self.now _ c.in_err-_before.ensures.err are

pub returns : goal.returns
returns c asked t is are = ids_put asked t c.args.self.now _ c.args.block c.args.nids c.in_ok-_before.ensures.updates.0 is are
