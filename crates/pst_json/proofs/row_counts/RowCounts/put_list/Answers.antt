use Rattle.std.proofs.Common.{refl}
use Rattle.pst_json.proofs.RowCountLemmas.{list_kept, list_put}
use Rattle.pst_json.proofs.row_counts.RowCounts.put_list.Goals as goal

pub returns-in_err-_before : goal.returns-in_err-_before
returns-in_err-_before c t is are = list_kept t c.args.self.now _ refl c.in_err-_before.ensures.err are

pub returns : goal.returns
returns c t is are = list_put t c.args.self.now _ c.args.list c.args.held refl c.in_ok-_before.ensures.updates.0 is are
