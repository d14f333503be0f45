use Rattle.pst_remembered.proofs.RowCountLemmas.{table_kept, table_put}
use Rattle.pst_remembered.proofs.row_counts.RowCounts.insert.Goals as goal

pub returns-in_err-_before : goal.returns-in_err-_before
returns-in_err-_before c t is are = table_kept t c.args.self.now _ c.in_err-_before.ensures.err are

pub returns : goal.returns
returns c t is are = table_put t c.args.self.now _ c.args.block c.args.count c.in_ok-_before.ensures.updates.0 is are
