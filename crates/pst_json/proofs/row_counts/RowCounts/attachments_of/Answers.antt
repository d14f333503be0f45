use Rattle.std.proofs.Common.{rules}
use Rattle.pst_verify.specs.pst_msg.Shown.{attachment_rows}
use Rattle.pst_json.proofs.row_counts.RowCounts.attachments_of.Goals as goal

pub returns-in-Some-clause-count : goal.returns-in-Some-clause-count
unfolding attachment_rows
returns-in-Some-clause-count c = search rules

pub returns-in-None-clause-count : goal.returns-in-None-clause-count
unfolding attachment_rows
returns-in-None-clause-count c = search rules
