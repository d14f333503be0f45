use Rattle.std.proofs.Common.{◌∙◌, ap}
use Rattle.pst_ndb.specs.Views.{table_of_node}
use Rattle.pst_export.proofs.WalkLemmas.{entered, over_pushed}
use Rattle.pst_export.proofs.walk.Walk.enter.Goals as goal

pub returns-clause-left : goal.returns-clause-left
returns-clause-left c =
    entered c.args.folder c.in_ok-again.again c.args.message c.args.levels c.attachments_by.result c.args.self.now.tasks.items c.push.new.self.items
    c.in_ok-again.ensures.cases c.attachments_by.ensures.holder c.attachments_by.ensures.left c.in_ok-push.ensures.items

pub returns-clause-over : goal.returns-clause-over
returns-clause-over c t over is =
    (over_pushed t c.args.self.now.tasks.items c.push.new.self.items _ c.in_ok-push.ensures.items over (ap table_of_node c.attachments_by.ensures.holder ∙ is), is)
