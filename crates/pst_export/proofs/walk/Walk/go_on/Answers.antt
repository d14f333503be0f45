use Rattle.std.proofs.Common.{◌∙◌, ap, refl}
use Rattle.pst_ndb.specs.Views.{table_of_node}
use Rattle.pst_export.specs.Held.{folder_in}
use Rattle.std.specs.Prelude.{string_bytes}
use Rattle.pst_export.proofs.WalkLemmas.{gone_on, gone_past, over_pushed}
use Rattle.pst_export.proofs.walk.Walk.go_on.Goals as goal

pub returns-in_default-clause-left : goal.returns-in_default-clause-left
returns-in_default-clause-left c = (gone_past c.args.folder c.args.rest c.args.levels c.in_default.ensures.steps.0.0, refl)

pub returns-clause-left : goal.returns-clause-left
returns-clause-left c =
    let called = c.in_ok-inner.ensures ∙ ap (λ f. folder_in f c.nid.result) c.deref.ensures ∙ ap (folder_in (string_bytes c.args.folder)) c.nid.ensures in
    gone_on c.args.folder c.in_ok-inner.inner c.args.rest c.next_by.new.self c.in-Some.attachment c.args.levels c.args.self.now.tasks.items c.push.new.self.items _
    c.in-Some.ensures.steps.0 c.in-Some.ensures.steps.1 c.in-Some.ensures.steps.2 c.in_ok-push.ensures.items called (rw c.deref-2.ensures at c.in_ok-put_embedded.ensures.left)

pub returns-clause-over : goal.returns-clause-over
returns-clause-over c t over is =
    let table = c.in-Some.ensures.steps.2 ∙ is in
    (c.in_ok-put_embedded.ensures.over t (over_pushed t c.args.self.now.tasks.items c.push.new.self.items _ c.in_ok-push.ensures.items over (ap table_of_node c.in-Some.ensures.steps.1 ∙ is)) table, table)
