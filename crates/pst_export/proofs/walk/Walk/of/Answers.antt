use Rattle.std.proofs.Common.{◌∙◌, ap}
use Rattle.pst_export.specs.Held.{folder_in}
use Rattle.pst_export.specs.Walk.{tasks_left}
use Rattle.pst_export.proofs.WalkLemmas.{walk_begun}
use Rattle.pst_export.proofs.walk.Walk.of.Goals as goal

pub returns-clause-left : goal.returns-clause-left
returns-clause-left c =
    ap tasks_left c.in_ok-tasks.ensures.items
    ∙ walk_begun c.in_ok-folder.folder c.args.message c.args.name.now (c.in_ok-folder.ensures ∙ ap (folder_in c.args.name.now) c.nid.ensures) c.requires
