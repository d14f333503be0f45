use Rattle.std.proofs.Common.{rules, ◌∙◌, ap}
use Rattle.std.specs.Prelude.{option_map}
use Rattle.pst_ndb.specs.Views.{table_of_node, roots_of}
use Rattle.pst_verify.specs.pst_msg.Shown.{object_shown}
use Rattle.pst_verify.specs.pst_msg.Values.{embedded_of}
use Rattle.pst_verify.specs.pst_msg.View.{node_of_attachment}
use Rattle.pst_export.specs.Held.{folder_in}
use Rattle.pst_export.specs.Walk.{walk_left}
use Rattle.pst_export.proofs.WalkLemmas.{embedded_put, none_nested, over_pushed}
use Rattle.pst_export.proofs.walk.Walk.put_embedded.Goals as goal

pub returns-then-levels-eq0-clause-left : goal.returns-then-levels-eq0-clause-left
returns-then-levels-eq0-clause-left c =
    let node = node_of_attachment c.args.attachment in
    let t = table_of_node node in
    none_nested t c.args.levels c.args.folder.now (option_map (object_shown t (roots_of node)) (embedded_of t (roots_of node))) (walk_left c.args.self.now) (search rules)

pub returns-in_ok-push-clause-left : goal.returns-in_ok-push-clause-left
returns-in_ok-push-clause-left c =
    let node = node_of_attachment c.args.attachment in
    let t = table_of_node node in
    embedded_put t c.args.levels c.args.folder.now (option_map (object_shown t (roots_of node)) (embedded_of t (roots_of node))) c.in_ok-inner.inner c.in-Some.message
    c.args.self.now.tasks.items c.push.new.self.items c.in-Some.ensures.shown c.in-Some.ensures.table (search rules)
    (c.in_ok-inner.ensures ∙ ap (folder_in c.args.folder.now) c.nid.ensures) c.in_ok-push.ensures.items

pub returns-in_ok-push-clause-over : goal.returns-in_ok-push-clause-over
returns-in_ok-push-clause-over c t over is =
    over_pushed t c.args.self.now.tasks.items c.push.new.self.items _ c.in_ok-push.ensures.items over (c.in-Some.ensures.table ∙ is)
