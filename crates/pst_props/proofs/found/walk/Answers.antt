use Rattle.std.proofs.Common.{rules, Some, ap, sym, get_or, ◌∙◌}
use Rattle.std.specs.Prelude.{fold}
use Rattle.pst_ndb.specs.Views.{table_of_node}
use Rattle.pst_props.specs.Found.{node_of_reached, place_of_reached}
use Rattle.pst_props.specs.Path.{step, step_from}
use Rattle.pst_props.proofs.PathLemmas.{step_nowhere}
use Rattle.pst_props.proofs.found.walk.Goals as goal

pub returns-in-None-clause-place : goal.returns-in-None-clause-place
returns-in-None-clause-place c =
    let t = table_of_node (node_of_reached c.args.from) in
    let steps = c.args.steps.now in
    let at = place_of_reached c.loop-nid.at in
    let i = c.loop-nid.nid-index in
    let here = c.in-None.ensures.place ∙ ap (λ u. step_from u at (get_or steps i 0)) c.loop-nid.invariant.table in
    sym (step_nowhere t steps i 0 at (fold (step t) (Some (place_of_reached c.args.from)) steps) (search rules) here c.loop-nid.invariant.left)
