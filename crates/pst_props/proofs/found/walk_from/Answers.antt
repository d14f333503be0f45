use Rattle.std.proofs.Common.{ap, sym, ◌∙◌}
use Rattle.std.specs.Prelude.{Some, fold}
use Rattle.pst_intact.specs.View.{table_of_intact}
use Rattle.pst_props.specs.Found.{place_of_reached}
use Rattle.pst_props.specs.Path.{step}
use Rattle.pst_props.proofs.PathLemmas.{nowhere}
use Rattle.pst_props.proofs.found.walk_from.Goals as goal

pub returns-in-None-clause-place : goal.returns-in-None-clause-place
returns-in-None-clause-place c =
    let t = table_of_intact c.args.intact.now in
    let steps = c.args.steps.now in
    sym (ap (λ p. fold (step t) p steps) (sym c.in-None.ensures.place) ∙ nowhere t steps)

pub returns-in-Some-clause-place : goal.returns-in-Some-clause-place
returns-in-Some-clause-place c =
    let t = table_of_intact c.args.intact.now in
    let steps = c.args.steps.now in
    c.walk.ensures.place
    ∙ ap (λ u. fold (step u) (Some (place_of_reached c.in-Some.reached)) steps) c.in-Some.ensures.table
    ∙ ap (λ p. fold (step t) p steps) c.in-Some.ensures.place
