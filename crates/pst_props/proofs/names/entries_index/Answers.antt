use Rattle.std.proofs.Common.{ap, ◌∙◌}
use Rattle.std.specs.Prelude.{Some}
use Rattle.pst_intact.specs.View.{table_of_intact, nodes_of_intact}
use Rattle.pst_props.proofs.NameLemmas.{index_none, index_some}
use Rattle.pst_props.proofs.names.entries_index.Goals as goal

pub returns-in_ok-index-in-Some : goal.returns-in_ok-index-in-Some
returns-in_ok-index-in-Some c =
    let i = c.args.intact.now in
    index_some c.lent.result (table_of_intact i) (nodes_of_intact i) _ c.lent.ensures.table (ap Some c.lent.ensures.roots ∙ c.in-Some.ensures.roots) c.in_ok-index-in-Some.ensures

pub returns-in-None : goal.returns-in-None
returns-in-None c =
    let i = c.args.intact.now in
    index_none (table_of_intact i) (nodes_of_intact i) _ c.in-None.ensures.roots
