use Rattle.std.proofs.Common.{ap, ◌∙◌}
use Rattle.std.specs.Prelude.{Some}
use Rattle.pst_ndb.specs.Views.{table_of_node, roots_of}
use Rattle.pst_intact.specs.View.{table_of_intact, nodes_of_intact}
use Rattle.pst_props.proofs.NameLemmas.{told_none, told_some, index_lent}
use Rattle.pst_props.specs.NamesIndex.{IsNamesIndex}
use Rattle.pst_props.proofs.names.names_in.Goals as goal

pub lent-requires-clause-known : goal.lent-requires-clause-known
unfolding IsNamesIndex
lent-requires-clause-known c = c.requires.1

pub indexed-requires : goal.indexed-requires
unfolding IsNamesIndex
indexed-requires c =
    let i = c.args.intact.now in
    index_lent c.lent.result (table_of_intact i) (nodes_of_intact i) c.args.index.now.names c.lent.ensures.table (ap Some c.lent.ensures.roots ∙ c.in-Some.ensures.roots) c.requires.0

pub returns-in-Some : goal.returns-in-Some
returns-in-Some c =
    let i = c.args.intact.now in
    told_some c.indexed.result (table_of_intact i) (nodes_of_intact i) (ap table_of_node c.indexed.ensures ∙ c.lent.ensures.table) (ap (λ n. Some (roots_of n)) c.indexed.ensures ∙ (ap Some c.lent.ensures.roots ∙ c.in-Some.ensures.roots))

pub returns-in-None : goal.returns-in-None
returns-in-None c =
    let i = c.args.intact.now in
    told_none (table_of_intact i) (nodes_of_intact i) c.in-None.ensures.roots
