use Rattle.std.proofs.Common.{refl}
use Rattle.std.proofs.lemmas.Result.{err_from_is_err_and}
use Rattle.pst_page.specs.declared.kind.PageKind.TheVariants.{Nbt}
use Rattle.pst_btree.specs.Trees.{node_view}
use Rattle.pst_btree.specs.View.{tree_parts}
use Rattle.pst_btree.proofs.WalkedLemmas.{refused, handed_on}
use Rattle.pst_btree.proofs.walks.walk_node_tree.Goals as goal

pub returns-in_err-view-clause-walk : goal.returns-in_err-view-clause-walk
returns-in_err-view-clause-walk c =
    let p = err_from_is_err_and c.from_residual.result c.from_residual.ensures.1 in
    rw (p.1, p.2) (refused Nbt c.args.image c.args.header.now c.args.claims.now c.walk.new.claims node_view c.in_err-view.field-0.0 c.in_err-view.ensures.exact c.in_err-view.ensures.some)

pub returns-clause-walk : goal.returns-clause-walk
returns-clause-walk c =
    let view = c.in_ok-view.view in
    let known = c.in_ok-view.ensures in
    handed_on Nbt c.args.image c.args.header.now c.args.claims.now c.walk.new.claims node_view _ (tree_parts view) view.pages refl view.counted known.exact known.walked known.some
