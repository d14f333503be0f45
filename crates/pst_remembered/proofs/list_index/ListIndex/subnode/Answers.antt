use Rattle.std.proofs.Common.{Some, ap, ◌∙◌}
use Rattle.pst_ndb.specs.Views.{table_of_node, roots_of}
use Rattle.pst_ndb.proofs.SubIndexesLemmas.{found_lent}
use Rattle.pst_remembered.proofs.list_index.ListIndex.subnode.Goals as goal

pub returns-in-Some-clause-roots : goal.returns-in-Some-clause-roots
returns-in-Some-clause-roots c =
    ap Some c.child.ensures.roots
    ∙ found_lent (table_of_node c.args.node) (table_of_node c.lend.result) (roots_of c.args.node) (roots_of c.lend.result) c.args.nid (Some c.in-Some.entry) c.lend.ensures.table c.lend.ensures.roots c.in-Some.ensures.value
