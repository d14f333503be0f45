use Rattle.pst_ndb.specs.Views.{table_of_node, roots_of}
use Rattle.pst_pc.specs.View.{node_of_pc}
use Rattle.pst_names.proofs.NameLaws.{refused_for_memory}
use Rattle.pst_names.proofs.check.check_names.Goals as goal

pub returns-clause-only : goal.returns-clause-only
returns-clause-only c is =
    let node = node_of_pc c.args.pc.now in
    refused_for_memory (table_of_node node) (roots_of node) c.check_all.result c.check_all.ensures.exact is
