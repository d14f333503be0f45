use Rattle.pst_btree.specs.Trees.{node_entries}
use Rattle.pst_block.specs.Blocks.{table_of}
use Rattle.pst_ndb.proofs.CountLemmas.{all_expanded}
use Rattle.pst_ndb.proofs.check_nodes.check_nodes.Goals as goal

pub check_each-requires : goal.check_each-requires
check_each-requires c = c.new-known.ensures.known (table_of c.args.blocks.now)

pub returns-clause-expansions : goal.returns-clause-expansions
returns-clause-expansions c =
    let each = c.in_ok-check_each.ensures in
    all_expanded (table_of c.args.blocks.now) (node_entries c.args.tree.now) c.new-known.result c.check_each.new.known c.expansions.result c.new-known.ensures.empty each.known each.adds each.there (each.counts c.new-known.ensures.counts) c.expansions.ensures.trees c.expansions.ensures.lists c.expansions.ensures.value
