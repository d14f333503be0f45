use Rattle.pst_bytes.specs.Image.{bytes_of}
use Rattle.pst_ndb.proofs.SpaceLemmas.{block_tree_is, node_tree_is, block_list_is, node_list_is, trees_claim, pages_are}
use Rattle.pst_ndb.proofs.UnitLemmas.{pages_few}
use Rattle.pst_ndb.proofs.trees.walk_trees.Goals as goal

pub returns-clause-list : goal.returns-clause-list
returns-clause-list c = block_list_is c.in_ok-blocks.blocks c.args.image c.args.header.now _ _ c.in_ok-blocks.ensures.walk.walked

pub returns-clause-nodes : goal.returns-clause-nodes
returns-clause-nodes c = node_list_is c.in_ok-nodes.nodes c.args.image c.args.header.now _ _ c.in_ok-nodes.ensures.walk.walked

pub returns-clause-claims : goal.returns-clause-claims
returns-clause-claims c =
    trees_claim (bytes_of c.args.image) c.args.header.now _ _ _ _ _ c.in_ok-blocks.ensures.walk.walked.claims c.in_ok-nodes.ensures.walk.walked.claims
    (block_tree_is c.in_ok-blocks.blocks c.args.image c.args.header.now _ _ c.in_ok-blocks.ensures.walk.walked)
    (node_tree_is c.in_ok-nodes.nodes c.args.image c.args.header.now _ _ c.in_ok-nodes.ensures.walk.walked)

pub page_total-pages-requires : goal.page_total-pages-requires
page_total-pages-requires c =
    let one = c.in_ok-blocks.ensures.walk.walked in
    let two = c.in_ok-nodes.ensures.walk.walked in
    pages_few (bytes_of c.args.image) c.args.header.now _ _ _ _ _ _ _ c.requires.units one.tree two.tree one.claims two.claims

pub returns-clause-pages : goal.returns-clause-pages
returns-clause-pages c =
    pages_are (bytes_of c.args.image) c.args.header.now _ _ _ c.page_total-pages.ensures
    (block_tree_is c.in_ok-blocks.blocks c.args.image c.args.header.now _ _ c.in_ok-blocks.ensures.walk.walked)
    (node_tree_is c.in_ok-nodes.nodes c.args.image c.args.header.now _ _ c.in_ok-nodes.ensures.walk.walked)
