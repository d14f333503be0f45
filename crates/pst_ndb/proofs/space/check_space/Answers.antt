use Rattle.std.proofs.Common.{ap, sym, ◌∙◌, length, inr}
use Rattle.std.proofs.lemmas.Result.{err_from_is_err_and}
use Rattle.pst_bytes.specs.Image.{bytes_of}
use Rattle.pst_header.specs.Header.{end_of}
use Rattle.pst_btree.specs.Trees.{block_entries}
use Rattle.pst_block.specs.Table.{table_with}
use Rattle.pst_block.specs.Walk.{blocks_walk}
use Rattle.pst_ndb.proofs.SpaceLemmas.{space_ends, space_is}
use Rattle.pst_ndb.proofs.space.check_space.Goals as goal

pub returns-in_err-blocks-clause-exact : goal.returns-in_err-blocks-clause-exact
returns-in_err-blocks-clause-exact c =
    let p = err_from_is_err_and c.from_residual-in_err-blocks.result c.from_residual-in_err-blocks.ensures.1 in
    rw (p.1, p.2)
    (inr (space_ends (bytes_of c.args.image) c.args.header.now _ _ _ _ c.in_ok-trees.ensures.exact c.in_ok-trees.ensures.list (ap (λ f. blocks_walk (end_of c.args.header.now) (bytes_of f) c.walk_trees.new.claims (block_entries c.in_ok-trees.trees.blocks)) (sym c.in_ok-trees.ensures.file) ∙ c.in_err-blocks.ensures.exact)))

pub returns-clause-exact : goal.returns-clause-exact
returns-clause-exact c =
    space_ends (bytes_of c.args.image) c.args.header.now _ _ _ _ c.in_ok-trees.ensures.exact c.in_ok-trees.ensures.list (ap (λ f. blocks_walk (end_of c.args.header.now) (bytes_of f) c.walk_trees.new.claims (block_entries c.in_ok-trees.trees.blocks)) (sym c.in_ok-trees.ensures.file) ∙ c.in_ok-blocks.ensures.exact)

pub returns-clause-table : goal.returns-clause-table
returns-clause-table c =
    c.in_ok-blocks.ensures.table ∙ ap (λ f. table_with (bytes_of f) (block_entries c.in_ok-trees.trees.blocks)) c.in_ok-trees.ensures.file ∙ ap (table_with (bytes_of c.args.image)) c.in_ok-trees.ensures.list

pub returns-clause-claims : goal.returns-clause-claims
returns-clause-claims c =
    space_is (bytes_of c.args.image) c.args.header.now _ _ _ _ c.in_ok-trees.ensures.claims c.in_ok-blocks.ensures.claims c.in_ok-trees.ensures.list

pub returns-clause-sums : goal.returns-clause-sums
returns-clause-sums c = c.in_ok-blocks.ensures.sums ∙ ap length c.in_ok-trees.ensures.list

pub sum_blocks-requires-clause-head : goal.sum_blocks-requires-clause-head
sum_blocks-requires-clause-head c = rw c.in_ok-trees.ensures.file c.requires.head

pub returns-clause-image : goal.returns-clause-image
returns-clause-image c = c.in_ok-blocks.ensures.image ∙ c.in_ok-trees.ensures.file
