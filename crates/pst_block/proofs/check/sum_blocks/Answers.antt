use Rattle.pst_bytes.specs.Image.{bytes_of}
use Rattle.pst_header.specs.Header.{end_of}
use Rattle.pst_btree.specs.Trees.{block_entries}
use Rattle.pst_block.proofs.WalkLaws.{walked_good}
use Rattle.pst_block.proofs.check.sum_blocks.Goals as goal

pub returns-clause-claims : goal.returns-clause-claims
returns-clause-claims c =
    (walked_good (end_of c.args.header.now) (bytes_of c.image-image.result) c.args.claims.now c.check_each.new.claims (block_entries c.args.tree) (rw c.requires.entries at c.in_ok-sums.ensures.ends)).1
