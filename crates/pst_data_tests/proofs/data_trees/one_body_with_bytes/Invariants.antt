use Rattle.pst_block.specs.Blocks.{table_of}
use Rattle.pst_datatree.specs.Seen.{IsSeenTrue}
use Rattle.pst_data_tests.proofs.data_trees.one_body_with_bytes.Given as goal

abbrev pub invariant-loop-bid : goal.invariant-loop-bid
invariant-loop-bid g l = IsSeenTrue (table_of l.known.blocks) l.known.seen
