use Rattle.pst_block.specs.Blocks.{table_of}
use Rattle.pst_datatree.specs.Seen.{IsSeenTrue}
use Rattle.pst_data_tests.proofs.data_trees.sharing.shared_trees_are_expanded_once.Given as goal

abbrev pub invariant-loop-nid : goal.invariant-loop-nid
invariant-loop-nid g l = IsSeenTrue (table_of l.known.blocks) l.known.seen
