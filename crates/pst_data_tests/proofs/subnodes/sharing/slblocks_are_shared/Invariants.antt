use Rattle.pst_block.specs.Blocks.{table_of}
use Rattle.pst_datatree.specs.Seen as seen
use Rattle.pst_subnode.specs.Heights as heights
use Rattle.pst_data_tests.proofs.subnodes.sharing.slblocks_are_shared.Given as goal

abbrev pub invariant-loop-bid : goal.invariant-loop-bid
invariant-loop-bid g l = seen.IsSeenTrue (table_of l.known.blocks) l.known.seen × heights.AreHeightsTrue (table_of l.known.blocks) l.known.heights
