use Rattle.pst_block.specs.Blocks.{table_of}
use Rattle.pst_datatree.specs.Seen as seen
use Rattle.pst_subnode.specs.Heights as heights
use Rattle.pst_data_tests.proofs.subnodes.numbers.are_told.Given as goal

abbrev pub invariant-loop-top : goal.invariant-loop-top
invariant-loop-top g l = seen.IsSeenTrue (table_of l.known.blocks) l.known.seen × heights.AreHeightsTrue (table_of l.known.blocks) l.known.heights
