use Rattle.pst_block.proofs.BlockLaws.{good_if, block_only}
use Rattle.pst_block.proofs.read.read_block.Goals as goal

pub returns-clause-found : goal.returns-clause-found
returns-clause-found c = good_if _ _ _ _ c.checked.ensures.exact

pub returns-clause-only : goal.returns-clause-only
returns-clause-only c = block_only _ _ _ _ c.checked.ensures.exact
