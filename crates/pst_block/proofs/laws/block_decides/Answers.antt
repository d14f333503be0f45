use Rattle.pst_block.proofs.BlockLaws.{block_law}
use Rattle.pst_block.proofs.laws.block_decides.Goals as goal

pub returns : goal.returns
returns c = block_law
