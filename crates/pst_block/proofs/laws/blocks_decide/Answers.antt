use Rattle.pst_block.proofs.WalkLaws.{blocks_law}
use Rattle.pst_block.proofs.laws.blocks_decide.Goals as goal

pub returns : goal.returns
returns c = blocks_law
