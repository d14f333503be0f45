use Rattle.pst_block.specs.Blocks.{table_of, blocks_end}
use Rattle.pst_block.proofs.TableLemmas.{all_within}
use Rattle.pst_block.proofs.blocks.Blocks.lie_within.Goals as goal

pub returns : goal.returns
returns c = all_within (table_of c.args.self.now) (blocks_end c.args.self.now) c.args.self.now.inside c.args.self.now.good
