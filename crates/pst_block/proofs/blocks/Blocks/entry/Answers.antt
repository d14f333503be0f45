use Rattle.pst_block.specs.Blocks.{table_of}
use Rattle.pst_block.proofs.TableLemmas.{found_good, found_within, found_same, entry_is}
use Rattle.pst_block.proofs.blocks.Blocks.entry.Goals as goal

pub returns-clause-within : goal.returns-clause-within
returns-clause-within c =
    let blocks = c.args.self.now in
    found_within blocks.end _ c.find.result blocks.inside (found_good blocks.end _ _ _ c.find.result blocks.good c.find.ensures.entry)

pub returns-clause-same : goal.returns-clause-same
returns-clause-same c =
    let blocks = c.args.self.now in
    found_same (table_of blocks) blocks.end c.args.bid c.find.result blocks.good (entry_is (table_of blocks) c.args.bid c.find.result c.find.ensures.entry)
