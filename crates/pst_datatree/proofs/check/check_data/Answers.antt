use Rattle.pst_block.specs.Blocks.{table_of}
use Rattle.pst_datatree.proofs.CheckLemmas.{only_memory_refuses}
use Rattle.pst_datatree.proofs.check.check_data.Goals as goal

pub returns-clause-only : goal.returns-clause-only
returns-clause-only c spans has =
    only_memory_refuses (table_of c.args.blocks.now) c.args.bid c.args.nid spans c.checked.result c.checked.ensures.exact has
