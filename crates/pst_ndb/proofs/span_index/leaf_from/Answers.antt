use Rattle.pst_block.specs.Blocks.{table_of}
use Rattle.pst_ndb.proofs.SpanLemmas.{starts_rise}
use Rattle.pst_ndb.proofs.span_index.leaf_from.Goals as goal

pub place_of-place-requires : goal.place_of-place-requires
place_of-place-requires c = starts_rise (table_of c.args.blocks.now) c.args.bid c.args.starts.now c.requires.starts
