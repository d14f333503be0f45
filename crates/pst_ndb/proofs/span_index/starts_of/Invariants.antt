use Rattle.pst_block.specs.Blocks.{table_of}
use Rattle.pst_ndb.proofs.SpanLemmas.{AreStartsBelow}
use Rattle.pst_ndb.proofs.span_index.starts_of.Given as goal

abbrev pub invariant-loop-part : goal.invariant-loop-part
invariant-loop-part l = AreStartsBelow l.starts.items (table_of l.blocks) l.bid l.part l.left
