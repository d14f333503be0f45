-- Indexes of the spans of several nodes' data: of which data each is.
use Rattle.std.proofs.Props.{props}
use Rattle.std.specs.Prelude.{◌≡◌, ℕ, Some}
use Rattle.std.specs.BTreeMap.{get}
use Rattle.std.specs.Ordering.{nat_cmp}
use Rattle.pst_block.specs.Table.{Table}
use Rattle.pst_ndb.specs.declared.span_index.SpanIndex.{SpanIndex}
use Rattle.pst_ndb.specs.declared.span_indexes.SpanIndexes.{SpanIndexes}
use Rattle.pst_ndb.specs.SpanIndex.{IsSpanIndexOf, IsSpanIndexOf-prop}

-- among these blocks each is one of the spans of the data that has the identifier under which it is kept
unfoldable pub AreSpanIndexes : Table → SpanIndexes → Type 0
AreSpanIndexes t i = (bid : ℕ) (index : SpanIndex) → get nat_cmp i.indexes bid ≡ Some index → IsSpanIndexOf index t bid

-- which has one proof, so a struct may keep it
pub AreSpanIndexes-prop : (t : Table) (i : SpanIndexes) → IsProp (AreSpanIndexes t i)
unfolding AreSpanIndexes
AreSpanIndexes-prop t i = hlevel (props, IsSpanIndexOf-prop)
