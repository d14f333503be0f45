-- Indexes of the lists of subnodes and of the data that nodes ask, one after another.
use Rattle.std.proofs.Props.{props}
use Rattle.pst_block.specs.Table.{Table}
use Rattle.pst_ndb.specs.declared.node_indexes.NodeIndexes.{NodeIndexes}
use Rattle.pst_ndb.specs.SpanIndexes.{AreSpanIndexes, AreSpanIndexes-prop}
use Rattle.pst_ndb.specs.SubIndexes.{AreSubIndexes, AreSubIndexes-prop}

-- among these blocks each is one of its list, or of the spans of its data
unfoldable pub AreNodeIndexes : Table → NodeIndexes → Type 0
AreNodeIndexes t i = AreSubIndexes t i.lists × AreSpanIndexes t i.spans

-- which has one proof, so a struct may keep it
pub AreNodeIndexes-prop : (t : Table) (i : NodeIndexes) → IsProp (AreNodeIndexes t i)
unfolding AreNodeIndexes
AreNodeIndexes-prop t i = hlevel (props, AreSubIndexes-prop, AreSpanIndexes-prop)
