-- Indexes of the spans of several nodes' data: one more of them, and the one of a node.
use Rattle.std.proofs.Common.{◌≡◌, ℕ, Bool, true, false, cond, Some, None, refl, sym, ◌∙◌}
use Rattle.std.specs.Ordering.{nat_cmp, eq_by_cmp}
use Rattle.std.specs.BTreeMap.{get, IsEmpty, IsUnchanged}
use Rattle.std.proofs.lemmas.Map.Lookups.{exact_unsigned}
use Rattle.std.proofs.lemmas.Map.Views.{tells_apart}
use Rattle.pst_block.specs.Table.{Table}
use Rattle.pst_ndb.specs.declared.node.Node.{Node}
use Rattle.pst_ndb.specs.declared.span_index.SpanIndex.{SpanIndex}
use Rattle.pst_ndb.specs.declared.span_indexes.SpanIndexes.{SpanIndexes}
use Rattle.pst_ndb.specs.SpanIndex.{IsSpanIndexOf}
use Rattle.pst_ndb.specs.SpanIndexes.{AreSpanIndexes}
use Rattle.pst_ndb.specs.Views.{table_of_node, data_bid_of, IsSpanIndexedBy}

pub none_kept : (t : Table) (i : SpanIndexes) → IsEmpty i.indexes → AreSpanIndexes t i
unfolding AreSpanIndexes
none_kept t i empty q y known = absurd (let bad : None ≡ Some y = (rw empty at known) in cc)

-- one more is kept
pub index_put : (t : Table) (old new : SpanIndexes) (bid : ℕ) (index : SpanIndex)
    → ((q : ℕ) → get nat_cmp new.indexes q ≡ cond (eq_by_cmp nat_cmp bid q) (Some index) (get nat_cmp old.indexes q)) → IsSpanIndexOf index t bid → AreSpanIndexes t old → AreSpanIndexes t new
unfolding AreSpanIndexes
index_put t old new bid index put is are q y known = by_test (eq_by_cmp nat_cmp bid q) refl (sym (put q) ∙ known)
  where
    by_test : (v : Bool) → eq_by_cmp nat_cmp bid q ≡ v → cond v (Some index) (get nat_cmp old.indexes q) ≡ Some y → IsSpanIndexOf y t q
    by_test true here found =
        let same : index ≡ y = cc in
        let place : bid ≡ q = tells_apart exact_unsigned bid q here in
        rw (← same, ← place) is
    by_test false here found = are q y found

-- or none is
pub indexes_same : (t : Table) (old new : SpanIndexes) → IsUnchanged old.indexes new.indexes → AreSpanIndexes t old → AreSpanIndexes t new
unfolding AreSpanIndexes
indexes_same t old new same are q y known = are q y (rw same at known)

-- the one that a node is lent
pub index_of_data : (node : Node) (i : SpanIndexes) (index : SpanIndex) → AreSpanIndexes (table_of_node node) i → get nat_cmp i.indexes (data_bid_of node) ≡ Some index → IsSpanIndexedBy node index
unfolding AreSpanIndexes
index_of_data node i index are found = are (data_bid_of node) index found
