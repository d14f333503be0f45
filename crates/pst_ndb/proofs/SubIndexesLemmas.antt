-- Indexes of lists of subnodes: one more of them, and the one of a node.
use Rattle.std.proofs.Common.{◌≡◌, ℕ, Bool, true, false, cond, Option, Some, None, refl, sym, ap, ◌∙◌}
use Rattle.std.specs.Prelude.{option_map}
use Rattle.std.specs.Ordering.{nat_cmp, eq_by_cmp}
use Rattle.std.specs.BTreeMap.{get, IsEmpty, IsUnchanged}
use Rattle.std.proofs.lemmas.Map.Lookups.{exact_unsigned}
use Rattle.std.proofs.lemmas.Map.Views.{tells_apart}
use Rattle.pst_block.specs.Block.{bid_key}
use Rattle.pst_block.specs.Table.{Table}
use Rattle.pst_btree.specs.Entries.{first_with}
use Rattle.pst_subnode.specs.declared.index.SubIndex.{SubIndex}
use Rattle.pst_subnode.specs.declared.sub.Sub.{Sub}
use Rattle.pst_subnode.specs.List.{sub_nid, subs_of}
use Rattle.pst_subnode.proofs.IndexLemmas.{index_of_key}
use Rattle.pst_ndb.specs.declared.node.Node.{Node}
use Rattle.pst_ndb.specs.Roots.{Roots, sub_roots, subnode_of}
use Rattle.pst_ndb.specs.Views.{table_of_node, sub_bid_of, IsIndexedBy}
use Rattle.pst_ndb.specs.declared.sub_indexes.SubIndexes.{SubIndexes}
use Rattle.pst_ndb.specs.SubIndexes.{IsIndexUnder, AreSubIndexes}

pub none_made : (t : Table) (i : SubIndexes) → IsEmpty i.indexes → AreSubIndexes t i
unfolding AreSubIndexes
none_made t i empty q y known = absurd (let bad : None ≡ Some y = (rw empty at known) in cc)

-- one more is kept
pub one_made : (t : Table) (old new : SubIndexes) (list : ℕ) (index : SubIndex)
    → ((q : ℕ) → get nat_cmp new.indexes q ≡ cond (eq_by_cmp nat_cmp list q) (Some index) (get nat_cmp old.indexes q)) → IsIndexUnder t list index → AreSubIndexes t old → AreSubIndexes t new
unfolding AreSubIndexes
one_made t old new list index put is are q y known = by_test (eq_by_cmp nat_cmp list q) refl (sym (put q) ∙ known)
  where
    by_test : (v : Bool) → eq_by_cmp nat_cmp list q ≡ v → cond v (Some index) (get nat_cmp old.indexes q) ≡ Some y → IsIndexUnder t q y
    by_test true here found =
        let same : index ≡ y = cc in
        let place : list ≡ q = tells_apart exact_unsigned list q here in
        rw (← same, ← place) is
    by_test false here found = are q y found

-- or none is
pub same_made : (t : Table) (old new : SubIndexes) → IsUnchanged old.indexes new.indexes → AreSubIndexes t old → AreSubIndexes t new
unfolding AreSubIndexes
same_made t old new same are q y known = are q y (rw same at known)

-- that of a node is one of each node with the same list
pub index_under : (node : Node) (index : SubIndex) (list : ℕ) → IsIndexedBy node index → list ≡ bid_key (sub_bid_of node) → IsIndexUnder (table_of_node node) list index
index_under node index list is same bid e = index_of_key (table_of_node node) (sub_bid_of node) bid index (sym (e ∙ same)) is

-- the one that a node is lent
pub made_for : (node : Node) (i : SubIndexes) (index : SubIndex) (list : ℕ) → AreSubIndexes (table_of_node node) i → list ≡ bid_key (sub_bid_of node) → get nat_cmp i.indexes list ≡ Some index → IsIndexedBy node index
unfolding AreSubIndexes
made_for node i index list are same found = are list index found (sub_bid_of node) (sym same)

-- an entry that is found in the list of a node which is lent an index is that of the node's subnode
pub found_lent : (t u : Table) (r l : Roots) (nid : ℕ) (found : Option Sub) → u ≡ t → l ≡ r → found ≡ first_with sub_nid nid (subs_of u l.bid_sub) → option_map (sub_roots r) found ≡ subnode_of t r nid
unfolding subnode_of
found_lent t u r l nid found table roots is = ap (option_map (sub_roots r)) (rw (table, roots) at is)

pub none_lent : (t u : Table) (r l : Roots) (nid : ℕ) → u ≡ t → l ≡ r → None ≡ first_with sub_nid nid (subs_of u l.bid_sub) → None ≡ subnode_of t r nid
none_lent t u r l nid table roots is = found_lent t u r l nid None table roots is
