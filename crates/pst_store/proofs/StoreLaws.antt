-- A file is a store exactly where it has no first fault.
use Rattle.std.proofs.Common.{◌≡◌, ℕ, List, ◌++◌, None, refl, subst}
use Rattle.pst_bytes.specs.declared.span.Span.{Span}
use Rattle.pst_fault.proofs.FirstLemmas.{none_then, both_none}
use Rattle.pst_header.specs.declared.header.Header.{Header}
use Rattle.pst_header.specs.Header.{header_fault, fields, end_of, amap_count_of}
use Rattle.pst_page.specs.declared.kind.PageKind.TheVariants.{Bbt, Nbt}
use Rattle.pst_btree.specs.Tree.{Tree}
use Rattle.pst_amap.specs.declared.report.BitOrder.{BitOrder}
use Rattle.pst_amap.specs.Marks.{bit_order_of}
use Rattle.pst_amap.specs.Values.{old_pages, runs_beside}
use Rattle.pst_amap.proofs.BesideLaws.{IsBeside, beside_is, is_beside, spans_claimed}
use Rattle.pst_amap.proofs.OldClaimLaws.{IsClaimedBy, lost_are}
use Rattle.pst_amap.specs.Lost.{lost_runs}
use Rattle.pst_amap.specs.Report.{old_maps}
use Rattle.pst_ndb.specs.Database.{Database, used_spans}
use Rattle.pst_ndb.specs.Entries.{tree_under, block_table, block_list, node_list}
use Rattle.pst_ndb.specs.Fault.{nodes_fault, file_fault, ndb_fault}
use Rattle.pst_ndb.specs.Space.{space_claimed, space_fault}
use Rattle.pst_ndb.proofs.DatabaseLaws.{database_law, is_database, units_are}
use Rattle.pst_ndb.proofs.SpaceLaws.{used_units}
use Rattle.pst_space.specs.Claimed.{Claimed, unit_total, nothing_claimed, with_spans}
use Rattle.pst_msg.specs.Fault.{messaging_fault}
use Rattle.pst_msg.specs.Grammar.{Contents}
use Rattle.pst_msg.proofs.ContentsLaws.{contents_law}
use Rattle.pst_store.specs.Parts.{StoreParts, parts_table, parts_entries, used_in}
use Rattle.pst_store.specs.Grammar.{IsStore}
use Rattle.pst_store.specs.Fault.{store_fault}
use Rattle.pst_store.specs.Values.{old_in, lost_runs_in, store_in}
use Rattle.pst_store.specs.Laws.{StoreLaw}

-- ---- a store is a node database, and its contents

database_of : (I : List ℕ) (s : StoreParts) → IsStore I s → Database I s.header s.blocks s.nodes s.order
database_of I s is = record {
  head = is.header;
  block_tree = is.block_tree;
  node_tree = is.node_tree;
  good = is.blocks;
  apart = is.apart;
  maps = is.maps;
  trees = is.trees;
}

contents_of : (I : List ℕ) (s : StoreParts) → IsStore I s → Contents (parts_table I s) (parts_entries I s)
contents_of I s is = record {
  store = is.store;
  root = is.root;
  names = is.names;
  folders = λ r w e. is.folders r (w, e);
  searches = λ r w e. is.searches r (w, e);
  messages = λ r w e. is.messages r (w, e);
  associated = λ r w e. is.associated r (w, e);
}

both_make : (I : List ℕ) (s : StoreParts) → Database I s.header s.blocks s.nodes s.order → IsBeside I s.header s.order (used_in I s) s.old s.lost → Contents (parts_table I s) (parts_entries I s) → IsStore I s
both_make I s d beside contents = record {
  header = d.head;
  block_tree = d.block_tree;
  node_tree = d.node_tree;
  blocks = d.good;
  apart = d.apart;
  maps = d.maps;
  old = beside.pages;
  lost = beside.runs;
  marks = beside.marks;
  trees = d.trees;
  store = contents.store;
  root = contents.root;
  names = contents.names;
  folders = λ r w. contents.folders r w.0 w.1;
  searches = λ r w. contents.searches r w.0 w.1;
  messages = λ r w. contents.messages r w.0 w.1;
  associated = λ r w. contents.associated r w.0 w.1;
}

-- ---- what a file spells

-- what it is made of
abbrev Spelt : List ℕ → StoreParts → Type 0
Spelt I s = (s.header ≡ fields I) × (s.blocks ≡ tree_under Bbt I s.header.bbt) × (s.nodes ≡ tree_under Nbt I s.header.nbt) × (s.order ≡ bit_order_of I (space_claimed I s.header))

-- and what its maps mark beside
abbrev Beside : List ℕ → StoreParts → Type 0
Beside I s = (s.old ≡ old_pages s.order I (end_of s.header) (used_in I s) (amap_count_of s.header)) × (s.lost ≡ runs_beside s.order I (unit_total s.header) (used_in I s ++ s.old))

spelt_is : (I : List ℕ) (s : StoreParts) → Spelt I s → Beside I s → s ≡ store_in I
unfolding store_in old_in lost_runs_in
spelt_is I s w marks = by_parts s.header s.blocks s.nodes s.order s.old s.lost w.0 w.1 w.2 w.3 marks.0 marks.1
  where
    by_parts : (h : Header) (b n : Tree) (o : BitOrder) (old lost : List Span) → h ≡ fields I → b ≡ tree_under Bbt I h.bbt → n ≡ tree_under Nbt I h.nbt → o ≡ bit_order_of I (space_claimed I h)
        → old ≡ old_pages o I (end_of h) (used_spans I h b n) (amap_count_of h) → lost ≡ runs_beside o I (unit_total h) (used_spans I h b n ++ old)
        → record { header = h; blocks = b; nodes = n; order = o; old = old; lost = lost } ≡ store_in I
    by_parts h b n o old lost p q r t u v = rw (v, u, t, q, r, p) refl

is_spelt : (I : List ℕ) (s : StoreParts) → s ≡ store_in I → Spelt I s × Beside I s
unfolding store_in old_in lost_runs_in
is_spelt I s e = rw e ((refl, refl, refl, refl), (refl, refl))

-- the blocks and nodes that it spells, in the words of its first fault
pub table_is : (I : List ℕ) → parts_table I (store_in I) ≡ block_table I (fields I)
unfolding store_in block_list
table_is I = refl

pub entries_are : (I : List ℕ) → parts_entries I (store_in I) ≡ node_list I (fields I)
unfolding store_in node_list
entries_are I = refl

-- ---- the first fault, in two halves

file_nodes : (I : List ℕ) (h : Header) → file_fault I h ≡ None → nodes_fault (block_table I h) (node_list I h) ≡ None
unfolding file_fault
file_nodes I h none = (none_then (space_fault I h) (nodes_fault (block_table I h) (node_list I h)) none).1

sound_nodes : (I : List ℕ) → ndb_fault I ≡ None → nodes_fault (block_table I (fields I)) (node_list I (fields I)) ≡ None
unfolding ndb_fault
sound_nodes I none = file_nodes I (fields I) (none_then (header_fault I) (file_fault I (fields I)) none).1

pub store_halves : (I : List ℕ) → store_fault I ≡ None → (ndb_fault I ≡ None) × (messaging_fault (block_table I (fields I)) (node_list I (fields I)) ≡ None)
unfolding store_fault
store_halves I none = none_then (ndb_fault I) (messaging_fault (block_table I (fields I)) (node_list I (fields I))) none

pub halves_store : (I : List ℕ) → ndb_fault I ≡ None → messaging_fault (block_table I (fields I)) (node_list I (fields I)) ≡ None → store_fault I ≡ None
unfolding store_fault
halves_store I a b = both_none (ndb_fault I) (messaging_fault (block_table I (fields I)) (node_list I (fields I))) a b

-- ---- the law

-- of what the file spells, contents are no first fault of messaging
contents_none : (I : List ℕ) → ndb_fault I ≡ None → Contents (parts_table I (store_in I)) (parts_entries I (store_in I)) → messaging_fault (block_table I (fields I)) (node_list I (fields I)) ≡ None
contents_none I sound is = (contents_law (block_table I (fields I)) (node_list I (fields I)) (sound_nodes I sound)).0 (rw (table_is I, entries_are I) at is)

none_contents : (I : List ℕ) → ndb_fault I ≡ None → messaging_fault (block_table I (fields I)) (node_list I (fields I)) ≡ None → Contents (parts_table I (store_in I)) (parts_entries I (store_in I))
none_contents I sound none = rw (table_is I, entries_are I) ((contents_law (block_table I (fields I)) (node_list I (fields I)) (sound_nodes I sound)).1 none)

store_none : (I : List ℕ) (s : StoreParts) → IsStore I s → (store_fault I ≡ None) × (s ≡ store_in I)
store_none I s is =
    let d = (database_law I s.header s.blocks s.nodes s.order).0 (database_of I s is) in
    let same = spelt_is I s (d.1, d.2, d.3, d.4) (beside_is I s.header s.order (used_in I s) s.old s.lost is.header is.old is.lost) in
    let contents : Contents (parts_table I (store_in I)) (parts_entries I (store_in I)) = (rw same at (contents_of I s is)) in
    (halves_store I d.0 (contents_none I d.0 contents), same)

none_store : (I : List ℕ) (s : StoreParts) → store_fault I ≡ None → s ≡ store_in I → IsStore I s
none_store I s none same =
    let both = store_halves I none in
    let w = is_spelt I s same in
    let d = (database_law I s.header s.blocks s.nodes s.order).1 (both.0, w.0.0, w.0.1, w.0.2, w.0.3) in
    let units = used_units I s.header s.blocks s.nodes d.head d.block_tree d.node_tree d.good in
    let beside = is_beside I s.header s.order (used_in I s) s.old s.lost d.head units d.maps w.1.0 w.1.1 in
    both_make I s d beside (rw same (none_contents I both.0 both.1))

pub store_law : StoreLaw
store_law I s = (store_none I s, λ w. none_store I s w.0 w.1)

pub sound_store : (I : List ℕ) → store_fault I ≡ None → IsStore I (store_in I)
sound_store I none = none_store I (store_in I) none refl

-- ---- the lost runs

-- those that the comparison with the maps finds are the store's
pub lost_is : (I : List ℕ) → ndb_fault I ≡ None → lost_runs (bit_order_of I (space_claimed I (fields I))) I (old_maps I (fields I) (space_claimed I (fields I))).claimed ≡ (store_in I).lost
unfolding store_in lost_runs_in old_in
lost_is I none =
    let h = fields I in
    let d = is_database I (bit_order_of I (space_claimed I h)) none refl in
    let used = used_spans I h (tree_under Bbt I h.bbt) (tree_under Nbt I h.nbt) in
    let claims : IsClaimedBy h used (with_spans (nothing_claimed h) used) = spans_claimed h used (used_units I h (tree_under Bbt I h.bbt) (tree_under Nbt I h.nbt) d.head d.block_tree d.node_tree d.good) in
    lost_are I h used (space_claimed I h) (subst (λ (m : Claimed). IsClaimedBy h used m) (units_are I h) claims)
