-- A file has a node database exactly where it has no first fault up to its nodes.
use Rattle.std.proofs.Common.{◌≡◌, ℕ, List, [], ◌∷◌, ◌++◌, Option, None, Result, Ok, Err, refl, sym, ap, subst, ◌∙◌}
use Rattle.std.specs.Prelude.{IfErr, IfOk, OnOk, ◌↔◌}
use Rattle.pst_fault.specs.declared.fault.Fault.{Fault}
use Rattle.pst_fault.specs.Fault.{no_memory}
use Rattle.pst_fault.specs.First.{IsFirst}
use Rattle.pst_fault.proofs.FirstLemmas.{none_then, both_none, only_memory}
use Rattle.pst_bytes.specs.declared.Image.{Image}
use Rattle.pst_bytes.specs.Image.{bytes_of}
use Rattle.pst_header.specs.declared.header.Header.{Header}
use Rattle.pst_header.specs.Header.{header_fault, fields, end_of}
use Rattle.pst_header.specs.Head.{Head}
use Rattle.pst_header.proofs.Head.{header_law}
use Rattle.pst_page.specs.declared.kind.PageKind.TheVariants.{Bbt, Nbt}
use Rattle.pst_page.specs.declared.entry.NodeEntry.{NodeEntry}
use Rattle.pst_space.specs.Claimed.{Claimed, map_pages, nothing_claimed, maps_claimed}
use Rattle.pst_space.specs.Step.{Step}
use Rattle.pst_space.proofs.MapLemmas.{with_spans-append}
use Rattle.pst_btree.specs.Tree.{Tree, page_spans}
use Rattle.pst_block.specs.Table.{Table, table_with}
use Rattle.pst_block.specs.Walk.{block_spans}
use Rattle.pst_amap.specs.declared.report.BitOrder.{BitOrder}
use Rattle.pst_amap.specs.Marks.{bit_order_of}
use Rattle.pst_amap.specs.Report.{maps_fault, Maps}
use Rattle.pst_amap.proofs.MapsLaws.{maps_law}
use Rattle.pst_datatree.specs.Data.{data_spans}
use Rattle.pst_datatree.proofs.RelationLemmas.{data_law}
use Rattle.pst_ndb.specs.Entries.{tree_under, block_list, node_list}
use Rattle.pst_ndb.specs.Space.{space_walk, space_spans, space_claimed, space_fault, fault_after}
use Rattle.pst_fault.specs.Each.{first_of}
use Rattle.pst_ndb.specs.Fault.{node_fault, nodes_fault, file_fault, ndb_fault}
use Rattle.pst_ndb.specs.Database.{Database, DatabaseLaw, HasTrees, AllHaveTrees, blocks_in, nodes_in, used_spans, claimed_units}
use Rattle.pst_ndb.specs.declared.check.Checked.{Checked}
use Rattle.pst_ndb.specs.Checked.{IsCheckedOf}
use Rattle.pst_ndb.specs.Views.{header_of}
use Rattle.pst_ndb.proofs.NodeLemmas.{node_none, none_data, none_subs}
use Rattle.pst_subnode.specs.declared.check.TheConstants.{LISTS}
use Rattle.pst_subnode.specs.List.{subs_of}
use Rattle.pst_subnode.specs.Tree.{sub_height}
use Rattle.pst_subnode.proofs.TreeLaws.{sub_law}
use Rattle.pst_ndb.proofs.SpaceLaws.{space_walked, walked_space, spelt_is}

-- ---- nodes

pub node_law : (t : Table) (e : NodeEntry) → HasTrees t e ↔ (node_fault t e ≡ None)
node_law t e = (
  λ h.
      node_none t e ((data_law t e.bid_data h.spans).0 h.content).0 ((sub_law t LISTS e.bid_sub h.height h.subs).0 (h.list, h.low)).0,
  λ none.
      let content = none_data t e none in
      let list = (sub_law t LISTS e.bid_sub (sub_height t LISTS e.bid_sub) (subs_of t e.bid_sub)).1 (none_subs t e none, refl, refl) in
      record {
        spans = data_spans t e.bid_data;
        content = (data_law t e.bid_data (data_spans t e.bid_data)).1 (content, refl);
        subs = subs_of t e.bid_sub;
        height = sub_height t LISTS e.bid_sub;
        list = list.0;
        low = list.1;
      },
)

pub have_trees : (t : Table) (entries : List NodeEntry) → AllHaveTrees t entries → nodes_fault t entries ≡ None
unfolding first_of
have_trees t [] h = refl
have_trees t (e ∷ rest) h = both_none (node_fault t e) (nodes_fault t rest) ((node_law t e).0 h.0) (have_trees t rest h.1)

pub trees_there : (t : Table) (entries : List NodeEntry) → nodes_fault t entries ≡ None → AllHaveTrees t entries
unfolding first_of
trees_there t [] none = tt
trees_there t (e ∷ rest) none = let both = none_then (node_fault t e) (nodes_fault t rest) none in ((node_law t e).1 both.0, trees_there t rest both.1)

-- ---- the space and the maps

after_ok : (rest : Claimed → Option Fault) (step : Step Claimed) (claimed : Claimed) → step ≡ Ok claimed → fault_after rest step ≡ rest claimed
after_ok rest step claimed e = rw e refl

after_none : (rest : Claimed → Option Fault) (step : Step Claimed) → fault_after rest step ≡ None → (claimed : Claimed) × (step ≡ Ok claimed) × (rest claimed ≡ None)
after_none rest (Ok claimed) e = (claimed, refl, e)
after_none rest (Err stop) e = absurd cc

-- what is claimed is the units of the spans in use
pub units_are : (I : List ℕ) (h : Header) → claimed_units h (used_spans I h (tree_under Bbt I h.bbt) (tree_under Nbt I h.nbt)) ≡ space_claimed I h
unfolding space_spans maps_claimed block_list
units_are I h = with_spans-append (nothing_claimed h) (map_pages h) (page_spans (tree_under Bbt I h.bbt) ++ page_spans (tree_under Nbt I h.nbt) ++ block_spans (block_list I h))

-- ---- a whole file

file_has : (I : List ℕ) (h : Header) (blocks nodes : Tree) (order : BitOrder) → Database I h blocks nodes order → blocks ≡ tree_under Bbt I h.bbt → nodes ≡ tree_under Nbt I h.nbt → (file_fault I h ≡ None) × (order ≡ bit_order_of I (space_claimed I h))
unfolding file_fault space_fault block_list node_list
file_has I h blocks nodes order d b n =
    let space = space_walked I h blocks nodes d.head (record { block_tree = d.block_tree; node_tree = d.node_tree; good = d.good; apart = d.apart }) in
    let P : Tree → Tree → Type 0 = λ b n. Maps I h (claimed_units h (used_spans I h b n)) order × AllHaveTrees (table_with I (blocks_in I b)) (nodes_in I n) in
    let at : P (tree_under Bbt I h.bbt) (tree_under Nbt I h.nbt) = subst (λ (u : Tree). P (tree_under Bbt I h.bbt) u) n (subst (λ (u : Tree). P u nodes) b (d.maps, d.trees)) in
    let maps = (maps_law I h (space_claimed I h) order).0 (subst (λ (m : Claimed). Maps I h m order) (units_are I h) at.0) in
    (both_none _ _ (after_ok (maps_fault I h) (space_walk I h (maps_claimed h)) (space_claimed I h) space ∙ maps.0) (have_trees _ _ at.1), maps.1)

pub has_file : (I : List ℕ) (h : Header) → Head I h → file_fault I h ≡ None → Database I h (tree_under Bbt I h.bbt) (tree_under Nbt I h.nbt) (bit_order_of I (space_claimed I h))
unfolding file_fault space_fault block_list node_list
has_file I h head none =
    let both = none_then _ _ none in
    let after = after_none (maps_fault I h) (space_walk I h (maps_claimed h)) both.0 in
    let space = walked_space I h after.0 head after.1 in
    let maps : maps_fault I h (space_claimed I h) ≡ None = ap (maps_fault I h) (sym space.1) ∙ after.2 in
    record {
      head = head;
      block_tree = space.0.block_tree;
      node_tree = space.0.node_tree;
      good = space.0.good;
      apart = space.0.apart;
      maps = subst (λ (m : Claimed). Maps I h m (bit_order_of I (space_claimed I h))) (sym (units_are I h)) ((maps_law I h (space_claimed I h) (bit_order_of I (space_claimed I h))).1 (maps, refl));
      trees = trees_there _ _ both.1;
    }

pub database_law : DatabaseLaw
unfolding ndb_fault
database_law I h blocks nodes order = (
  λ d.
      let b = spelt_is Bbt I (end_of h) h.bbt blocks d.block_tree in
      let n = spelt_is Nbt I (end_of h) h.nbt nodes d.node_tree in
      let header = (header_law I h).0 d.head in
      let file = file_has I h blocks nodes order d b n in
      (both_none (header_fault I) (file_fault I (fields I)) header.0 (ap (file_fault I) (sym header.1) ∙ file.0), header.1, b, n, file.1),
  λ (none, is, b, n, o).
      let both = none_then (header_fault I) (file_fault I (fields I)) none in
      let head = (header_law I h).1 (both.0, is) in
      let d = has_file I h head (ap (file_fault I) is ∙ both.1) in
      subst (λ (u : Tree). Database I h u nodes order) (sym b) (subst (λ (u : Tree). Database I h (tree_under Bbt I h.bbt) u order) (sym n) (subst (λ (u : BitOrder). Database I h (tree_under Bbt I h.bbt) (tree_under Nbt I h.nbt) u) (sym o) d)),
)

-- ---- what a check answers

-- what has no fault is a database
pub is_database : (I : List ℕ) (order : BitOrder) → ndb_fault I ≡ None → order ≡ bit_order_of I (space_claimed I (fields I)) → Database I (fields I) (tree_under Bbt I (fields I).bbt) (tree_under Nbt I (fields I).nbt) order
is_database I order none o = (database_law I (fields I) _ _ order).1 (none, refl, refl, refl, o)

-- a database is refused for want of memory alone
pub not_refused : {X : Type 0} (I : List ℕ) (h : Header) (blocks nodes : Tree) (order : BitOrder) (r : Result X Fault) → IfErr r (IsFirst (ndb_fault I)) → Database I h blocks nodes order → IfErr r (λ f. f ≡ no_memory)
not_refused I h blocks nodes order (Ok x) first d = tt
not_refused I h blocks nodes order (Err f) first d = only_memory (ndb_fault I) f ((database_law I h blocks nodes order).0 d).0 first

-- and is what is answered
pub found_database : (file : Image) (r : Result Checked Fault) → OnOk r (ndb_fault (bytes_of file) ≡ None) → IfOk r (IsCheckedOf file (fields (bytes_of file)))
    → IfOk r (λ c. Database (bytes_of file) (header_of c.ndb) (tree_under Bbt (bytes_of file) (header_of c.ndb).bbt) (tree_under Nbt (bytes_of file) (header_of c.ndb).nbt) c.map.order)
found_database file (Ok c) none is =
    let I = bytes_of file in
    subst (λ (h : Header). Database I h (tree_under Bbt I h.bbt) (tree_under Nbt I h.nbt) c.map.order) (sym is.header) (is_database I c.map.order none is.report.order)
found_database file (Err f) none is = tt
