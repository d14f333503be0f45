-- The plain facts of folders and of a store's messaging, and their first fault, say the same.
use Rattle.std.proofs.Common.{◌≡◌, ℕ, zero, suc, ◌<◌, Bool, true, false, List, [], ◌∷◌, length, Option, Some, None, refl, sym, ◌∙◌, arith}
use Rattle.std.specs.Prelude.{◌||◌, slice_index_or, if◌then◌else◌}
use Rattle.std.specs.List.{Contains}
use Rattle.std.proofs.lemmas.Bool.{eqb-true}
use Rattle.pst_fault.specs.declared.kind.Kind.TheVariants.{NodeMissing, NodeKind}
use Rattle.pst_fault.specs.First.{◌then◌, holds_or}
use Rattle.pst_fault.proofs.FirstLemmas.{none_then, both_none, holds_or_none, holds_or_true}
use Rattle.pst_page.specs.declared.entry.NodeEntry.{NodeEntry}
use Rattle.pst_block.specs.Table.{Table}
use Rattle.pst_subnode.specs.declared.check.TheConstants.{LISTS}
use Rattle.pst_subnode.specs.Tree.{sub_fault}
use Rattle.pst_ndb.specs.Fault.{node_fault as trees_fault, nodes_fault}
use Rattle.pst_ndb.proofs.NodeLemmas.{none_subs}
use Rattle.pst_tc.specs.Values.{RowParts, tc_rows}
use Rattle.pst_ndb.specs.Roots.{Roots, entry_roots, node_in, all_roots}
use Rattle.pst_fault.specs.Each.{first_of, if_there, there_or}
use Rattle.pst_pc.specs.Fault.{pc_fault}
use Rattle.pst_tc.specs.Fault.{tc_fault}
use Rattle.pst_names.specs.declared.name_map.TheConstants.{NAME_MAP}
use Rattle.pst_names.specs.Fault.{names_fault}
use Rattle.pst_names.proofs.NameLaws.{none_names, names_none}
use Rattle.pst_mail.specs.declared.items.Items.{Items}
use Rattle.pst_mail.specs.declared.items.Items.TheVariants.{Subfolders, Messages, Associated}
use Rattle.pst_mail.specs.declared.nid.TheConstants.{STORE, ROOT, FOLDER, SEARCH_FOLDER, MESSAGE, ASSOCIATED}
use Rattle.pst_mail.specs.Nid.{type_of, is_type, named}
use Rattle.pst_mail.specs.Fault.{message_fault, listed_item_fault, items_fault, table_fault, folder_fault, required_fault, name_map_fault, typed_node_fault, messaging_fault}
use Rattle.pst_mail.specs.Values.{may_list, listing_of}
use Rattle.pst_tc.specs.Grammar.{IsTc}
use Rattle.pst_mail.specs.Grammar.{Lists, IsFolder, HasProperties, MayHaveNames, Contents}
use Rattle.pst_mail.specs.Laws.{ContentsLaw}
use Rattle.pst_mail.specs.NodeLaw.{IsAsTyped, NodeLaw}
use Rattle.pst_pc.proofs.PcLaws.{none_pc, pc_none}
use Rattle.pst_tc.proofs.TcLaws.{none_tc, tc_none}
use Rattle.pst_fault.proofs.EachLemmas.{of_none, none_of}
use Rattle.pst_mail.proofs.MessageLaws.{there_none, none_there, message_law}

-- ---- a row of a folder's table

abbrev Named : List NodeEntry → Items → RowParts → Type 0
Named nodes items x = ((n : Roots) × (node_in nodes x.id ≡ Some n)) × (may_list items x.id ≡ true)

pub item_none : (nodes : List NodeEntry) (items : Items) (bid : ℕ) (x : RowParts) → Named nodes items x → listed_item_fault nodes items bid x ≡ None
unfolding listed_item_fault
item_none nodes items bid x h = rw h.0.1 (holds_or_true (may_list items x.id) (named NodeKind x.at bid x.id) h.1)

pub none_item : (nodes : List NodeEntry) (items : Items) (bid : ℕ) (x : RowParts) → listed_item_fault nodes items bid x ≡ None → Named nodes items x
unfolding listed_item_fault
none_item nodes items bid x none = by_found (node_in nodes x.id) refl none
  where
    by_found : (o : Option Roots) → node_in nodes x.id ≡ o → there_or (named NodeMissing x.at bid x.id) (λ _. holds_or (may_list items x.id) (named NodeKind x.at bid x.id)) o ≡ None → Named nodes items x
    by_found None e h = cc
    by_found (Some n) e h = ((n, e), holds_or_none (may_list items x.id) (named NodeKind x.at bid x.id) h)

-- ---- a folder's table

abbrev ListsIn : Table → List NodeEntry → Items → Roots → Type 0
ListsIn t nodes items table = IsTc t table × ((x : RowParts) → Contains (tc_rows t table) x → Named nodes items x)

items_none : (t : Table) (nodes : List NodeEntry) (items : Items) (table : Roots) → ListsIn t nodes items table → items_fault t nodes items table ≡ None
unfolding items_fault
items_none t nodes items table h =
    both_none (tc_fault t table) (first_of (listed_item_fault nodes items table.bid_data) (tc_rows t table)) (tc_none t table h.0)
    (of_none (listed_item_fault nodes items table.bid_data) (tc_rows t table) (λ x w. item_none nodes items table.bid_data x (h.1 x w)))

none_items : (t : Table) (nodes : List NodeEntry) (items : Items) (table : Roots) → items_fault t nodes items table ≡ None → ListsIn t nodes items table
unfolding items_fault
none_items t nodes items table none =
    let both = none_then (tc_fault t table) (first_of (listed_item_fault nodes items table.bid_data) (tc_rows t table)) none in
    (none_tc t table both.0, λ x w. none_item nodes items table.bid_data x (none_of (listed_item_fault nodes items table.bid_data) (tc_rows t table) x both.1 w))

table_none : (t : Table) (nodes : List NodeEntry) (items : Items) (r : Roots) → Lists t nodes items r → table_fault t nodes items r.top ≡ None
unfolding table_fault
table_none t nodes items r h = there_none (items_fault t nodes items) (listing_of nodes items r.top) (λ table e. items_none t nodes items table (h table e))

pub none_table : (t : Table) (nodes : List NodeEntry) (items : Items) (r : Roots) → table_fault t nodes items r.top ≡ None → Lists t nodes items r
unfolding table_fault
none_table t nodes items r none table e = none_items t nodes items table (none_there (items_fault t nodes items) (listing_of nodes items r.top) table none e)

-- ---- a folder

pub folder_none : (t : Table) (nodes : List NodeEntry) (r : Roots) → IsFolder t nodes r → folder_fault t nodes r ≡ None
unfolding folder_fault
folder_none t nodes r is =
    both_none (pc_fault t r) _ (pc_none t r is.properties)
    (both_none (table_fault t nodes Subfolders r.top) _ (table_none t nodes Subfolders r is.subfolders)
    (both_none (table_fault t nodes Messages r.top) (table_fault t nodes Associated r.top) (table_none t nodes Messages r is.messages) (table_none t nodes Associated r is.associated)))

pub none_folder : (t : Table) (nodes : List NodeEntry) (r : Roots) → folder_fault t nodes r ≡ None → IsFolder t nodes r
unfolding folder_fault
none_folder t nodes r none =
    let p = none_then (pc_fault t r) (table_fault t nodes Subfolders r.top then table_fault t nodes Messages r.top then table_fault t nodes Associated r.top) none in
    let q = none_then (table_fault t nodes Subfolders r.top) (table_fault t nodes Messages r.top then table_fault t nodes Associated r.top) p.1 in
    let s = none_then (table_fault t nodes Messages r.top) (table_fault t nodes Associated r.top) q.1 in record {
      properties = none_pc t r p.0;
      subfolders = none_table t nodes Subfolders r q.0;
      messages = none_table t nodes Messages r s.0;
      associated = none_table t nodes Associated r s.1;
    }

-- ---- a node, by its type

pub node_is_folder : (t : Table) (nodes : List NodeEntry) (r : Roots) → type_of r.top ≡ FOLDER → typed_node_fault t nodes r ≡ folder_fault t nodes r
unfolding typed_node_fault
node_is_folder t nodes r e = rw e refl

pub node_is_search : (t : Table) (nodes : List NodeEntry) (r : Roots) → type_of r.top ≡ SEARCH_FOLDER → typed_node_fault t nodes r ≡ pc_fault t r
unfolding typed_node_fault
node_is_search t nodes r e = rw e refl

pub node_is_message : (t : Table) (nodes : List NodeEntry) (r : Roots) → type_of r.top ≡ MESSAGE → typed_node_fault t nodes r ≡ message_fault t r
unfolding typed_node_fault
node_is_message t nodes r e = rw e refl

pub node_is_associated : (t : Table) (nodes : List NodeEntry) (r : Roots) → type_of r.top ≡ ASSOCIATED → typed_node_fault t nodes r ≡ message_fault t r
unfolding typed_node_fault
node_is_associated t nodes r e = rw e refl

none_node : (t : Table) (nodes : List NodeEntry) (r : Roots) → sub_fault t LISTS r.bid_sub ≡ None → typed_node_fault t nodes r ≡ None → IsAsTyped t nodes r
none_node t nodes r sound none = record {
  folder = λ e. none_folder t nodes r (sym (node_is_folder t nodes r e) ∙ none);
  search_folder = λ e. none_pc t r (sym (node_is_search t nodes r e) ∙ none);
  message = λ e. (message_law t r sound).1 (sym (node_is_message t nodes r e) ∙ none);
  associated = λ e. (message_law t r sound).1 (sym (node_is_associated t nodes r e) ∙ none);
}

node_none : (t : Table) (nodes : List NodeEntry) (r : Roots) → sub_fault t LISTS r.bid_sub ≡ None → IsAsTyped t nodes r → typed_node_fault t nodes r ≡ None
unfolding typed_node_fault
node_none t nodes r sound facts = by_type (is_type FOLDER r.top) (is_type SEARCH_FOLDER r.top) (is_type MESSAGE r.top) (is_type ASSOCIATED r.top) refl refl refl refl
  where
    by_type : (a b c d : Bool) → is_type FOLDER r.top ≡ a → is_type SEARCH_FOLDER r.top ≡ b → is_type MESSAGE r.top ≡ c → is_type ASSOCIATED r.top ≡ d → (if a then folder_fault t nodes r else (if b then pc_fault t r else (if c || d then message_fault t r else None))) ≡ None
    by_type true b c d p q u v = folder_none t nodes r (facts.folder (eqb-true (type_of r.top) FOLDER p))
    by_type false true c d p q u v = pc_none t r (facts.search_folder (eqb-true (type_of r.top) SEARCH_FOLDER q))
    by_type false false true d p q u v = (message_law t r sound).0 (facts.message (eqb-true (type_of r.top) MESSAGE u))
    by_type false false false true p q u v = (message_law t r sound).0 (facts.associated (eqb-true (type_of r.top) ASSOCIATED v))
    by_type false false false false p q u v = refl

pub node_law : NodeLaw
node_law t nodes r sound = (node_none t nodes r sound, none_node t nodes r sound)

-- ---- all nodes

-- each has subnodes without fault
pub nodes_sound : (t : Table) (nodes : List NodeEntry) (r : Roots) → nodes_fault t nodes ≡ None → Contains (all_roots nodes) r → sub_fault t LISTS r.bid_sub ≡ None
unfolding first_of
nodes_sound t [] r none w = absurd (omega (arith, w.1))
nodes_sound t (e ∷ rest) r none w = let both = none_then (trees_fault t e) (nodes_fault t rest) none in by_place w.0 w.1 w.2 (none_subs t e both.0) (λ v. nodes_sound t rest r both.1 v)
  where
    by_place : (k : ℕ) → k < length (all_roots (e ∷ rest)) → slice_index_or (all_roots (e ∷ rest)) k r ≡ r → sub_fault t LISTS e.bid_sub ≡ None → (Contains (all_roots rest) r → sub_fault t LISTS r.bid_sub ≡ None) → sub_fault t LISTS r.bid_sub ≡ None
    by_place zero lt is one later = let same : entry_roots e ≡ r = is in rw (← same) one
    by_place (suc k) lt is one later = later (k, omega arith, is)

required_none : (t : Table) (nodes : List NodeEntry) (nid : ℕ) → HasProperties t nodes nid → required_fault t nodes nid ≡ None
unfolding required_fault
required_none t nodes nid h = rw h.1 (pc_none t h.0 h.2)

pub none_required : (t : Table) (nodes : List NodeEntry) (nid : ℕ) → required_fault t nodes nid ≡ None → HasProperties t nodes nid
unfolding required_fault
none_required t nodes nid none = by_found (node_in nodes nid) refl none
  where
    by_found : (o : Option Roots) → node_in nodes nid ≡ o → there_or (named NodeMissing 0 0 nid) (pc_fault t) o ≡ None → HasProperties t nodes nid
    by_found None e h = cc
    by_found (Some r) e h = (r, e, none_pc t r h)

-- ---- the name map

names_are_none : (t : Table) (nodes : List NodeEntry) → MayHaveNames t nodes → if_there (name_map_fault t) (node_in nodes NAME_MAP) ≡ None
unfolding name_map_fault
names_are_none t nodes are =
    there_none (name_map_fault t) (node_in nodes NAME_MAP)
    (λ r e. both_none (pc_fault t r) (names_fault t r) (pc_none t r (are r e).0) (names_none t r (are r e).1))

pub none_are_names : (t : Table) (nodes : List NodeEntry) → if_there (name_map_fault t) (node_in nodes NAME_MAP) ≡ None → MayHaveNames t nodes
unfolding name_map_fault
none_are_names t nodes none r e =
    let both = none_then (pc_fault t r) (names_fault t r) (none_there (name_map_fault t) (node_in nodes NAME_MAP) r none e) in
    (none_pc t r both.0, none_names t r both.1)

-- ---- laws

contents_none : (t : Table) (nodes : List NodeEntry) → nodes_fault t nodes ≡ None → Contents t nodes → messaging_fault t nodes ≡ None
unfolding messaging_fault
contents_none t nodes sound is =
    both_none (required_fault t nodes STORE) _ (required_none t nodes STORE is.store)
    (both_none (required_fault t nodes ROOT) _ (required_none t nodes ROOT is.root)
    (both_none (if_there (name_map_fault t) (node_in nodes NAME_MAP)) (first_of (typed_node_fault t nodes) (all_roots nodes)) (names_are_none t nodes is.names)
    (of_none (typed_node_fault t nodes) (all_roots nodes)
    (λ r w. node_none t nodes r (nodes_sound t nodes r sound w) (record { folder = is.folders r w; search_folder = is.searches r w; message = is.messages r w; associated = is.associated r w })))))

pub none_contents : (t : Table) (nodes : List NodeEntry) → nodes_fault t nodes ≡ None → messaging_fault t nodes ≡ None → Contents t nodes
unfolding messaging_fault
none_contents t nodes sound none =
    let p = none_then (required_fault t nodes STORE) (required_fault t nodes ROOT then if_there (name_map_fault t) (node_in nodes NAME_MAP) then first_of (typed_node_fault t nodes) (all_roots nodes)) none in
    let q = none_then (required_fault t nodes ROOT) (if_there (name_map_fault t) (node_in nodes NAME_MAP) then first_of (typed_node_fault t nodes) (all_roots nodes)) p.1 in
    let s = none_then (if_there (name_map_fault t) (node_in nodes NAME_MAP)) (first_of (typed_node_fault t nodes) (all_roots nodes)) q.1 in
    let each : (r : Roots) → Contains (all_roots nodes) r → IsAsTyped t nodes r = λ r w. none_node t nodes r (nodes_sound t nodes r sound w) (none_of (typed_node_fault t nodes) (all_roots nodes) r s.1 w) in record {
      store = none_required t nodes STORE p.0;
      root = none_required t nodes ROOT q.0;
      names = none_are_names t nodes s.0;
      folders = λ r w e. (each r w).folder e;
      searches = λ r w e. (each r w).search_folder e;
      messages = λ r w e. (each r w).message e;
      associated = λ r w e. (each r w).associated e;
    }

pub contents_law : ContentsLaw
contents_law t nodes sound = (λ is. contents_none t nodes sound is, λ none. none_contents t nodes sound none)
