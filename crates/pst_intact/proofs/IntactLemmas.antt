-- What intact nodes stand on.
use Rattle.std.proofs.Common.{◌≡◌, ℕ, Bool, true, false, List, [], ◌∷◌, cond, eqb, Option, Some, None, refl, sym, ap, ◌∙◌}
use Rattle.std.specs.Prelude.{◌||◌, option_map}
use Rattle.std.proofs.lemmas.Bool.{eqb-true}
use Rattle.pst_fault.specs.declared.fault.Fault.{Fault}
use Rattle.pst_fault.specs.Each.{first_of, if_there}
use Rattle.pst_fault.specs.First.{◌then◌}
use Rattle.pst_fault.proofs.FirstLemmas.{none_then, both_none}
use Rattle.pst_page.specs.declared.entry.NodeEntry.{NodeEntry}
use Rattle.pst_btree.specs.Entries.{first_with, node_with}
use Rattle.pst_block.specs.Table.{Table}
use Rattle.pst_ndb.specs.declared.node.Node.{Node}
use Rattle.pst_ndb.specs.Roots.{Roots, entry_roots, node_in, all_roots}
use Rattle.pst_ndb.specs.Views.{table_of_node, top_of, roots_of}
use Rattle.pst_tc.specs.Fault.{tc_fault}
use Rattle.pst_store.specs.pst_msg.pst_pc.Fault.{pc_fault}
use Rattle.pst_store.specs.pst_msg.pst_names.declared.name_map.TheConstants.{NAME_MAP}
use Rattle.pst_store.specs.pst_msg.pst_names.Fault.{names_fault}
use Rattle.pst_store.specs.pst_msg.pst_mail.declared.items.Items.{Items}
use Rattle.pst_store.specs.pst_msg.pst_mail.declared.items.Items.TheVariants.{Subfolders, Messages, Associated}
use Rattle.pst_store.specs.pst_msg.pst_mail.declared.nid.TheConstants.{STORE, ROOT, FOLDER, SEARCH_FOLDER, MESSAGE, ASSOCIATED}
use Rattle.pst_store.specs.pst_msg.Fault.{message_fault, required_fault, name_map_fault, items_fault, table_fault, folder_fault, typed_node_fault, messaging_fault}
use Rattle.pst_store.specs.pst_msg.Nid.{type_of, is_type}
use Rattle.pst_store.specs.pst_msg.Values.{is_folder, is_message, listing_of}
use Rattle.pst_store.specs.declared.store.Store.{Store}
use Rattle.pst_store.specs.View.{table_of_store, nodes_of_store}
use Rattle.pst_intact.specs.Fault.{listing_fault, tables_fault, intact_node_fault, intact_fault}

-- ---- all nodes of a store are intact

listing_there : (t : Table) (nodes : List NodeEntry) (items : Items) (o : Option Roots) → if_there (items_fault t nodes items) o ≡ None → if_there (tc_fault t) o ≡ None
unfolding items_fault
listing_there t nodes items None none = refl
listing_there t nodes items (Some r) none = (none_then (tc_fault t r) _ none).0

listing_is : (t : Table) (nodes : List NodeEntry) (items : Items) (nid : ℕ) → table_fault t nodes items nid ≡ None → listing_fault t nodes items nid ≡ None
unfolding table_fault listing_fault
listing_is t nodes items nid none = listing_there t nodes items (listing_of nodes items nid) none

tables_are : (t : Table) (nodes : List NodeEntry) (r : Roots) → folder_fault t nodes r ≡ None → tables_fault t nodes r ≡ None
unfolding folder_fault tables_fault
tables_are t nodes r none =
    let a = table_fault t nodes Subfolders r.top in
    let b = table_fault t nodes Messages r.top in
    let c = table_fault t nodes Associated r.top in
    let p = none_then (pc_fault t r) (a then b then c) none in
    let q = none_then a (b then c) p.1 in
    let s = none_then b c q.1 in
    both_none (pc_fault t r) _ p.0
    (both_none (listing_fault t nodes Subfolders r.top) _ (listing_is t nodes Subfolders r.top q.0)
    (both_none (listing_fault t nodes Messages r.top) _ (listing_is t nodes Messages r.top s.0) (listing_is t nodes Associated r.top s.1)))

node_is : (t : Table) (nodes : List NodeEntry) (r : Roots) → typed_node_fault t nodes r ≡ None → intact_node_fault t nodes r ≡ None
unfolding typed_node_fault intact_node_fault
node_is t nodes r none = by_type (is_type FOLDER r.top) none
  where
    by_type : (v : Bool) → cond v (folder_fault t nodes r) (cond (is_type SEARCH_FOLDER r.top) (pc_fault t r) (cond (is_message r.top) (message_fault t r) None)) ≡ None
        → cond v (tables_fault t nodes r) (cond (is_type SEARCH_FOLDER r.top) (pc_fault t r) (cond (is_message r.top) (message_fault t r) None)) ≡ None
    by_type true e = tables_are t nodes r e
    by_type false e = e

-- what has no fault by one part has none by another that follows from it
pub each_is : {X : Type 0} (f g : X → Option Fault) (xs : List X) → ((x : X) → f x ≡ None → g x ≡ None) → first_of f xs ≡ None → first_of g xs ≡ None
unfolding first_of
each_is f g [] is none = refl
each_is f g (x ∷ rest) is none =
    let both = none_then (f x) (first_of f rest) none in
    both_none (g x) (first_of g rest) (is x both.0) (each_is f g rest is both.1)

pub messaging_intact : (t : Table) (nodes : List NodeEntry) → messaging_fault t nodes ≡ None → intact_fault t nodes ≡ None
unfolding messaging_fault intact_fault
messaging_intact t nodes none =
    let names = if_there (name_map_fault t) (node_in nodes NAME_MAP) in
    let each = first_of (typed_node_fault t nodes) (all_roots nodes) in
    let p = none_then (required_fault t nodes STORE) (required_fault t nodes ROOT then names then each) none in
    let q = none_then (required_fault t nodes ROOT) (names then each) p.1 in
    let s = none_then names each q.1 in
    both_none names _ s.0 (each_is (typed_node_fault t nodes) (intact_node_fault t nodes) (all_roots nodes) (node_is t nodes) s.1)

pub store_intact : (s : Store) → intact_fault (table_of_store s) (nodes_of_store s) ≡ None
store_intact s = messaging_intact (table_of_store s) (nodes_of_store s) s.messaging

-- ---- the parts

pub nodes_sound : (t : Table) (nodes : List NodeEntry) → intact_fault t nodes ≡ None → first_of (intact_node_fault t nodes) (all_roots nodes) ≡ None
unfolding intact_fault
nodes_sound t nodes none = (none_then (if_there (name_map_fault t) (node_in nodes NAME_MAP)) (first_of (intact_node_fault t nodes) (all_roots nodes)) none).1

names_none : (t : Table) (nodes : List NodeEntry) (r : Roots) → intact_fault t nodes ≡ None → Some r ≡ node_in nodes NAME_MAP → (pc_fault t r ≡ None) × (names_fault t r ≡ None)
unfolding intact_fault name_map_fault
names_none t nodes r none is =
    let names = (none_then (if_there (name_map_fault t) (node_in nodes NAME_MAP)) (first_of (intact_node_fault t nodes) (all_roots nodes)) none).0 in
    let here : name_map_fault t r ≡ None = ap (if_there (name_map_fault t)) is ∙ names in
    none_then (pc_fault t r) (names_fault t r) here

pub names_properties : (t : Table) (nodes : List NodeEntry) (node : Node) → intact_fault t nodes ≡ None → Some (roots_of node) ≡ node_in nodes NAME_MAP → table_of_node node ≡ t → pc_fault (table_of_node node) (roots_of node) ≡ None
names_properties t nodes node none is same = rw same (names_none t nodes (roots_of node) none is).0

pub names_sound : (t : Table) (nodes : List NodeEntry) (node : Node) → intact_fault t nodes ≡ None → Some (roots_of node) ≡ node_in nodes NAME_MAP → table_of_node node ≡ t → names_fault (table_of_node node) (roots_of node) ≡ None
names_sound t nodes node none is same = rw same (names_none t nodes (roots_of node) none is).1

-- ---- a node that is found

found_entry : (part : Roots → Option Fault) (nid : ℕ) (nodes : List NodeEntry) (r : Roots) → first_of part (all_roots nodes) ≡ None → option_map entry_roots (node_with nid nodes) ≡ Some r → part r ≡ None
unfolding first_of first_with
found_entry part nid [] r none found = absurd cc
found_entry part nid (e ∷ rest) r none found =
    let both = none_then (part (entry_roots e)) (first_of part (all_roots rest)) none in
    by_test (eqb e.nid nid) both.0 (λ h. found_entry part nid rest r both.1 h) found
  where
    by_test : (here : Bool) → part (entry_roots e) ≡ None → (option_map entry_roots (node_with nid rest) ≡ Some r → part r ≡ None) → option_map entry_roots (cond here (Some e) (node_with nid rest)) ≡ Some r → part r ≡ None
    by_test true this later h = let same : entry_roots e ≡ r = cc in ap part (sym same) ∙ this
    by_test false this later h = later h

node_found : (part : Roots → Option Fault) (nid : ℕ) (nodes : List NodeEntry) (r : Roots) → first_of part (all_roots nodes) ≡ None → node_in nodes nid ≡ Some r → part r ≡ None
unfolding node_in
node_found part nid nodes r none found = found_entry part nid nodes r none found

pub node_sound : (t : Table) (nodes : List NodeEntry) (node : Node) (nid : ℕ) → intact_fault t nodes ≡ None → Some (roots_of node) ≡ node_in nodes nid → intact_node_fault t nodes (roots_of node) ≡ None
node_sound t nodes node nid none is = node_found (intact_node_fault t nodes) nid nodes (roots_of node) (nodes_sound t nodes none) (sym is)

pub kind_found : (node : Node) (nid : ℕ) → top_of node ≡ nid → is_folder nid ≡ true → is_folder (top_of node) ≡ true
kind_found node nid is kind = rw is kind

-- ---- by its type

either : {P : Type 0} (a b : Bool) → (a || b) ≡ true → (a ≡ true → P) → (b ≡ true → P) → P
either true b e f g = f refl
either false b e f g = g e

as_folder : (t : Table) (nodes : List NodeEntry) (r : Roots) → type_of r.top ≡ FOLDER → intact_node_fault t nodes r ≡ tables_fault t nodes r
unfolding intact_node_fault
as_folder t nodes r e = rw e refl

as_search : (t : Table) (nodes : List NodeEntry) (r : Roots) → type_of r.top ≡ SEARCH_FOLDER → intact_node_fault t nodes r ≡ pc_fault t r
unfolding intact_node_fault
as_search t nodes r e = rw e refl

as_message : (t : Table) (nodes : List NodeEntry) (r : Roots) → type_of r.top ≡ MESSAGE → intact_node_fault t nodes r ≡ message_fault t r
unfolding intact_node_fault
as_message t nodes r e = rw e refl

as_associated : (t : Table) (nodes : List NodeEntry) (r : Roots) → type_of r.top ≡ ASSOCIATED → intact_node_fault t nodes r ≡ message_fault t r
unfolding intact_node_fault
as_associated t nodes r e = rw e refl

-- a message
message_node : (t : Table) (nodes : List NodeEntry) (r : Roots) → intact_node_fault t nodes r ≡ None → is_message r.top ≡ true → message_fault t r ≡ None
message_node t nodes r none kind =
    either (is_type MESSAGE r.top) (is_type ASSOCIATED r.top) kind
    (λ e. sym (as_message t nodes r (eqb-true (type_of r.top) MESSAGE e)) ∙ none)
    (λ e. sym (as_associated t nodes r (eqb-true (type_of r.top) ASSOCIATED e)) ∙ none)

pub message_sound : (t u : Table) (nodes : List NodeEntry) (node : Node) → intact_node_fault t nodes (roots_of node) ≡ None → u ≡ t → is_message (top_of node) ≡ true → message_fault u (roots_of node) ≡ None
message_sound t u nodes node none same kind = rw same (message_node t nodes (roots_of node) none kind)

pub message_found : (t : Table) (nodes : List NodeEntry) (node : Node) (nid : ℕ) → intact_fault t nodes ≡ None → Some (roots_of node) ≡ node_in nodes nid → table_of_node node ≡ t → top_of node ≡ nid → is_message nid ≡ true → message_fault (table_of_node node) (roots_of node) ≡ None
message_found t nodes node nid none is same top kind = message_sound t (table_of_node node) nodes node (node_sound t nodes node nid none is) same (rw top kind)

-- a folder, and its tables
folder_node : (t : Table) (nodes : List NodeEntry) (r : Roots) → intact_node_fault t nodes r ≡ None → is_type FOLDER r.top ≡ true → tables_fault t nodes r ≡ None
folder_node t nodes r none kind = sym (as_folder t nodes r (eqb-true (type_of r.top) FOLDER kind)) ∙ none

tables_pc : (t : Table) (nodes : List NodeEntry) (r : Roots) → tables_fault t nodes r ≡ None → pc_fault t r ≡ None
unfolding tables_fault
tables_pc t nodes r none = (none_then (pc_fault t r) _ none).0

pub folder_properties : (t u : Table) (nodes : List NodeEntry) (node : Node) → u ≡ t → is_folder (top_of node) ≡ true → intact_node_fault t nodes (roots_of node) ≡ None → pc_fault u (roots_of node) ≡ None
folder_properties t u nodes node same kind none =
    let r = roots_of node in
    rw same (either (is_type FOLDER r.top) (is_type SEARCH_FOLDER r.top) kind
    (λ e. tables_pc t nodes r (folder_node t nodes r none e))
    (λ e. sym (as_search t nodes r (eqb-true (type_of r.top) SEARCH_FOLDER e)) ∙ none))

one_table : (t : Table) (nodes : List NodeEntry) (items : Items) (r : Roots) → tables_fault t nodes r ≡ None → listing_fault t nodes items r.top ≡ None
unfolding tables_fault
one_table t nodes items r none =
    let a = listing_fault t nodes Subfolders r.top in
    let b = listing_fault t nodes Messages r.top in
    let c = listing_fault t nodes Associated r.top in
    let p = none_then (pc_fault t r) (a then b then c) none in
    let q = none_then a (b then c) p.1 in
    let s = none_then b c q.1 in
    of_items items q.0 s.0 s.1
  where
    of_items : (items : Items) → listing_fault t nodes Subfolders r.top ≡ None → listing_fault t nodes Messages r.top ≡ None → listing_fault t nodes Associated r.top ≡ None → listing_fault t nodes items r.top ≡ None
    of_items Subfolders a b c = a
    of_items Messages a b c = b
    of_items Associated a b c = c

table_there : (t : Table) (nodes : List NodeEntry) (items : Items) (nid : ℕ) (r : Roots) → listing_fault t nodes items nid ≡ None → Some r ≡ listing_of nodes items nid → tc_fault t r ≡ None
unfolding listing_fault
table_there t nodes items nid r none is = ap (if_there (tc_fault t)) is ∙ none

pub folder_tables : (t u : Table) (nodes : List NodeEntry) (node table : Node) (items : Items) → intact_node_fault t nodes (roots_of node) ≡ None → is_type FOLDER (top_of node) ≡ true → Some (roots_of table) ≡ listing_of nodes items (top_of node) → u ≡ t → tc_fault u (roots_of table) ≡ None
folder_tables t u nodes node table items none kind is same =
    rw same (table_there t nodes items (top_of node) (roots_of table) (one_table t nodes items (roots_of node) (folder_node t nodes (roots_of node) none kind)) is)
