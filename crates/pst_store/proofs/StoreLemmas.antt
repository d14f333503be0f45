-- What a store stands on.
use Rattle.std.proofs.Common.{◌≡◌, ℕ, Bool, true, false, List, [], ◌∷◌, cond, eqb, Option, Some, None, refl, sym, ap, ◌∙◌}
use Rattle.std.specs.Prelude.{IfSome, option_map}
use Rattle.pst_bytes.specs.declared.Image.{Image}
use Rattle.pst_fault.specs.declared.fault.Fault.{Fault}
use Rattle.pst_fault.specs.Each.{first_of, if_there}
use Rattle.pst_fault.specs.First.{◌then◌}
use Rattle.pst_fault.proofs.FirstLemmas.{none_then}
use Rattle.pst_header.specs.declared.header.Header.{Header}
use Rattle.pst_header.specs.Header.{fields}
use Rattle.pst_page.specs.declared.entry.NodeEntry.{NodeEntry}
use Rattle.pst_btree.specs.Entries.{first_with, node_with}
use Rattle.pst_block.specs.Table.{Table}
use Rattle.pst_ndb.specs.declared.node.Node.{Node}
use Rattle.pst_ndb.specs.Entries.{block_table, node_list}
use Rattle.pst_ndb.specs.Fault.{ndb_fault}
use Rattle.pst_ndb.specs.Roots.{Roots, entry_roots, node_in, all_roots}
use Rattle.pst_ndb.specs.Views.{image_of_node, table_of_node, top_of, roots_of}
use Rattle.pst_msg.specs.pst_pc.Fault.{pc_fault}
use Rattle.pst_msg.proofs.pst_pc.PcLaws.{pc_none}
use Rattle.pst_msg.specs.pst_mail.declared.nid.TheConstants.{STORE, ROOT}
use Rattle.pst_msg.specs.Values.{is_folder, is_message}
use Rattle.pst_msg.specs.Fault.{message_fault, required_fault, name_map_fault, typed_node_fault, messaging_fault}
use Rattle.pst_msg.specs.pst_names.declared.name_map.TheConstants.{NAME_MAP}
use Rattle.pst_msg.specs.pst_names.declared.name.Name.{Name}
use Rattle.pst_msg.specs.pst_names.declared.name_map.NameMap.{NameMap}
use Rattle.pst_msg.specs.pst_names.Fault.{names_fault}
use Rattle.pst_msg.specs.pst_names.Name.{name_of_property, store_name}
use Rattle.pst_msg.specs.pst_names.View.{node_of_names, names_roots, name_parts, IsLent, IsLentIn}
use Rattle.pst_msg.proofs.pst_names.NameLaws.{names_none}
use Rattle.pst_msg.proofs.ContentsLaws.{none_required, none_are_names}
use Rattle.pst_msg.proofs.FolderLemmas.{of_message}
use Rattle.pst_store.specs.Parts.{parts_table, parts_entries}
use Rattle.pst_store.specs.Fault.{store_fault}
use Rattle.pst_store.specs.Values.{store_in}
use Rattle.pst_store.proofs.StoreLaws.{table_is as table_spelt, entries_are as entries_spelt, halves_store}

-- ---- a store, and its node database

pub is_store : (I : List ℕ) (h : Header) (t : Table) (nodes : List NodeEntry) → ndb_fault I ≡ None → h ≡ fields I → t ≡ block_table I h → nodes ≡ node_list I h → messaging_fault t nodes ≡ None → store_fault I ≡ None
is_store I h t nodes sound is table entries none =
    let a : t ≡ block_table I (fields I) = table ∙ ap (block_table I) is in
    let b : nodes ≡ node_list I (fields I) = entries ∙ ap (node_list I) is in
    halves_store I sound (rw (a, b) at none)

pub header_is : (I : List ℕ) (h : Header) → h ≡ fields I → h ≡ (store_in I).header
unfolding store_in
header_is I h is = is

pub table_is : (I : List ℕ) (h : Header) (t : Table) → h ≡ fields I → t ≡ block_table I h → t ≡ parts_table I (store_in I)
table_is I h t is table = table ∙ ap (block_table I) is ∙ sym (table_spelt I)

pub entries_are : (I : List ℕ) (h : Header) (nodes : List NodeEntry) → h ≡ fields I → nodes ≡ node_list I h → nodes ≡ parts_entries I (store_in I)
entries_are I h nodes is entries = entries ∙ ap (node_list I) is ∙ sym (entries_spelt I)

-- ---- the parts of messaging

record Parts (t : Table) (nodes : List NodeEntry) : Type 0 where
  store : required_fault t nodes STORE ≡ None
  root : required_fault t nodes ROOT ≡ None
  names : if_there (name_map_fault t) (node_in nodes NAME_MAP) ≡ None
  each : first_of (typed_node_fault t nodes) (all_roots nodes) ≡ None

parts : (t : Table) (nodes : List NodeEntry) → messaging_fault t nodes ≡ None → Parts t nodes
unfolding messaging_fault
parts t nodes none =
    let p = none_then (required_fault t nodes STORE) (required_fault t nodes ROOT then if_there (name_map_fault t) (node_in nodes NAME_MAP) then first_of (typed_node_fault t nodes) (all_roots nodes)) none in
    let q = none_then (required_fault t nodes ROOT) (if_there (name_map_fault t) (node_in nodes NAME_MAP) then first_of (typed_node_fault t nodes) (all_roots nodes)) p.1 in
    let s = none_then (if_there (name_map_fault t) (node_in nodes NAME_MAP)) (first_of (typed_node_fault t nodes) (all_roots nodes)) q.1 in
    record { store = p.0; root = q.0; names = s.0; each = s.1 }

pub nodes_sound : (t : Table) (nodes : List NodeEntry) → messaging_fault t nodes ≡ None → first_of (typed_node_fault t nodes) (all_roots nodes) ≡ None
nodes_sound t nodes none = (parts t nodes none).each

pub store_there : (t : Table) (nodes : List NodeEntry) → messaging_fault t nodes ≡ None → None ≡ node_in nodes STORE → ⊥
store_there t nodes none is = let found = none_required t nodes STORE (parts t nodes none).store in let bad : None ≡ Some found.0 = is ∙ found.1 in cc

pub store_properties : (t : Table) (nodes : List NodeEntry) (node : Node) → messaging_fault t nodes ≡ None → Some (roots_of node) ≡ node_in nodes STORE → table_of_node node ≡ t → pc_fault (table_of_node node) (roots_of node) ≡ None
store_properties t nodes node none is same =
    let found = none_required t nodes STORE (parts t nodes none).store in
    let here : Some (roots_of node) ≡ Some found.0 = is ∙ found.1 in
    let r : roots_of node ≡ found.0 = cc in
    rw (same, r) (pc_none t found.0 found.2)

pub root_there : (t : Table) (nodes : List NodeEntry) → messaging_fault t nodes ≡ None → None ≡ node_in nodes ROOT → ⊥
root_there t nodes none is = let found = none_required t nodes ROOT (parts t nodes none).root in let bad : None ≡ Some found.0 = is ∙ found.1 in cc

pub root_kind : (node : Node) → top_of node ≡ ROOT → is_folder (top_of node) ≡ true
root_kind node is = rw is refl

-- ---- the name map, where it is there

pub names_properties : (t : Table) (nodes : List NodeEntry) (node : Node) → messaging_fault t nodes ≡ None → Some (roots_of node) ≡ node_in nodes NAME_MAP → table_of_node node ≡ t → pc_fault (table_of_node node) (roots_of node) ≡ None
names_properties t nodes node none is same = rw same (pc_none t (roots_of node) (none_are_names t nodes (parts t nodes none).names (roots_of node) (sym is)).0)

pub names_sound : (t : Table) (nodes : List NodeEntry) (node : Node) → messaging_fault t nodes ≡ None → Some (roots_of node) ≡ node_in nodes NAME_MAP → table_of_node node ≡ t → names_fault (table_of_node node) (roots_of node) ≡ None
names_sound t nodes node none is same = rw same (names_none t (roots_of node) (none_are_names t nodes (parts t nodes none).names (roots_of node) (sym is)).1)

-- what a property is called by it, and by none
pub name_is : (t : Table) (nodes : List NodeEntry) (m : NameMap) (id : ℕ) (found : Option Name) → Some (names_roots m) ≡ node_in nodes NAME_MAP → table_of_node (node_of_names m) ≡ t → option_map name_parts found ≡ name_of_property (table_of_node (node_of_names m)) (names_roots m) id → option_map name_parts found ≡ store_name t nodes id
unfolding store_name
name_is t nodes m id found is same named = rw (← is, ← same) named

pub no_name : (t : Table) (nodes : List NodeEntry) (id : ℕ) → None ≡ node_in nodes NAME_MAP → None ≡ store_name t nodes id
unfolding store_name
no_name t nodes id is = rw (← is) refl

pub name_lent : (file : Image) (t : Table) (nodes : List NodeEntry) (m : NameMap) (id : ℕ) (found : Option Name) → Some (names_roots m) ≡ node_in nodes NAME_MAP → image_of_node (node_of_names m) ≡ file → table_of_node (node_of_names m) ≡ t
    → IfSome found (IsLent (image_of_node (node_of_names m)) (table_of_node (node_of_names m)) (names_roots m) id) → IfSome found (IsLentIn file t nodes id)
name_lent file t nodes m id None is own same lent = tt
name_lent file t nodes m id (Some n) is own same lent = (names_roots m, sym is, rw (← own, ← same) lent)

-- ---- a node that is found

found_entry : (part : Roots → Option Fault) (nid : ℕ) (nodes : List NodeEntry) (r : Roots) → first_of part (all_roots nodes) ≡ None → option_map entry_roots (node_with nid nodes) ≡ Some r → part r ≡ None
unfolding first_of first_with
found_entry part nid [] r none found = absurd cc
found_entry part nid (e ∷ rest) r none found =
    let both = none_then (part (entry_roots e)) (first_of part (all_roots rest)) none in
    by_test (eqb e.nid nid) both.0 (λ h. found_entry part nid rest r both.1 h) found
  where
    by_test : (here : Bool) → part (entry_roots e) ≡ None → (option_map entry_roots (node_with nid rest) ≡ Some r → part r ≡ None) → option_map entry_roots (cond here (Some e) (node_with nid rest)) ≡ Some r → part r ≡ None
    by_test true this later h = let same : entry_roots e ≡ r = cc in ap part (sym same) ∙ this
    by_test false this later h = later h

node_found : (part : Roots → Option Fault) (nid : ℕ) (nodes : List NodeEntry) (r : Roots) → first_of part (all_roots nodes) ≡ None → node_in nodes nid ≡ Some r → part r ≡ None
unfolding node_in
node_found part nid nodes r none found = found_entry part nid nodes r none found

pub node_sound : (t : Table) (nodes : List NodeEntry) (node : Node) (nid : ℕ) → messaging_fault t nodes ≡ None → Some (roots_of node) ≡ node_in nodes nid → typed_node_fault t nodes (roots_of node) ≡ None
node_sound t nodes node nid none is = node_found (typed_node_fault t nodes) nid nodes (roots_of node) (parts t nodes none).each (sym is)

pub kind_found : (node : Node) (nid : ℕ) → top_of node ≡ nid → is_folder nid ≡ true → is_folder (top_of node) ≡ true
kind_found node nid is kind = rw is kind

-- a node of a message's type is a message
pub message_sound : (t u : Table) (nodes : List NodeEntry) (node : Node) → typed_node_fault t nodes (roots_of node) ≡ None → u ≡ t → is_message (top_of node) ≡ true → message_fault u (roots_of node) ≡ None
message_sound t u nodes node none same kind = rw same (of_message t nodes (roots_of node) none kind)

pub message_found : (t : Table) (nodes : List NodeEntry) (node : Node) (nid : ℕ) → messaging_fault t nodes ≡ None → Some (roots_of node) ≡ node_in nodes nid → table_of_node node ≡ t → top_of node ≡ nid → is_message nid ≡ true → message_fault (table_of_node node) (roots_of node) ≡ None
message_found t nodes node nid none is same top kind = message_sound t (table_of_node node) nodes node (node_sound t nodes node nid none is) same (rw top kind)
