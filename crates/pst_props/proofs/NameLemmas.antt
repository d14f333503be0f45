-- What properties are called in a store, by its name map, and an index of it.
use Rattle.std.proofs.Common.{◌≡◌, ℕ, List, Option, Some, None, sym, ap, ◌∙◌}
use Rattle.pst_page.specs.declared.entry.NodeEntry.{NodeEntry}
use Rattle.pst_block.specs.Table.{Table}
use Rattle.pst_ndb.specs.Roots.{Roots, node_in}
use Rattle.pst_ndb.specs.Views.{table_of_node}
use Rattle.pst_value_json.specs.pst_names.declared.index.NameIndex.{NameIndex}
use Rattle.pst_value_json.specs.pst_names.declared.name_map.NameMap.{NameMap}
use Rattle.pst_value_json.specs.pst_names.declared.name_map.TheConstants.{NAME_MAP}
use Rattle.pst_value_json.specs.pst_names.Index.{NamesBy}
use Rattle.pst_value_json.specs.pst_names.Name.{name_of_property, name_there, store_name}
use Rattle.pst_value_json.specs.pst_names.View.{node_of_names, names_roots}
use Rattle.pst_value_json.specs.Props.{names_told}
use Rattle.pst_props.specs.NamesIndex.{IsEntriesIndex}

-- ---- what they are called

pub told_none : (t : Table) (nodes : List NodeEntry) → None ≡ node_in nodes NAME_MAP → names_told None ≡ store_name t nodes
unfolding store_name
told_none t nodes none = ap (λ (o : Option Roots). λ (id : ℕ). name_there t o id) none

pub told_some : (m : NameMap) (t : Table) (nodes : List NodeEntry) → table_of_node (node_of_names m) ≡ t → Some (names_roots m) ≡ node_in nodes NAME_MAP → names_told (Some m) ≡ store_name t nodes
unfolding store_name
told_some m t nodes table roots =
    ap (λ (x : Table). λ (id : ℕ). name_of_property x (names_roots m) id) table ∙ ap (λ (o : Option Roots). λ (id : ℕ). name_there t o id) roots

-- ---- an index

pub index_none : (t : Table) (nodes : List NodeEntry) (i : NameIndex) → None ≡ node_in nodes NAME_MAP → IsEntriesIndex t nodes i
index_none t nodes i none r is = absurd (let bad : None ≡ Some r = none ∙ is in cc)

pub index_some : (m : NameMap) (t : Table) (nodes : List NodeEntry) (i : NameIndex) → table_of_node (node_of_names m) ≡ t → Some (names_roots m) ≡ node_in nodes NAME_MAP → NamesBy (node_of_names m) i → IsEntriesIndex t nodes i
index_some m t nodes i table roots by r is id =
    let all : Some (names_roots m) ≡ Some r = roots ∙ is in
    let same : names_roots m ≡ r = cc in
    rw (table, same) at (by id)

-- of the map that is there
pub index_lent : (m : NameMap) (t : Table) (nodes : List NodeEntry) (i : NameIndex) → table_of_node (node_of_names m) ≡ t → Some (names_roots m) ≡ node_in nodes NAME_MAP → IsEntriesIndex t nodes i → NamesBy (node_of_names m) i
index_lent m t nodes i table roots is id = rw (← table) at (is (names_roots m) (sym roots) id)
