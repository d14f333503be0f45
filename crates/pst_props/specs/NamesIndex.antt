-- What finds the names of a store.
use Rattle.std.proofs.Props.{props}
use Rattle.std.specs.Prelude.{◌≡◌, Some, List}
use Rattle.pst_page.specs.declared.entry.NodeEntry.{NodeEntry}
use Rattle.pst_block.specs.Table.{Table}
use Rattle.pst_ndb.specs.Roots.{Roots, node_in}
use Rattle.pst_value_json.specs.pst_names.declared.index.NameIndex.{NameIndex}
use Rattle.pst_value_json.specs.pst_names.declared.name_map.TheConstants.{NAME_MAP}
use Rattle.pst_value_json.specs.pst_names.Index.{IsNameIndexOf}
use Rattle.pst_props.specs.declared.names.NamesIndex.{NamesIndex}
use Rattle.pst_ndb.specs.NodeIndexes.{AreNodeIndexes, AreNodeIndexes-prop}

-- it is an index of the entries of the name map, if the store has one
abbrev pub IsEntriesIndex : Table → List NodeEntry → NameIndex → Type 0
IsEntriesIndex t nodes index = (r : Roots) → node_in nodes NAME_MAP ≡ Some r → IsNameIndexOf index t r

-- and those of lists and of data are of their own, among the same blocks
unfoldable pub IsNamesIndex : Table → List NodeEntry → NamesIndex → Type 0
IsNamesIndex t nodes index = IsEntriesIndex t nodes index.names × AreNodeIndexes t index.node

-- which has one proof, so a struct may keep it
pub IsNamesIndex-prop : (t : Table) (nodes : List NodeEntry) (index : NamesIndex) → IsProp (IsNamesIndex t nodes index)
unfolding IsNamesIndex
IsNamesIndex-prop t nodes index = hlevel (props, AreNodeIndexes-prop)
