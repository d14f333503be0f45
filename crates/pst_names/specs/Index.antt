-- An index of a name map: of each property the entry that names it.
use Rattle.std.specs.Prelude.{◌≡◌, ℕ, ◌+◌, ◌-◌, ◌<◌, ◌≤◌, Bool, true, nat_eq, if◌then◌else◌, List, Option, Some, None, is_some, option_map}
use Rattle.std.specs.Option.{option_or}
use Rattle.std.specs.Ordering.{nat_cmp}
use Rattle.std.specs.BTreeMap.{get}
use Rattle.pst_bytes.specs.Image.{num}
use Rattle.pst_block.specs.Table.{Table}
use Rattle.pst_btree.specs.Entries.{first_with}
use Rattle.pst_ndb.specs.declared.node.Node.{Node}
use Rattle.pst_ndb.specs.Roots.{Roots}
use Rattle.pst_ndb.specs.Views.{table_of_node, roots_of}
use Rattle.pst_names.specs.declared.fields.Fields.{Fields}
use Rattle.pst_names.specs.declared.index.NameIndex.{NameIndex}
use Rattle.pst_names.specs.Entry.{NameEntry, entry_in, name_entry_bytes, name_entries, prop_id}
use Rattle.pst_names.specs.Name.{naming_entry}

-- the fields of an entry, wherever it lies
abbrev pub fields_in : NameEntry → Fields
fields_in e = record { id = e.id; word = e.word; index = e.index }

-- those of the entry that names a property, the first one where several do
abbrev pub naming_fields : Table → Roots → ℕ → Option Fields
naming_fields t r id = option_map fields_in (naming_entry t r id)

-- what an index notes of a property
unfoldable pub noted : NameIndex → ℕ → Option Fields
noted i id = get nat_cmp i.entries id

-- it is one of the name map of a node: it notes of each property the entry that names it
abbrev pub IsNameIndexOf : NameIndex → Table → Roots → Type 0
IsNameIndexOf i t r = (id : ℕ) → noted i id ≡ naming_fields t r id

abbrev pub NamesBy : Node → NameIndex → Type 0
NamesBy node i = IsNameIndexOf i (table_of_node node) (roots_of node)

-- ---- while it is made

-- an entry, where it names a property
abbrev pub if_names : Fields → ℕ → Option Fields
if_names f id = if nat_eq (0x8000 + f.index) id then Some f else None

-- What is known of a property where these entries are left: what is noted of it comes before them.
unfoldable pub known_of : NameIndex → ℕ → List NameEntry → Option Fields
known_of i id left = option_or (noted i id) (option_map fields_in (first_with prop_id id left))

-- something is noted of the property that the 8 bytes of an entry name
unfoldable pub is_noted : NameIndex → List ℕ → Bool
is_noted i bytes = is_some (noted i (0x8000 + num bytes 6 2))

-- The first entries of a run of bytes, so many, were gone by.
pub record HasNoted (old new : NameIndex) (bytes : List ℕ) (n : ℕ) : Type 0 where
  -- wherever they stand among all entries, what is known of a property stays as they are left behind
  pub known : (entry : ℕ → NameEntry) (i count id : ℕ) → ((j : ℕ) → j < n → fields_in (entry (i + j)) ≡ fields_in (entry_in 0 (name_entry_bytes bytes j))) → i + n ≤ count
      → known_of new id (name_entries entry (i + n) (count - (i + n))) ≡ known_of old id (name_entries entry i (count - i))
  -- what was noted stays noted, and what they name is
  pub keeps : (e : List ℕ) → is_noted old e ≡ true → is_noted new e ≡ true
  pub there : (j : ℕ) → j < n → is_noted new (name_entry_bytes bytes j) ≡ true
