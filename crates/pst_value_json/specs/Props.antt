-- The documents of properties.
use Rattle.std.specs.Prelude.{ℕ, Bool, Option, Some, None, option_map, List, codes}
use Rattle.serde_json.specs.Data.{Data, null, string, object, member, no_members}
use Rattle.pst_bytes.specs.declared.span.Span.{Span}
use Rattle.pst_block.specs.Table.{Table}
use Rattle.pst_ndb.specs.Roots.{Roots}
use Rattle.pst_ndb.specs.Views.{table_of_node, roots_of}
use Rattle.pst_names.specs.declared.name_map.NameMap.{NameMap}
use Rattle.pst_names.specs.Name.{KindParts, by_number, by_text, NameParts, name_of_property}
use Rattle.pst_names.specs.View.{node_of_names}
use Rattle.pst_pc.specs.Values.{Property, property_at, spans_in}
use Rattle.pst_value_json.specs.declared.filed.Filed.{Filed}
use Rattle.pst_value_json.specs.Filed.{file_told}
use Rattle.pst_text.specs.Names.{id_text}
use Rattle.pst_text.specs.Parts.{natural}
use Rattle.pst_value_json.specs.Places.{places_of, places_data, if_asked, member_if}
use Rattle.pst_text.specs.Text.{guid_data, text_data}
use Rattle.pst_value_json.specs.Value.{value_data}

-- ---- a name: a number, or a text as a value of type 001F; and the GUID of its set, or null

abbrev pub kind_data : KindParts → Data
kind_data (by_number n) = natural n
kind_data (by_text bytes) = text_data bytes

abbrev pub set_data : Option (List ℕ) → Data
set_data None = null
set_data (Some guid) = guid_data guid

abbrev pub called_data : NameParts → Data
called_data name = kind_data name.kind

abbrev pub set_of_data : NameParts → Data
set_of_data name = set_data name.set

-- ---- a property: its identifier, its name where it has one, its places where they are told, the set of its name, its type and
-- ---- its value

unfoldable pub prop_data : Option NameParts → Option (List Span) → Property → Data
prop_data name places p =
    object
    (member (codes "id") (string (id_text p.id))
    (member_if (codes "name") (option_map called_data name)
    (member_if (codes "places") (option_map places_data places)
    (member_if (codes "set") (option_map set_of_data name)
    (member (codes "type") (string (id_text p.kind))
    (member (codes "value") (value_data p.kind p.bytes)
    no_members))))))

-- one whose value has a file of its own: the name of that file, and no value
unfoldable pub filed_data : List ℕ → Option NameParts → Option (List Span) → Property → Data
filed_data file name places p =
    object
    (member (codes "file") (string file)
    (member (codes "id") (string (id_text p.id))
    (member_if (codes "name") (option_map called_data name)
    (member_if (codes "places") (option_map places_data places)
    (member_if (codes "set") (option_map set_of_data name)
    (member (codes "type") (string (id_text p.kind))
    no_members))))))

-- one of both
abbrev pub shown_data : Option (List ℕ) → Option NameParts → Option (List Span) → Property → Data
shown_data None name places p = prop_data name places p
shown_data (Some file) name places p = filed_data file name places p

-- a property, where the values of these have files
abbrev pub filed_prop_data : Filed → Option NameParts → Option (List Span) → Property → Data
filed_prop_data filed name places p = shown_data (file_told filed p.id p.kind) name places p

-- that of a record of a property context, of which properties are called so
abbrev pub record_data : (ℕ → Option NameParts) → Filed → Bool → Table → Roots → ℕ × Span → Data
record_data names filed places t r x =
    filed_prop_data filed (names x.0) (if_asked places (places_of t.image (spans_in t r x))) (property_at t r x)

-- what properties are called by a name map; where there is none, no property has a name
abbrev pub names_told : Option NameMap → ℕ → Option NameParts
names_told None id = None
names_told (Some map) id = name_of_property (table_of_node (node_of_names map)) (roots_of (node_of_names map)) id
