-- One property of what a path leads to, and what is written of its value ([MS-PST] 2.3.3).
use Rattle.std.specs.Prelude.{◌≡◌, ℕ, Bool, ◌&&◌, nat_eq, Option, Some, None, Result, Ok, Err, List, if◌then◌else◌}
use Rattle.pst_bytes.specs.declared.Image.{Image}
use Rattle.pst_page.specs.declared.entry.NodeEntry.{NodeEntry}
use Rattle.pst_block.specs.Table.{Table}
use Rattle.pst_btree.specs.Entries.{first_with}
use Rattle.pst_ndb.specs.Roots.{Roots}
use Rattle.pst_value_json.specs.pst_pc.declared.prop.Prop.{Prop}
use Rattle.pst_value_json.specs.pst_pc.LookUps.{HasIdOf}
use Rattle.pst_value_json.specs.pst_pc.Values.{Property, id_of, props_of}
use Rattle.pst_value_json.specs.pst_text.Text.{utf8_of}
use Rattle.pst_props.specs.declared.fault.DocFault.{DocFault}
use Rattle.pst_props.specs.declared.fault.DocFault.TheVariants.{NoProperty}
use Rattle.pst_props.specs.Path.{Place, message, attachment, other, found_at}

-- what the properties of a place are read from
abbrev pub roots_of_place : Place → Roots
roots_of_place (message nid r) = r
roots_of_place (attachment nid r) = r
roots_of_place (other nid r) = r

abbrev pub or_no_property : ℕ → Option Property → Result Property DocFault
or_no_property id None = Err (NoProperty id)
or_no_property id (Some p) = Ok p

-- the property with an identifier of a place that has properties
abbrev pub property_in : Table → ℕ → Result Place DocFault → Result Property DocFault
property_in t id (Err f) = Err f
property_in t id (Ok place) = or_no_property id (first_with id_of id (props_of t (roots_of_place place)))

-- The property with an identifier of what a path leads to.
unfoldable pub property_by_path : Table → List NodeEntry → List ℕ → ℕ → Result Property DocFault
property_by_path t nodes path id = property_in t id (found_at t nodes path)

-- It is lent: it is that of the first record with the identifier in the property context that the path leads to, and its value
-- shows the spans of that record, in the file's own memory.
abbrev pub IsLentAt : Image → Table → List NodeEntry → List ℕ → ℕ → Prop → Type 0
IsLentAt file t nodes path id p = (place : Place) × (found_at t nodes path ≡ Ok place) × HasIdOf file t (roots_of_place place) id p

-- What is written of a property: the bytes of its value as they are; where text is asked for, of one of type 001F the text that
-- they spell, in UTF-8.
abbrev pub written_of : Bool → Property → List ℕ
written_of text p = if text && nat_eq p.kind 0x001F then utf8_of p.bytes else p.bytes
