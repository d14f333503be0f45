-- What a property is called: a number or a string, in a set of names that a GUID names ([MS-PST] 2.4.7).
use Rattle.std.specs.Prelude.{ℕ, ◌+◌, ◌*◌, ◌-◌, nat_eq, if◌then◌else◌, List, [], ◌∷◌, slice_range, Option, Some, None, option_map}
use Rattle.pst_bytes.specs.Image.{num}
use Rattle.uuid.specs.Parts.{swap_fields}
use Rattle.pst_page.specs.declared.entry.NodeEntry.{NodeEntry}
use Rattle.pst_block.specs.Table.{Table}
use Rattle.pst_btree.specs.Entries.{first_with}
use Rattle.pst_ndb.specs.Roots.{Roots, node_in}
use Rattle.pst_names.specs.declared.name_map.TheConstants.{NAME_MAP}
use Rattle.pst_names.specs.declared.streams.TheConstants.{GUIDS}
use Rattle.pst_names.specs.Streams.{stream_of, stream_bytes}
use Rattle.pst_names.specs.Entry.{NameEntry, is_text, guid_index, prop_id}
use Rattle.pst_names.specs.Fault.{strings_of, all_entries}

-- a name within its set: a number, or the bytes of a string, UTF-16
pub data KindParts : Type 0 where
  by_number : ℕ → KindParts
  by_text : List ℕ → KindParts

-- what is told of a name: the bytes of the GUID of its set, if it is in one, and the name
pub record NameParts : Type 0 where
  pub set : Option (List ℕ)
  pub kind : KindParts

-- 00020328-0000-0000-C000-000000000046, PS_MAPI
abbrev pub ps_mapi : List ℕ
ps_mapi = 0x00 ∷ 0x02 ∷ 0x03 ∷ 0x28 ∷ 0x00 ∷ 0x00 ∷ 0x00 ∷ 0x00 ∷ 0xC0 ∷ 0x00 ∷ 0x00 ∷ 0x00 ∷ 0x00 ∷ 0x00 ∷ 0x00 ∷ 0x46 ∷ []

-- 00020329-0000-0000-C000-000000000046, PS_PUBLIC_STRINGS
abbrev pub ps_public_strings : List ℕ
ps_public_strings = 0x00 ∷ 0x02 ∷ 0x03 ∷ 0x29 ∷ 0x00 ∷ 0x00 ∷ 0x00 ∷ 0x00 ∷ 0xC0 ∷ 0x00 ∷ 0x00 ∷ 0x00 ∷ 0x00 ∷ 0x00 ∷ 0x00 ∷ 0x46 ∷ []

-- the GUID with a number in the GUID stream, whose first three fields stand low byte first
abbrev pub guid_in : List ℕ → ℕ → List ℕ
guid_in guids g = swap_fields (slice_range guids (16 * g) (16 * g + 16))

-- the set with an index: none, the two that are always there, and those of the GUID stream from its first one on
unfoldable pub set_with : List ℕ → ℕ → Option (List ℕ)
set_with guids index =
    if nat_eq index 0 then None
    else if nat_eq index 1 then Some ps_mapi
    else if nat_eq index 2 then Some ps_public_strings
    else Some (guid_in guids (index - 3))

-- the bytes of the string that stands at an offset
abbrev pub text_at : List ℕ → ℕ → List ℕ
text_at strings at = slice_range strings (at + 4) (at + 4 + num strings at 4)

unfoldable pub name_kind : List ℕ → NameEntry → KindParts
name_kind strings e = if is_text e then by_text (text_at strings e.id) else by_number e.id

-- the name that an entry gives
abbrev pub name_in : List ℕ → List ℕ → NameEntry → NameParts
name_in guids strings e = record { set = set_with guids (guid_index e); kind = name_kind strings e }

-- the entry that names the property with an identifier: the first one, where several do
abbrev pub naming_entry : Table → Roots → ℕ → Option NameEntry
naming_entry t r id = first_with prop_id id (all_entries t r)

-- what it is called; none exactly where no entry names it
unfoldable pub name_of_property : Table → Roots → ℕ → Option NameParts
name_of_property t r id = option_map (name_in (stream_bytes (stream_of t r GUIDS)) (strings_of t r)) (naming_entry t r id)

-- the same by a name map that may not be there
abbrev pub name_there : Table → Option Roots → ℕ → Option NameParts
name_there t None id = None
name_there t (Some r) id = name_of_property t r id

-- what it is called in a store with these blocks and nodes
unfoldable pub store_name : Table → List NodeEntry → ℕ → Option NameParts
store_name t nodes id = name_there t (node_in nodes NAME_MAP) id
