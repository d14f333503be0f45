-- What a contract sees of a name map and of a name.
use Rattle.std.specs.Prelude.{◌≡◌, ℕ, ◌+◌, List, Some, ⊤}
use Rattle.pst_bytes.specs.declared.Image.{Image}
use Rattle.pst_bytes.specs.Image.{num}
use Rattle.pst_page.specs.declared.entry.NodeEntry.{NodeEntry}
use Rattle.pst_block.specs.Table.{Table}
use Rattle.pst_datatree.specs.declared.value_view.Value.{Value}
use Rattle.pst_datatree.specs.Shown.{ShowsSpans, IsPart, bytes_in}
use Rattle.pst_ndb.specs.declared.node.Node.{Node}
use Rattle.pst_ndb.specs.Roots.{Roots, node_in}
use Rattle.pst_ndb.specs.Views.{roots_of}
use Rattle.pst_pc.specs.View.{node_of_pc}
use Rattle.pst_names.specs.declared.name.Name.{Name}
use Rattle.pst_names.specs.declared.name.NameKind.{NameKind}
use Rattle.pst_names.specs.declared.name.NameKind.TheVariants.{Num, Text}
use Rattle.pst_names.specs.declared.name_map.NameMap.{NameMap}
use Rattle.pst_names.specs.declared.name_map.TheConstants.{NAME_MAP}
use Rattle.pst_names.specs.declared.streams.TheConstants.{STRINGS}
use Rattle.pst_names.specs.Streams.{stream_spans}
use Rattle.pst_names.specs.Entry.{NameEntry}
use Rattle.pst_names.specs.Fault.{strings_of}
use Rattle.pst_names.specs.Name.{KindParts, by_number, by_text, NameParts, naming_entry}

-- the node whose properties its streams are
abbrev pub node_of_names : NameMap → Node
node_of_names m = node_of_pc m.pc

abbrev pub names_roots : NameMap → Roots
names_roots m = roots_of (node_of_names m)

-- what is told of a name
abbrev pub kind_parts : NameKind → KindParts
kind_parts (Num n) = by_number n
kind_parts (Text v) = by_text (bytes_in v)

abbrev pub name_parts : Name → NameParts
name_parts n = record { set = n.set; kind = kind_parts n.kind }

-- A string is what stands at an offset of the string stream of the map with these roots (2.4.7.4), in the file's own memory: behind
-- the 4 bytes of its length as many bytes as that.
abbrev pub IsTextOf : Image → Table → Roots → ℕ → Value → Type 0
IsTextOf file t r at v =
    (all : Value) × ShowsSpans file (stream_spans t r STRINGS) all × IsPart (at + 4) (at + 4 + num (strings_of t r) at 4) all v

-- the name that an entry with this number gives (dwPropertyID): the number, or the string that stands at this offset
abbrev pub IsKindLent : Image → Table → Roots → ℕ → NameKind → Type 0
IsKindLent file t r at (Num n) = ⊤
IsKindLent file t r at (Text v) = IsTextOf file t r at v

-- the name of the property with an identifier: by the very entry that names it
abbrev pub IsLent : Image → Table → Roots → ℕ → Name → Type 0
IsLent file t r id n = (e : NameEntry) × (naming_entry t r id ≡ Some e) × IsKindLent file t r e.id n.kind

-- of the map of a store with these blocks and nodes
abbrev pub IsLentIn : Image → Table → List NodeEntry → ℕ → Name → Type 0
IsLentIn file t nodes id n = (r : Roots) × (node_in nodes NAME_MAP ≡ Some r) × IsLent file t r id n
