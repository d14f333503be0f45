-- The first fault of the name map of a node that is a property context: of the types of its streams in order, of the lengths of
-- the GUID stream and of the entry stream, then of the entries in order.
use Rattle.std.specs.Prelude.{ℕ, ◌+◌, ◌/◌, ◌%◌, Bool, true, ◌&&◌, nat_eq, nat_le, nat_lt, if◌then◌else◌, List, length, Option, Some, None, option_map}
use Rattle.pst_bytes.specs.Image.{num}
use Rattle.pst_fault.specs.declared.fault.Fault.{Fault}
use Rattle.pst_fault.specs.declared.kind.Kind.TheVariants.{Property as BadProperty}
use Rattle.pst_fault.specs.Each.{first_of}
use Rattle.pst_fault.specs.Fault.{fault_at}
use Rattle.pst_fault.specs.First.{◌then◌, holds_or}
use Rattle.pst_block.specs.Table.{Table}
use Rattle.pst_ndb.specs.Roots.{Roots}
use Rattle.pst_heap.specs.Fault.{told_under}
use Rattle.pst_pc.specs.Values.{Property}
use Rattle.pst_names.specs.declared.streams.TheConstants.{GUIDS, ENTRIES, STRINGS}
use Rattle.pst_names.specs.Streams.{stream_of, stream_bytes, stream_place, stream_spans}
use Rattle.pst_names.specs.Entry.{NameEntry, is_text, guid_index, entries_of}

-- ---- a stream

-- a stream that is there has type 0102, binary; told where its first byte lies
abbrev pub type_fault : Option Property → Option Fault
type_fault None = None
type_fault (Some p) = holds_or (nat_eq p.kind 0x0102) (fault_at BadProperty p.at)

-- its length is a multiple of a width
abbrev pub width_fault : ℕ → Option Property → Option Fault
width_fault width o = holds_or (nat_eq (length (stream_bytes o) % width) 0) (fault_at BadProperty (stream_place o))

-- ---- an entry

-- a string stands at an offset: its length in bytes, 4 bytes, and as many bytes
unfoldable pub has_text : List ℕ → ℕ → Bool
has_text strings at = nat_le (at + 4) (length strings) && nat_le (at + 4 + num strings at 4) (length strings)

-- of a map with so many GUIDs and with these strings: its set is there, and the string that is its name
unfoldable pub is_entry : ℕ → List ℕ → NameEntry → Bool
is_entry guids strings e = nat_lt (guid_index e) (3 + guids) && (if is_text e then has_text strings e.id else true)

-- told at its first byte
unfoldable pub name_entry_fault : ℕ → List ℕ → NameEntry → Option Fault
name_entry_fault guids strings e = holds_or (is_entry guids strings e) (fault_at BadProperty e.at)

-- ---- all entries, and the map

abbrev pub guids_count : Table → Roots → ℕ
guids_count t r = length (stream_bytes (stream_of t r GUIDS)) / 16

abbrev pub strings_of : Table → Roots → List ℕ
strings_of t r = stream_bytes (stream_of t r STRINGS)

abbrev pub all_entries : Table → Roots → List NameEntry
all_entries t r = entries_of (stream_spans t r ENTRIES) (stream_bytes (stream_of t r ENTRIES))

unfoldable pub entries_fault : Table → Roots → Option Fault
entries_fault t r = first_of (name_entry_fault (guids_count t r) (strings_of t r)) (all_entries t r)

-- of the streams: their types in order, then the lengths of the first two
unfoldable pub streams_fault : Table → Roots → Option Fault
streams_fault t r =
    type_fault (stream_of t r GUIDS) then type_fault (stream_of t r ENTRIES) then type_fault (stream_of t r STRINGS)
    then width_fault 16 (stream_of t r GUIDS) then width_fault 8 (stream_of t r ENTRIES)

-- of the streams, then of the entries; told of the node
unfoldable pub names_fault : Table → Roots → Option Fault
names_fault t r = option_map (told_under r) (streams_fault t r then entries_fault t r)
