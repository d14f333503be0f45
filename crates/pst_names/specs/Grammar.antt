-- The grammar of the name map ([MS-PST] 2.4.7). It speaks of no fault.
use Rattle.std.specs.Prelude.{◌≡◌, ℕ, ◌+◌, ◌<◌, ◌≤◌, ◌*◌, true, List, length, Option, Some, None, ⊤}
use Rattle.std.specs.List.{Contains}
use Rattle.pst_bytes.specs.Image.{num}
use Rattle.pst_block.specs.Table.{Table}
use Rattle.pst_ndb.specs.Roots.{Roots}
use Rattle.pst_pc.specs.Values.{Property}
use Rattle.pst_names.specs.declared.streams.TheConstants.{GUIDS, ENTRIES, STRINGS}
use Rattle.pst_names.specs.Streams.{stream_of, stream_bytes}
use Rattle.pst_names.specs.Entry.{NameEntry, is_text, guid_index}
use Rattle.pst_names.specs.Fault.{guids_count, strings_of, all_entries}

-- a stream that is there has type 0102, binary
abbrev pub IsBinary : Option Property → Type 0
IsBinary None = ⊤
IsBinary (Some p) = p.kind ≡ 0x0102

-- a stream is so many parts of a width, one after another
abbrev pub HasWholeParts : ℕ → Option Property → Type 0
HasWholeParts width o = (n : ℕ) × (length (stream_bytes o) ≡ width * n)

-- a string stands at an offset: its length in bytes, 4 bytes, and as many bytes (2.4.7.4)
abbrev pub HasText : List ℕ → ℕ → Type 0
HasText strings at = (at + 4 ≤ length strings) × (at + 4 + num strings at 4 ≤ length strings)

-- An entry (2.4.7.1) of a map with so many GUIDs and with these strings.
pub record IsEntry (guids : ℕ) (strings : List ℕ) (e : NameEntry) : Type 0 where
  -- its set: 0 none, 1 PS_MAPI, 2 PS_PUBLIC_STRINGS, 3 and up a GUID of the GUID stream, from the first one on
  pub set : guid_index e < 3 + guids
  -- its name, where that is a string
  pub text : is_text e ≡ true → HasText strings e.id

-- the streams, with entries that are good
pub record IsNameMap (t : Table) (r : Roots) : Type 0 where
  pub guids : IsBinary (stream_of t r GUIDS)
  pub entries : IsBinary (stream_of t r ENTRIES)
  pub strings : IsBinary (stream_of t r STRINGS)
  pub whole_guids : HasWholeParts 16 (stream_of t r GUIDS)
  pub whole_entries : HasWholeParts 8 (stream_of t r ENTRIES)
  pub each : (e : NameEntry) → Contains (all_entries t r) e → IsEntry (guids_count t r) (strings_of t r) e
