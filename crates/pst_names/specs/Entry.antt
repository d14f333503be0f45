-- The entries of the name map (NAMEID, [MS-PST] 2.4.7.1), 8 bytes each, one after another in the entry stream.
use Rattle.std.specs.Prelude.{ℕ, zero, suc, ◌+◌, ◌*◌, ◌/◌, ◌%◌, Bool, nat_eq, List, [], ◌∷◌, length, slice_range}
use Rattle.pst_bytes.specs.declared.span.Span.{Span}
use Rattle.pst_bytes.specs.Image.{num}
use Rattle.pst_names.specs.Streams.{byte_place}

pub record NameEntry : Type 0 where
  -- where its first byte lies in the file
  pub at : ℕ
  -- dwPropertyID: the number that is the name, or where in the string stream the name stands
  pub id : ℕ
  -- bit 0, N: the name is a string; bits 1 to 15, wGuid: the set that the name is of
  pub word : ℕ
  -- wPropIdx
  pub index : ℕ

abbrev pub is_text : NameEntry → Bool
is_text e = nat_eq (e.word % 2) 1

abbrev pub guid_index : NameEntry → ℕ
guid_index e = e.word / 2

-- The identifier of the property that it names. With an index over 0x7FFF that would have more than 16 bits: such an entry names
-- no property.
abbrev pub prop_id : NameEntry → ℕ
prop_id e = 0x8000 + e.index

-- the entry that 8 bytes are, the first of which lies at a place
abbrev pub entry_in : ℕ → List ℕ → NameEntry
entry_in at bytes = record { at = at; id = num bytes 0 4; word = num bytes 4 2; index = num bytes 6 2 }

-- the bytes of the entry with a number
abbrev pub name_entry_bytes : List ℕ → ℕ → List ℕ
name_entry_bytes bytes i = slice_range bytes (8 * i) (8 * i + 8)

-- the entry with a number, of a stream with these spans and bytes
unfoldable pub entry_with : List Span → List ℕ → ℕ → NameEntry
entry_with spans bytes i = entry_in (byte_place spans (8 * i)) (name_entry_bytes bytes i)

-- so many of them, from one on
unfoldable pub name_entries : (ℕ → NameEntry) → ℕ → ℕ → List NameEntry
name_entries entry i zero = []
name_entries entry i (suc n) = entry i ∷ name_entries entry (i + 1) n

-- all of them, as many as are whole
abbrev pub entries_of : List Span → List ℕ → List NameEntry
entries_of spans bytes = name_entries (entry_with spans bytes) 0 (length bytes / 8)
