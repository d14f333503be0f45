-- The streams of the name map ([MS-PST] 2.4.7), the three properties of its node that say what properties are called: the GUID
-- stream (2.4.7.2), the entry stream (2.4.7.3) and the string stream (2.4.7.4). One that is not there counts as empty.
use Rattle.std.specs.Prelude.{ℕ, ◌+◌, ◌-◌, nat_lt, if◌then◌else◌, List, [], ◌∷◌, Option, Some, None}
use Rattle.pst_bytes.specs.declared.span.Span.{Span}
use Rattle.pst_block.specs.Table.{Table}
use Rattle.pst_btree.specs.Entries.{first_with}
use Rattle.pst_ndb.specs.Roots.{Roots}
use Rattle.pst_bth.specs.Values.{record_key}
use Rattle.pst_pc.specs.Values.{Property, id_of, pc_records, props_of, spans_in}

-- the property that is a stream, where it is there
unfoldable pub stream_of : Table → Roots → ℕ → Option Property
stream_of t r id = first_with id_of id (props_of t r)

-- its bytes, and where the first of them lies
abbrev pub stream_bytes : Option Property → List ℕ
stream_bytes None = []
stream_bytes (Some p) = p.bytes

abbrev pub stream_place : Option Property → ℕ
stream_place None = 0
stream_place (Some p) = p.at

-- the spans of the file that its bytes lie in
abbrev pub record_spans : Table → Roots → Option (ℕ × Span) → List Span
record_spans t r None = []
record_spans t r (Some x) = spans_in t r x

unfoldable pub stream_spans : Table → Roots → ℕ → List Span
stream_spans t r id = record_spans t r (first_with record_key id (pc_records t r))

-- where the byte with a number lies, of the bytes that spans have one after another
unfoldable pub byte_place : List Span → ℕ → ℕ
byte_place [] n = 0
byte_place (s ∷ rest) n = if nat_lt n s.len then s.at + n else byte_place rest (n - s.len)

-- what the streams of a node hold
pub record Held : Type 0 where
  pub guids : List ℕ
  pub entries : List ℕ
  pub strings : List ℕ
