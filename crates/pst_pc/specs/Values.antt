-- The records and the properties of a property context ([MS-PST] 2.3.3): a heap with the client signature 0xBC, whose user root
-- names a BTH. A record of it has the property's identifier, 2 bytes, as key, and 6 bytes: wPropType, 2 bytes; dwValueHnid, 4 bytes
-- (2.3.3.3).
use Rattle.std.specs.Prelude.{ℕ, ◌+◌, ◌-◌, List, map}
use Rattle.pst_bytes.specs.declared.span.Span.{Span}
use Rattle.pst_bytes.specs.Image.{num}
use Rattle.pst_block.specs.Table.{Table}
use Rattle.pst_datatree.specs.Spans.{nonempty, first_span, joined_bytes}
use Rattle.pst_ndb.specs.Roots.{Roots}
use Rattle.pst_heap.specs.Values.{user_root_of, heap_at}
use Rattle.pst_bth.specs.declared.sizes.Sizes.{Sizes}
use Rattle.pst_bth.specs.Rows.{sizes_of}
use Rattle.pst_bth.specs.Values.{bth_records}
use Rattle.pst_value.specs.Values.{value_spans}

-- ---- the records

abbrev pub pc_client : ℕ
pc_client = 0xBC

abbrev pub pc_sizes : Sizes
pc_sizes = sizes_of 2 6

-- each a property's identifier, and the span of its type and its raw value
unfoldable pub pc_records : Table → Roots → List (ℕ × Span)
pc_records t r = let h = heap_at t r in bth_records h pc_sizes (user_root_of h)

-- where a record begins
abbrev pub record_place : Span → ℕ
record_place s = s.at - 2

abbrev pub kind_in : List ℕ → Span → ℕ
kind_in I s = num I s.at 2

abbrev pub raw_in : Span → Span
raw_in s = record { at = s.at + 2; len = 4 }

-- ---- the properties

-- what is told of one: its identifier, its type, the bytes of its value, and where the first of them lies, 0 where there is none
pub record Property : Type 0 where
  pub id : ℕ
  pub kind : ℕ
  pub bytes : List ℕ
  pub at : ℕ

abbrev pub id_of : Property → ℕ
id_of p = p.id

-- the spans of the value of a record
abbrev pub spans_in : Table → Roots → ℕ × Span → List Span
spans_in t r x = value_spans t r (kind_in t.image x.1) (raw_in x.1)

abbrev pub property_with : List ℕ → ℕ → ℕ → List Span → Property
property_with I id kind spans =
    record { id = id; kind = kind; bytes = joined_bytes I spans; at = (first_span (nonempty spans)).at }

-- the property of a record
abbrev pub property_at : Table → Roots → ℕ × Span → Property
property_at t r x = property_with t.image x.0 (kind_in t.image x.1) (spans_in t r x)

-- all properties, identifiers rising
unfoldable pub props_of : Table → Roots → List Property
props_of t r = map (property_at t r) (pc_records t r)
