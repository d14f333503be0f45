-- Laws of values.
use Rattle.std.specs.Prelude.{◌≡◌, ℕ, ◌↔◌, List, None}
use Rattle.pst_bytes.specs.declared.span.Span.{Span}
use Rattle.pst_block.specs.Table.{Table}
use Rattle.pst_ndb.specs.Roots.{Roots}
use Rattle.pst_ndb.specs.Alike.{Alike}
use Rattle.pst_value.specs.Fault.{value_fault}
use Rattle.pst_value.specs.Grammar.{HasValue}
use Rattle.pst_value.specs.Values.{hnid_spans, value_spans}

-- There is a value exactly where there is no first fault, wherever that is told, and then it has these spans.
abbrev pub ValueLaw : Type 0
ValueLaw =
    (t : Table) (r : Roots) (kind place : ℕ) (raw : Span) (spans : List Span) →
    HasValue t r kind raw spans ↔ ((value_fault t r kind place raw ≡ None) × (spans ≡ value_spans t r kind raw))

-- That there is a value does not depend on where a fault would be told.
abbrev pub PlaceLaw : Type 0
PlaceLaw =
    (t : Table) (r : Roots) (kind place other : ℕ) (raw : Span) →
    value_fault t r kind place raw ≡ None → value_fault t r kind other raw ≡ None

-- Roots that are alike have the same values, and the same faults of them: bit 0 of a block identifier says nothing.
abbrev pub AlikeValueLaw : Type 0
AlikeValueLaw =
    (t : Table) (r s : Roots) → Alike r s →
    ((hnid : ℕ) → hnid_spans t r hnid ≡ hnid_spans t s hnid)
    × ((kind : ℕ) (raw : Span) → value_spans t r kind raw ≡ value_spans t s kind raw)
    × ((kind place : ℕ) (raw : Span) → value_fault t r kind place raw ≡ value_fault t s kind place raw)
