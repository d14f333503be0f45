-- Laws of places: whoever holds the file reads each value where it lies.
use Rattle.std.specs.Prelude.{◌≡◌, ℕ, List, IfSome}
use Rattle.pst_bytes.specs.declared.span.Span.{Span}
use Rattle.pst_block.specs.Table.{Table}
use Rattle.pst_datatree.specs.Spans.{nonempty, joined_bytes, AreInside}
use Rattle.pst_ndb.specs.Roots.{Roots}
use Rattle.pst_pc.specs.Values.{property_at, spans_in}
use Rattle.pst_value_json.specs.Cells.{cell_content}
use Rattle.pst_value_json.specs.Places.{places_of}

-- the bytes of a file at these places, one after another; each place lies in the file, and has bytes
abbrev pub AreBytesAt : List ℕ → List Span → List ℕ → Type 0
AreBytesAt I places bytes = (joined_bytes I places ≡ bytes) × AreInside I places × (nonempty places ≡ places)

-- The value of a property is the bytes of the file at its places.
abbrev pub PropPlacesLaw : Type 0
PropPlacesLaw = (t : Table) (r : Roots) (x : ℕ × Span) → AreBytesAt t.image (places_of t.image (spans_in t r x)) (property_at t r x).bytes

-- So is that of a cell.
abbrev pub CellPlacesLaw : Type 0
CellPlacesLaw = (t : Table) (r : Roots) (row tag : ℕ) → IfSome (cell_content t r row tag) (λ c. AreBytesAt t.image c.places c.bytes)
