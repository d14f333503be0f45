-- Which spans of a file a value shows.
use Rattle.std.specs.Prelude.{◌≡◌, ℕ, ◌+◌, ◌-◌, ◌^◌, ◌<◌, ◌≤◌, min, nat_lt, if◌then◌else◌, List, length, slice_range}
use Rattle.std.specs.Borrow.{Bor}
use Rattle.std.specs.List.{concat}
use Rattle.pst_bytes.specs.declared.Image.{Image}
use Rattle.pst_bytes.specs.declared.span.Span.{Span}
use Rattle.pst_bytes.specs.Image.{bytes_of, bytes_at, IsPartOf}
use Rattle.pst_datatree.specs.declared.value_view.Value.{Value}
use Rattle.pst_datatree.specs.declared.value_view.Value.TheVariants.{Whole, Pieces}
use Rattle.pst_datatree.specs.Data.{size_of}
use Rattle.pst_datatree.specs.Cut.{cut}
use Rattle.pst_datatree.specs.Spans.{nonempty, first_span}
use Rattle.pst_datatree.specs.Left.{spans_left, slices_left, file_of}

-- A value shows spans of a file: as one slice, the file's own memory, exactly where at most one of them has bytes. Where none
-- has, the slice is empty and its place is 0.
abbrev pub ShowsSpans : Image → List Span → Value → Type 0
ShowsSpans file spans (Whole at slice) =
    (length (nonempty spans) ≤ 1) × (at ≡ (first_span (nonempty spans)).at)
    × (slice.now ≡ bytes_at (bytes_of file) (first_span (nonempty spans)))
    × IsPartOf file (first_span (nonempty spans)) slice
ShowsSpans file spans (Pieces p) = (1 < length (nonempty spans)) × (spans_left p ≡ spans) × (file_of p ≡ file)

-- the bytes of a value, how many they are, and where the first one lies
abbrev pub bytes_in : Value → List ℕ
bytes_in (Whole at slice) = slice.now
bytes_in (Pieces p) = concat (slices_left p)

abbrev pub size_in : Value → ℕ
size_in (Whole at slice) = length slice.now
size_in (Pieces p) = size_of (spans_left p)

abbrev pub place_in : Value → ℕ
place_in (Whole at slice) = at
place_in (Pieces p) = (first_span (nonempty (spans_left p))).at

-- A value without the spans of another that have no byte: the same slice, or pieces of the same file that are the other spans.
abbrev pub KeepsBytes : Value → Value → Type 0
KeepsBytes (Whole at slice) kept = kept ≡ Whole at slice
KeepsBytes (Pieces p) (Whole at slice) = ⊥
KeepsBytes (Pieces p) (Pieces q) = (spans_left q ≡ nonempty (spans_left p)) × (file_of q ≡ file_of p)

-- a value is a slice that begins so many bytes behind the start of another, in the same memory, and has this place
abbrev pub IsSlice : ℕ → List ℕ → Bor (List ℕ) → ℕ → Value → Type 0
IsSlice place bytes other from (Whole at slice) =
    (at ≡ place) × (slice.now ≡ bytes) × (slice.ref_ptr.0 ≡ other.ref_ptr.0) × (slice.ref_ptr.1 ≡ other.ref_ptr.1 + from)
IsSlice place bytes other from (Pieces p) = ⊥

-- A part of a value. A slice's is a slice, whose place is 0 where it is empty; the part of pieces is again one slice exactly
-- where at most one of the spans has bytes in it.
abbrev pub IsPart : ℕ → ℕ → Value → Value → Type 0
IsPart from to (Whole at slice) part =
    IsSlice (if nat_lt from to then min (at + from) (2 ^ 64 - 1) else 0) (slice_range slice.now from to) slice from part
IsPart from to (Pieces p) part = ShowsSpans (file_of p) (cut from to (spans_left p)) part
