-- The bytes of a file, and the numbers in them. A number is the little-endian one of the bytes at a place
-- ([MS-PST] 2.1: all numbers of the file format are little-endian).
use Rattle.std.specs.Prelude.{◌≡◌, ℕ, ◌+◌, ◌≤◌, List, length, take, drop, Option, Some, None, nat_le, if◌then◌else◌}
use Rattle.std.specs.Borrow.{Bor}
use Rattle.byteorder.specs.Endian.{little_number}
use Rattle.pst_bytes.specs.declared.Image.{Image}
use Rattle.pst_bytes.specs.declared.span.Span.{Span}

-- the memory that an image shows: the borrow of the file's bytes that it was made of, their place in memory with them
abbrev pub memory_of : Image → Bor (List ℕ)
memory_of image = image.bytes

-- the bytes that an image shows
abbrev pub bytes_of : Image → List ℕ
bytes_of image = image.bytes.now

-- a span's bytes
abbrev pub bytes_at : List ℕ → Span → List ℕ
bytes_at I s = take s.len (drop s.at I)

-- the span lies inside the bytes
abbrev pub IsInside : List ℕ → Span → Type 0
IsInside I s = s.at + s.len ≤ length I

-- the little-endian number of the n bytes at a place
unfoldable pub num : List ℕ → ℕ → ℕ → ℕ
num I at n = little_number n (take n (drop at I))

-- a span's bytes, where the span is inside
abbrev pub lent : List ℕ → Span → Option (List ℕ)
lent I s = if nat_le (s.at + s.len) (length I) then Some (bytes_at I s) else None

-- the number of n bytes at a place, where all of them are there
abbrev pub number_at : List ℕ → ℕ → ℕ → Option ℕ
number_at I at n = if nat_le (at + n) (length I) then Some (num I at n) else None

-- a slice is the span's own bytes in the image's memory, and no copy of them
abbrev pub IsPartOf : Image → Span → Bor (List ℕ) → Type 0
IsPartOf image s slice = (slice.ref_ptr.0 ≡ image.bytes.ref_ptr.0) × (slice.ref_ptr.1 ≡ image.bytes.ref_ptr.1 + s.at)
