-- B-tree pages of 512 bytes ([MS-PST] 2.2.2.7.7.1), each by its offset ib in the file: up to 488 bytes of entries, then
-- cEnt at 488, cEntMax at 489, cbEnt at 490, cLevel at 491, and the trailer (2.2.2.7.1) at 496.
use Rattle.std.specs.Prelude.{ℕ, zero, suc, ◌+◌, ◌-◌, ◌*◌, List, [], ◌∷◌, Option, Some, None, nat_lt, if◌then◌else◌}
use Rattle.pst_bytes.specs.declared.span.Span.{Span}
use Rattle.pst_bytes.specs.Image.{num, bytes_at}
use Rattle.pst_page.specs.declared.kind.PageKind.{PageKind}
use Rattle.pst_page.specs.declared.kind.PageKind.TheVariants.{Bbt, Nbt}

-- ptypeBBT and ptypeNBT
abbrev pub page_type : PageKind → ℕ
page_type Bbt = 0x80
page_type Nbt = 0x81

-- a page's bytes
abbrev pub page_span : ℕ → Span
page_span ib = record { at = ib; len = 512 }

-- the bytes that its check value is of: all but the trailer
abbrev pub checked_span : ℕ → Span
checked_span ib = record { at = ib; len = 496 }

-- cEnt: how many entries there are
unfoldable pub count_at : List ℕ → ℕ → ℕ
count_at I ib = num I (ib + 488) 1

-- cbEnt: how many bytes an entry takes
unfoldable pub width_at : List ℕ → ℕ → ℕ
width_at I ib = num I (ib + 490) 1

-- cLevel: 0 for a leaf
unfoldable pub level_at : List ℕ → ℕ → ℕ
level_at I ib = num I (ib + 491) 1

-- ---- the entries, each by its place in the file

-- the place of entry i
abbrev pub entry_place : List ℕ → ℕ → ℕ → ℕ
entry_place I ib i = ib + i * width_at I ib

-- so many places from one on, each a width after the one before it
abbrev pub places : ℕ → ℕ → ℕ → List ℕ
places at width zero = []
places at width (suc count) = at ∷ places (at + width) width count

-- the places of all entries, first to last
unfoldable pub entries_at : List ℕ → ℕ → List ℕ
entries_at I ib = places ib (width_at I ib) (count_at I ib)

-- those from entry i on
unfoldable pub entries_from : List ℕ → ℕ → ℕ → List ℕ
entries_from I ib i = places (entry_place I ib i) (width_at I ib) (count_at I ib - i)

-- the bytes of entry i
abbrev pub entry_span : List ℕ → ℕ → ℕ → Span
entry_span I ib i = record { at = entry_place I ib i; len = width_at I ib }

-- the bytes of entry i, where there is one
abbrev pub entry_bytes : List ℕ → ℕ → ℕ → Option (List ℕ)
entry_bytes I ib i = if nat_lt i (count_at I ib) then Some (bytes_at I (entry_span I ib i)) else None
