-- Claimed space. The mapped part of a file is cut into units of 64 bytes, as the allocation maps see it ([MS-PST]
-- 2.2.2.7.2): unit u is the 64 bytes at 17,408 + 64 * u. A flag for each unit says whether a page or a block lies there.
use Rattle.std.specs.Prelude.{◌≡◌, ℕ, zero, suc, ◌+◌, ◌-◌, ◌*◌, ◌/◌, ◌%◌, ◌≤◌, ◌<◌, Bool, true, false, not, ◌&&◌, nat_eq, List, [], ◌∷◌, ◌++◌, length, slice_index_or, slice_set, replicate, Option, Some, None, option_and_then, Result, Ok, Err, if◌then◌else◌}
use Rattle.pst_bytes.specs.declared.span.Span.{Span}
use Rattle.pst_fault.specs.declared.fault.Fault.{Fault}
use Rattle.pst_fault.specs.declared.kind.Kind.TheVariants.{Overlap}
use Rattle.pst_fault.specs.Fault.{fault_at}
use Rattle.pst_header.specs.declared.header.TheConstants.{FIRST_AMAP, UNIT}
use Rattle.pst_header.specs.declared.header.Header.{Header}
use Rattle.pst_header.specs.Header.{end_of, amap_place, amap_count_of}

-- a flag for each unit that lies wholly in the mapped part
abbrev pub Claimed : Type 0
Claimed = List Bool

-- how many whole units the mapped part has
abbrev pub unit_total : Header → ℕ
unit_total h = (end_of h - FIRST_AMAP) / UNIT

-- the flag of a unit; past the mapped part nothing is claimed
abbrev pub flag_of : Claimed → ℕ → Bool
flag_of claimed unit = slice_index_or claimed unit false

abbrev pub first_unit : Span → ℕ
first_unit span = (span.at - FIRST_AMAP) / UNIT

abbrev pub unit_count : Span → ℕ
unit_count span = span.len / UNIT

-- the span is one or more whole units of the mapped part
pub record IsUnits (claimed : Claimed) (span : Span) : Type 0 where
  pub mapped : FIRST_AMAP ≤ span.at
  pub whole : span.at % UNIT ≡ 0
  pub whole_len : span.len % UNIT ≡ 0
  pub some : 0 < span.len
  pub inside : first_unit span + unit_count span ≤ length claimed

-- none of so many units from one on is claimed
abbrev pub is_clear : Claimed → ℕ → ℕ → Bool
is_clear claimed unit zero = true
is_clear claimed unit (suc n) = not (flag_of claimed unit) && is_clear claimed (unit + 1) n

-- so many units from one on are claimed too
abbrev pub filled : Claimed → ℕ → ℕ → Claimed
filled claimed unit zero = claimed
filled claimed unit (suc n) = filled (slice_set claimed unit true) (unit + 1) n

-- the flags, with those of a span set
unfoldable pub with_span : Claimed → Span → Claimed
with_span claimed span = filled claimed (first_unit span) (unit_count span)

-- the flags with one more span, unless one of its units is claimed
unfoldable pub claim_of : Claimed → Span → Option Claimed
claim_of claimed span = if is_clear claimed (first_unit span) (unit_count span) then Some (with_span claimed span) else None

-- A claim is made, or the span overlaps what is claimed and nothing changes.
abbrev pub ClaimAnswers : {X : Type 0} → Claimed → Span → Claimed → Result X Fault → Type 0
ClaimAnswers old span new (Ok x) = claim_of old span ≡ Some new
ClaimAnswers old span new (Err f) = (new ≡ old) × (f ≡ fault_at Overlap span.at) × (claim_of old span ≡ None)

-- the flags, with those of some spans set
abbrev pub with_spans : Claimed → List Span → Claimed
with_spans claimed [] = claimed
with_spans claimed (s ∷ ss) = with_spans (with_span claimed s) ss

-- the spans claimed one after another
abbrev pub claim_all : Claimed → List Span → Option Claimed
claim_all claimed [] = Some claimed
claim_all claimed (s ∷ ss) = option_and_then (λ next. claim_all next ss) (claim_of claimed s)

-- ---- the map pages

abbrev pub page_at : ℕ → Span
page_at at = record { at = at; len = 512 }

-- Allocation map j, and the page map behind it where j is a multiple of 8 ([MS-PST] 2.2.2.7.2 and 2.2.2.7.3).
abbrev pub map_pages_at : ℕ → List Span
map_pages_at j = if nat_eq (j % 8) 0 then page_at (amap_place j) ∷ page_at (amap_place j + 512) ∷ [] else page_at (amap_place j) ∷ []

-- the map pages of a region lie among so many units
abbrev pub MapsFit : ℕ → ℕ → Type 0
MapsFit region units = (3968 * region + 8 ≤ units) × (region % 8 ≡ 0 → 3968 * region + 16 ≤ units)

-- the map pages of the first n regions, in order
abbrev pub map_pages_below : ℕ → List Span
map_pages_below zero = []
map_pages_below (suc n) = map_pages_below n ++ map_pages_at n

-- all map pages of a file
unfoldable pub map_pages : Header → List Span
map_pages h = map_pages_below (amap_count_of h)

-- nothing is claimed
unfoldable pub nothing_claimed : Header → Claimed
nothing_claimed h = replicate (unit_total h) false

-- the map pages are claimed, and nothing else
unfoldable pub maps_claimed : Header → Claimed
maps_claimed h = with_spans (nothing_claimed h) (map_pages h)

-- The map pages have no byte in common, so they can be claimed one after another.
abbrev pub MapPagesLaw : Type 0
MapPagesLaw = (h : Header) → claim_all (nothing_claimed h) (map_pages h) ≡ Some (maps_claimed h)
