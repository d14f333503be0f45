-- What the allocation maps of a file mark beside the spans in use: old map pages, and lost runs. Nothing here walks or claims.
use Rattle.std.specs.Prelude.{◌≡◌, ℕ, ◌+◌, ◌<◌, ◌≤◌, ◌↔◌, ◌⊎◌, ⊤, Bool, true, not, ◌&&◌, List, [], ◌∷◌}
use Rattle.std.specs.List.{Contains}
use Rattle.pst_bytes.specs.declared.span.Span.{Span}
use Rattle.pst_bytes.specs.Image.{num}
use Rattle.pst_bytes.specs.Span.{IsApartFromAll}
use Rattle.pst_header.specs.Header.{amap_place}
use Rattle.pst_space.specs.Claimed.{page_at}
use Rattle.pst_space.specs.Apart.{covers, is_covered}
use Rattle.pst_amap.specs.declared.report.BitOrder.{BitOrder}
use Rattle.pst_amap.specs.Map.{has_map_trailer}
use Rattle.pst_amap.specs.Marks.{is_marked}

-- ---- lists of spans

-- the places of the spans rise, from one on
abbrev pub PlacesRise : ℕ → List Span → Type 0
PlacesRise from [] = ⊤
PlacesRise from (s ∷ ss) = (from ≤ s.at) × PlacesRise (s.at + 1) ss

-- The spans are exactly those of which a fact holds, in the order of their places.
pub record AreExactly (Fact : Span → Type 0) (spans : List Span) : Type 0 where
  pub these : (s : Span) → Contains spans s ↔ Fact s
  pub rise : PlacesRise 0 spans

-- ---- old map pages

-- one of the two places behind the maps of a region, where older writers put a page that is no longer used
abbrev pub IsOldPlace : ℕ → Type 0
IsOldPlace at = (region : ℕ) × ((at ≡ amap_place region + 1024) ⊎ (at ≡ amap_place region + 1536))

-- An old map page: a free map page or a free page map page ([MS-PST] 2.2.2.7.5, 2.2.2.7.6).
pub record IsOldPage (order : BitOrder) (I : List ℕ) (end : ℕ) (used : List Span) (s : Span) : Type 0 where
  -- it is a page, at one of those places, in the mapped part
  pub page : s ≡ page_at s.at
  pub place : IsOldPlace s.at
  pub inside : s.at + 512 ≤ end
  -- its two type bytes say one of the two types, twice; and its trailer is good (2.2.2.7.1)
  pub ptype : (num I (s.at + 496) 1 ≡ 0x82) ⊎ (num I (s.at + 496) 1 ≡ 0x85)
  pub repeated : num I (s.at + 497) 1 ≡ num I (s.at + 496) 1
  pub trailer : has_map_trailer I s.at ≡ true
  -- all of its units are marked, and nothing in use lies on it
  pub marked : (unit : ℕ) → covers s unit ≡ true → is_marked order I unit ≡ true
  pub free : IsApartFromAll s used

-- ---- what is marked

-- a unit is marked, and none of the spans lies there
abbrev pub is_marked_beside : BitOrder → List ℕ → List Span → ℕ → Bool
is_marked_beside order I spans unit = is_marked order I unit && not (is_covered spans unit)

-- a unit of the first n is marked exactly where one of the spans lies there
abbrev pub MarkJust : BitOrder → List ℕ → ℕ → List Span → Type 0
MarkJust order I n spans = (unit : ℕ) → unit < n → is_marked order I unit ≡ is_covered spans unit
