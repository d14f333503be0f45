-- Old map pages: a free map or free page map page ([MS-PST] 2.2.2.7.5, 2.2.2.7.6), as older writers left one behind an
-- allocation map and the page behind it. One that is marked and on nothing else is taken as claimed.
use Rattle.std.specs.Prelude.{ℕ, zero, suc, ◌+◌, ◌-◌, ◌/◌, Bool, true, ◌&&◌, ◌||◌, nat_eq, nat_le, List, Option, Some, None, if◌then◌else◌}
use Rattle.pst_bytes.specs.Image.{num}
use Rattle.pst_header.specs.Header.{amap_place}
use Rattle.pst_header.specs.declared.header.TheConstants.{FIRST_AMAP, UNIT}
use Rattle.pst_space.specs.Claimed.{Claimed, claim_of, page_at}
use Rattle.pst_amap.specs.declared.report.BitOrder.{BitOrder}
use Rattle.pst_amap.specs.Map.{has_map_trailer}
use Rattle.pst_amap.specs.Marks.{is_marked}

-- The two type bytes of a page (2.2.2.7.1) say one type twice: a free map (82) or a free page map (85). Either may lie at
-- either of the two places; a page that says one type and then the other is no map page.
abbrev pub is_old_type : ℕ → ℕ → Bool
is_old_type ptype repeated = (nat_eq ptype 0x82 || nat_eq ptype 0x85) && nat_eq repeated ptype

-- so many units from one on are marked
abbrev pub are_marked : BitOrder → List ℕ → ℕ → ℕ → Bool
are_marked order I unit zero = true
are_marked order I unit (suc n) = is_marked order I unit && are_marked order I (unit + 1) n

-- what lies there is an old map page, and all of its units are marked
unfoldable pub looks_old : BitOrder → List ℕ → ℕ → ℕ → Bool
looks_old order I end at =
    nat_le (at + 512) end && is_old_type (num I (at + 496) 1) (num I (at + 497) 1) && has_map_trailer I at
    && are_marked order I ((at - FIRST_AMAP) / UNIT) 8

-- it is claimed, where it is on nothing that is
abbrev pub old_claim : BitOrder → List ℕ → ℕ → Claimed → ℕ → Option Claimed
old_claim order I end claimed at = if looks_old order I end at then claim_of claimed (page_at at) else None

-- what is claimed with the old map pages found so far, and how many they are
pub record OldMaps : Type 0 where
  pub claimed : Claimed
  pub count : ℕ

abbrev pub with_old : OldMaps → Option Claimed → OldMaps
with_old found None = found
with_old found (Some more) = record { claimed = more; count = found.count + 1 }

unfoldable pub old_step : BitOrder → List ℕ → ℕ → OldMaps → ℕ → OldMaps
old_step order I end found at = with_old found (old_claim order I end found.claimed at)

-- the two places behind the maps of each of the first n regions, in order
unfoldable pub old_below : BitOrder → List ℕ → ℕ → OldMaps → ℕ → OldMaps
old_below order I end found zero = found
old_below order I end found (suc n) = old_step order I end (old_step order I end (old_below order I end found n) (amap_place n + 1024)) (amap_place n + 1536)
