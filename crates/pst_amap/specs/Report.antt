-- The comparison of what is claimed with the allocation maps.
use Rattle.std.specs.Prelude.{◌≡◌, ℕ, ◌<◌, ◌↔◌, true, false, List, length, Option, None}
use Rattle.pst_fault.specs.declared.fault.Fault.{Fault}
use Rattle.pst_fault.specs.First.{◌then◌}
use Rattle.pst_header.specs.declared.header.Header.{Header}
use Rattle.pst_header.specs.Header.{end_of, amap_count_of, amap_place}
use Rattle.pst_space.specs.Claimed.{Claimed, flag_of}
use Rattle.pst_amap.specs.declared.report.BitOrder.{BitOrder}
use Rattle.pst_amap.specs.declared.report.MapReport.{MapReport}
use Rattle.pst_amap.specs.declared.report.BitOrder.TheVariants.{High, Low}
use Rattle.pst_amap.specs.Map.{amaps_fault, is_amap}
use Rattle.pst_amap.specs.Marks.{missing_fault, bit_order_of, is_marked}
use Rattle.pst_amap.specs.Old.{OldMaps, old_below}
use Rattle.pst_amap.specs.Lost.{lost_runs}

-- the first fault: of the maps in order, then of the units that have to be marked
unfoldable pub maps_fault : List ℕ → Header → Claimed → Option Fault
maps_fault I h claimed = amaps_fault I (amap_count_of h) then missing_fault I claimed

-- the old map pages of a file, and what is claimed with them
unfoldable pub old_maps : List ℕ → Header → Claimed → OldMaps
old_maps I h claimed = old_below (bit_order_of I claimed) I (end_of h) (record { claimed = claimed; count = 0 }) (amap_count_of h)

-- the report says the order of bits, the lost runs and how many old map pages there are
pub record IsReport (I : List ℕ) (h : Header) (claimed : Claimed) (report : MapReport) : Type 0 where
  pub order : report.order ≡ bit_order_of I claimed
  pub lost : report.lost.items ≡ lost_runs (bit_order_of I claimed) I (old_maps I h claimed).claimed
  pub old_maps : report.old_maps ≡ (old_maps I h claimed).count

-- all that is claimed is marked
abbrev pub IsMarked : BitOrder → List ℕ → Claimed → Type 0
IsMarked order I claimed = (unit : ℕ) → unit < length claimed → flag_of claimed unit ≡ true → is_marked order I unit ≡ true

-- The maps agree with what is claimed: each is a good map page, and all that is claimed is marked, the most significant
-- bit first, or the least significant one first where some claimed unit is not marked that way.
pub record Maps (I : List ℕ) (h : Header) (claimed : Claimed) (order : BitOrder) : Type 0 where
  pub good : (j : ℕ) → j < amap_count_of h → is_amap I (amap_place j) ≡ true
  pub marked : IsMarked order I claimed
  pub other : order ≡ Low → (unit : ℕ) × (unit < length claimed) × (flag_of claimed unit ≡ true) × (is_marked High I unit ≡ false)

abbrev pub MapsLaw : Type 0
MapsLaw = (I : List ℕ) (h : Header) (claimed : Claimed) (order : BitOrder) → Maps I h claimed order ↔ ((maps_fault I h claimed ≡ None) × (order ≡ bit_order_of I claimed))
