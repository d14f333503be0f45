-- Allocation map pages ([MS-PST] 2.2.2.7.2): a good one, and the first fault of all of a file.
use Rattle.std.specs.Prelude.{ℕ, ◌+◌, Bool, ◌&&◌, nat_eq, List, Option}
use Rattle.pst_bytes.specs.Image.{num}
use Rattle.pst_fault.specs.declared.fault.Fault.{Fault}
use Rattle.pst_fault.specs.declared.kind.Kind.TheVariants.{MapPage}
use Rattle.pst_fault.specs.Fault.{fault_at}
use Rattle.pst_fault.specs.First.{holds_or, first_below}
use Rattle.pst_header.specs.Header.{amap_place}
use Rattle.pst_page.specs.Trailer.{has_trailer}

-- The trailer of a map page: its signature is 0, its identifier its own offset.
abbrev pub has_map_trailer : List ℕ → ℕ → Bool
has_map_trailer I at = has_trailer I at 0 at

-- An allocation map: its type twice, its trailer, and its own 8 units marked.
unfoldable pub is_amap : List ℕ → ℕ → Bool
is_amap I at = nat_eq (num I (at + 496) 1) 0x84 && nat_eq (num I (at + 497) 1) 0x84 && has_map_trailer I at && nat_eq (num I at 1) 0xff

unfoldable pub amap_fault : List ℕ → ℕ → Option Fault
amap_fault I j = holds_or (is_amap I (amap_place j)) (fault_at MapPage (amap_place j))

-- the allocation maps in order
abbrev pub amaps_fault : List ℕ → ℕ → Option Fault
amaps_fault I n = first_below (amap_fault I) n
