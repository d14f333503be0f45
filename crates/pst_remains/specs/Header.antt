-- The header of a damaged file ([MS-PST] 2.2.2.6), once its magic numbers, its version and its method are right: its first
-- fault, and the fields by which the rest of the file is looked at.
use Rattle.std.specs.Prelude.{ℕ, ◌+◌, ◌-◌, ◌/◌, Bool, ◌&&◌, true, false, nat_le, List, length, min, Option, Some, None, if◌then◌else◌}
use Rattle.pst_bytes.specs.Image.{num}
use Rattle.pst_fault.specs.declared.fault.Fault.{Fault}
use Rattle.pst_fault.specs.declared.kind.Kind.{Kind}
use Rattle.pst_fault.specs.declared.kind.Kind.TheVariants.{HeaderCheck, Root}
use Rattle.pst_fault.specs.First.{◌then◌}
use Rattle.pst_header.specs.declared.header.Header.{Header}
use Rattle.pst_header.specs.declared.header.TheConstants.{FIRST_AMAP, REGION}
use Rattle.pst_header.specs.Header.{fields, check_fault, root_fault, is_amap_place, is_last_amap, amap_place}

-- its check values, then its ROOT structure
unfoldable pub header_damage : List ℕ → Option Fault
header_damage I = check_fault I then root_fault I

-- Where its check values or the places in it are wrong, what it says of the end of the file says nothing.
abbrev pub is_astray : Kind → Bool
is_astray HeaderCheck = true
is_astray Root = true
is_astray kind = false

abbrev pub end_beside : List ℕ → Option Fault → ℕ
end_beside I None = min (num I 184 8) (length I)
end_beside I (Some f) = if is_astray f.kind then length I else min (num I 184 8) (length I)

-- where the file ends: as the header says, within the bytes, or with the bytes where the header is astray
unfoldable pub file_end : List ℕ → ℕ
file_end I = end_beside I (header_damage I)

-- The last allocation map is the one that the header names, where one may lie there; else the last that has room: the k-th takes
-- 512 bytes, and 1,024 with the page map behind it where k is a multiple of 8 (2.2.2.7.2, 2.2.2.7.3).
abbrev pub last_region : ℕ → ℕ
last_region eof =
    let k = (eof - FIRST_AMAP - 512) / REGION in
    if is_last_amap (amap_place k) eof then k else k - 1

abbrev pub last_map_of : ℕ → ℕ → ℕ
last_map_of last eof = if is_amap_place last && is_last_amap last eof then last else amap_place (last_region eof)

-- the header, with the end and the last map that there are
abbrev pub with_space : Header → ℕ → Header
with_space h eof = record {
  eof = eof;
  last_amap = last_map_of h.last_amap eof;
  free = h.free;
  nbt = h.nbt;
  bbt = h.bbt;
  maps_valid = h.maps_valid;
  next_page = h.next_page;
  next_block = h.next_block;
  version = h.version;
}

unfoldable pub mended : List ℕ → Header
mended I = with_space (fields I) (file_end I)

-- there is room for the first allocation map and the page map behind it; where there is none, nothing is mapped
abbrev pub has_maps : List ℕ → Bool
has_maps I = nat_le (FIRST_AMAP + 1024) (file_end I)
