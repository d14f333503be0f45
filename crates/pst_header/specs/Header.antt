-- The header of a file ([MS-PST] 2.2.2.6) and its ROOT structure (2.2.2.5): the fields, and the first fault.
use Rattle.std.specs.Prelude.{ℕ, ◌+◌, ◌-◌, ◌*◌, ◌/◌, ◌%◌, Bool, ◌&&◌, ◌||◌, List, length, min, Option, nat_eq, nat_le, if◌then◌else◌}
use Rattle.pst_bytes.specs.Image.{num, bytes_at}
use Rattle.pst_crc.specs.Crc.{crc}
use Rattle.pst_fault.specs.declared.fault.Fault.{Fault}
use Rattle.pst_fault.specs.declared.kind.Kind.TheVariants.{Short, Magic, Version, Encoded, HeaderCheck, Root, MapsInvalid}
use Rattle.pst_fault.specs.Fault.{fault_at}
use Rattle.pst_fault.specs.First.{◌then◌, holds_or}
use Rattle.pst_header.specs.declared.header.TheConstants.{FIRST_AMAP, REGION}
use Rattle.pst_header.specs.declared.header.Header.{Header}
use Rattle.pst_header.specs.declared.header.Bref.{Bref}

-- a BREF at an offset (2.2.2.4): an identifier and a place
unfoldable pub bref_at : List ℕ → ℕ → Bref
bref_at I at = record { bid = num I at 8; ib = num I (at + 8) 8 }

-- the fields, as they stand in the file
unfoldable pub fields : List ℕ → Header
fields I = record {
  eof = num I 184 8;
  last_amap = num I 192 8;
  free = num I 200 8;
  nbt = bref_at I 216;
  bbt = bref_at I 232;
  maps_valid = num I 248 1;
  next_page = num I 32 8;
  next_block = num I 516 8;
  version = num I 10 2;
}

-- Allocation map j stands at 17,408 + 253,952 * j: it maps itself and what follows, up to the next one (2.2.2.7.2).
abbrev pub amap_place : ℕ → ℕ
amap_place j = FIRST_AMAP + REGION * j

-- the place of some allocation map
abbrev pub is_amap_place : ℕ → Bool
is_amap_place at = nat_le FIRST_AMAP at && nat_eq ((at - FIRST_AMAP) % REGION) 0

-- The last allocation map lies before the end of the file, and so does the page map behind it, which the first
-- and each eighth one has (2.2.2.7.3).
abbrev pub is_last_amap : ℕ → ℕ → Bool
is_last_amap last eof = nat_le (last + (if nat_eq ((last - FIRST_AMAP) / REGION % 8) 0 then 1024 else 512)) eof

-- ---- the first fault, in the order of the rules

-- the 471 bytes from offset 8, and the 516 bytes from there, have the check values that the header says
abbrev pub check_fault : List ℕ → Option Fault
check_fault I =
    holds_or (nat_eq (num I 4 4) (crc (bytes_at I (record { at = 8; len = 471 })))) (fault_at HeaderCheck 4)
    then holds_or (nat_eq (num I 524 4) (crc (bytes_at I (record { at = 8; len = 516 })))) (fault_at HeaderCheck 524)

-- the ROOT structure: the end of the file, the last allocation map, and whether the maps are valid
abbrev pub root_fault : List ℕ → Option Fault
root_fault I =
    holds_or (nat_le (num I 184 8) (length I)) (fault_at Root 184)
    then holds_or (is_amap_place (num I 192 8) && is_last_amap (num I 192 8) (num I 184 8)) (fault_at Root 192)
    then holds_or (nat_eq (num I 248 1) 1 || nat_eq (num I 248 1) 2) (fault_at MapsInvalid 248)

unfoldable pub header_fault : List ℕ → Option Fault
header_fault I =
    holds_or (nat_le 564 (length I)) (fault_at Short 0)
    then holds_or (nat_eq (num I 0 4) 0x4e444221) (fault_at Magic 0)
    then holds_or (nat_eq (num I 8 2) 0x4d53) (fault_at Magic 8)
    then holds_or (nat_eq (num I 10 2) 23) (fault_at (Version (num I 10 2)) 10)
    then holds_or (nat_eq (num I 513 1) 0) (fault_at (Encoded (num I 513 1)) 513)
    then check_fault I
    then root_fault I

-- ---- what follows from the fields

-- the end of the mapped part: of the file, or of what the last allocation map maps
abbrev pub end_of : Header → ℕ
end_of h = min h.eof (h.last_amap + REGION)

-- how many allocation maps there are
abbrev pub amap_count_of : Header → ℕ
amap_count_of h = (h.last_amap - FIRST_AMAP) / REGION + 1
