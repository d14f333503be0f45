-- Marked units. The 496 bytes of an allocation map have a bit for each of its 3,968 units ([MS-PST] 2.2.2.7.2). The most
-- significant bit of a byte comes first; files in which the least significant one does are accepted too.
use Rattle.std.specs.Prelude.{ℕ, ◌+◌, ◌-◌, ◌*◌, ◌/◌, ◌%◌, Bool, not, ◌||◌, nat_eq, List, Option, Some, None, Result, Ok, Err, length}
use Rattle.std.specs.Int.{bit_at}
use Rattle.pst_bytes.specs.Image.{num}
use Rattle.pst_fault.specs.declared.fault.Fault.{Fault}
use Rattle.pst_fault.specs.declared.kind.Kind.TheVariants.{MapMissing}
use Rattle.pst_fault.specs.Fault.{fault_at}
use Rattle.pst_fault.specs.First.{holds_or, first_below}
use Rattle.pst_header.specs.Header.{amap_place}
use Rattle.pst_header.specs.declared.header.TheConstants.{FIRST_AMAP, UNIT}
use Rattle.pst_space.specs.Claimed.{Claimed, flag_of}
use Rattle.pst_amap.specs.declared.report.BitOrder.{BitOrder}
use Rattle.pst_amap.specs.declared.report.BitOrder.TheVariants.{High, Low}

-- where the byte of a unit lies
abbrev pub mark_place : ℕ → ℕ
mark_place unit = amap_place (unit / 3968) + unit % 3968 / 8

-- the bit of a unit in its byte
abbrev pub mark_bit : BitOrder → ℕ → ℕ
mark_bit High unit = 7 - unit % 8
mark_bit Low unit = unit % 8

unfoldable pub is_marked : BitOrder → List ℕ → ℕ → Bool
is_marked order I unit = nat_eq (bit_at (num I (mark_place unit) 1) (mark_bit order unit)) 1

-- a unit that is claimed is marked
unfoldable pub unit_fault : BitOrder → List ℕ → Claimed → ℕ → Option Fault
unit_fault order I claimed unit = holds_or (not (flag_of claimed unit) || is_marked order I unit) (fault_at MapMissing (FIRST_AMAP + UNIT * unit))

-- the lowest unit that is claimed and not marked
abbrev pub marks_fault : BitOrder → List ℕ → Claimed → Option Fault
marks_fault order I claimed = first_below (unit_fault order I claimed) (length claimed)

-- One order of bits has to fit; where none does, the fault is that of the most significant bit first.
abbrev pub missing_of : Option Fault → Option Fault → Option Fault
missing_of high None = None
missing_of high (Some f) = high

abbrev pub order_from : Option Fault → BitOrder
order_from None = High
order_from (Some f) = Low

unfoldable pub missing_fault : List ℕ → Claimed → Option Fault
missing_fault I claimed = missing_of (marks_fault High I claimed) (marks_fault Low I claimed)

-- the order of a file: the most significant bit first where that fits
unfoldable pub bit_order_of : List ℕ → Claimed → BitOrder
bit_order_of I claimed = order_from (marks_fault High I claimed)

-- the order that fits, of what was found of both
abbrev pub chosen_of : {X : Type 0} → Result X Fault → Result X Fault → Result BitOrder Fault
chosen_of (Ok x) low = Ok High
chosen_of (Err f) (Ok x) = Ok Low
chosen_of (Err f) (Err g) = Err f
