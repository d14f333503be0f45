-- Eight units from a multiple of 8 on: one byte of their map, and eight flags.
use Rattle.std.proofs.Common.{◌≡◌, ℕ, ◌+◌, ◌-◌, ◌*◌, ◌%◌, ◌<◌, Bool, true, false, List, Option, None, refl, sym, ◌∙◌, arith, inl, inr}
use Rattle.std.specs.Prelude.{nat_eq, not, ◌&&◌, ◌||◌}
use Rattle.std.specs.Int.{bit_at}
use Rattle.std.proofs.lemmas.Bool.{cases_lt}
use Rattle.std.proofs.lemmas.Nat.Bits.{bit_at_ones, bit_at-zero}
use Rattle.pst_bytes.specs.Image.{num}
use Rattle.pst_fault.specs.declared.fault.Fault.{Fault}
use Rattle.pst_fault.specs.declared.kind.Kind.TheVariants.{MapMissing}
use Rattle.pst_fault.specs.Fault.{fault_at}
use Rattle.pst_fault.specs.First.{first_below, holds_or}
use Rattle.pst_fault.proofs.FirstLemmas.{all_none, none_below}
use Rattle.pst_space.specs.Claimed.{Claimed, flag_of}
use Rattle.pst_amap.specs.declared.report.BitOrder.{BitOrder}
use Rattle.pst_amap.specs.declared.report.BitOrder.TheVariants.{High, Low}
use Rattle.pst_amap.specs.Marks.{mark_place, mark_bit, is_marked, unit_fault}
use Rattle.pst_amap.specs.Lost.{is_lost}

-- they are marked in one byte
one_place : (unit i : ℕ) → unit % 8 ≡ 0 → i < 8 → mark_place (unit + i) ≡ mark_place unit
one_place unit i whole within = omega arith

bit_below : (order : BitOrder) (unit : ℕ) → mark_bit order unit < 8
bit_below High unit = omega arith
bit_below Low unit = omega arith

-- a full byte marks each
marked_in_full : (order : BitOrder) (I : List ℕ) (unit i : ℕ) → unit % 8 ≡ 0 → i < 8 → num I (mark_place unit) 1 ≡ 255 → is_marked order I (unit + i) ≡ true
unfolding is_marked
marked_in_full order I unit i whole within full = rw (one_place unit i whole within, full, bit_at_ones 8 (mark_bit order (unit + i)) (bit_below order (unit + i))) refl

-- an empty one marks none
marked_in_empty : (order : BitOrder) (I : List ℕ) (unit i : ℕ) → unit % 8 ≡ 0 → i < 8 → num I (mark_place unit) 1 ≡ 0 → is_marked order I (unit + i) ≡ false
unfolding is_marked
marked_in_empty order I unit i whole within empty = rw (one_place unit i whole within, empty, bit_at-zero (mark_bit order (unit + i))) refl

-- the byte has the flags of eight units from one on
abbrev pub Eight : Claimed → ℕ → ℕ → Type 0
Eight claimed unit byte = (i : ℕ) → i < 8 → nat_eq (bit_at byte i) 1 ≡ flag_of claimed (unit + i)

claimed_in_full : (claimed : Claimed) (unit byte i : ℕ) → Eight claimed unit byte → i < 8 → byte ≡ 255 → flag_of claimed (unit + i) ≡ true
claimed_in_full claimed unit byte i eight within full = sym (eight i within) ∙ rw (full, bit_at_ones 8 i within) refl

claimed_in_empty : (claimed : Claimed) (unit byte i : ℕ) → Eight claimed unit byte → i < 8 → byte ≡ 0 → flag_of claimed (unit + i) ≡ false
claimed_in_empty claimed unit byte i eight within empty = sym (eight i within) ∙ rw (empty, bit_at-zero i) refl

-- ---- no fault

pub marked_without_fault : (order : BitOrder) (I : List ℕ) (claimed : Claimed) (unit i : ℕ) → unit % 8 ≡ 0 → i < 8 → num I (mark_place unit) 1 ≡ 255 → unit_fault order I claimed (unit + i) ≡ None
unfolding unit_fault
marked_without_fault order I claimed unit i whole within full = rw (marked_in_full order I unit i whole within full) (either (flag_of claimed (unit + i)))
  where
    either : (flag : Bool) → holds_or (not flag || true) (fault_at MapMissing (17408 + 64 * (unit + i))) ≡ None
    either true = refl
    either false = refl

pub clear_without_fault : (order : BitOrder) (I : List ℕ) (claimed : Claimed) (unit byte i : ℕ) → Eight claimed unit byte → i < 8 → byte ≡ 0 → unit_fault order I claimed (unit + i) ≡ None
unfolding unit_fault
clear_without_fault order I claimed unit byte i eight within empty = rw (claimed_in_empty claimed unit byte i eight within empty) refl

-- parts one after another that have no fault, behind those before
pub first_more_all : (part : ℕ → Option Fault) (n k : ℕ) → first_below part n ≡ None → ((i : ℕ) → i < k → part (n + i) ≡ None) → first_below part (n + k) ≡ None
first_more_all part n k before none =
    all_none part (n + k) (λ i lt. elim (cases_lt i n) [
      | inl front ↦ none_below part n i before front
      | inr behind ↦ let e : n + (i - n) ≡ i = omega arith in rw (← e) (none (i - n) (omega arith))
    ])

-- ---- not lost

pub unmarked_not_lost : (order : BitOrder) (I : List ℕ) (claimed : Claimed) (unit i : ℕ) → unit % 8 ≡ 0 → i < 8 → num I (mark_place unit) 1 ≡ 0 → is_lost order I claimed (unit + i) ≡ false
unfolding is_lost
unmarked_not_lost order I claimed unit i whole within empty = rw (marked_in_empty order I unit i whole within empty) refl

pub claimed_not_lost : (order : BitOrder) (I : List ℕ) (claimed : Claimed) (unit byte i : ℕ) → Eight claimed unit byte → i < 8 → byte ≡ 255 → is_lost order I claimed (unit + i) ≡ false
unfolding is_lost
claimed_not_lost order I claimed unit byte i eight within full = rw (claimed_in_full claimed unit byte i eight within full) (neither (is_marked order I (unit + i)))
  where
    neither : (mark : Bool) → (mark && not true) ≡ false
    neither true = refl
    neither false = refl
