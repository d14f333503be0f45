-- The maps have no first fault exactly where they agree with what is claimed.
use Rattle.std.proofs.Common.{◌≡◌, ℕ, zero, suc, ◌<◌, Bool, true, false, not, ◌||◌, List, length, Option, Some, None, refl, ◌∙◌, arith}
use Rattle.pst_fault.specs.declared.fault.Fault.{Fault}
use Rattle.pst_fault.specs.First.{◌then◌, first_below}
use Rattle.pst_fault.proofs.FirstLemmas.{none_then, both_none, none_below, all_none, holds_or_none, holds_or_true, holds_or_some}
use Rattle.pst_fault.proofs.GeneralLemmas.{true_false}
use Rattle.pst_header.specs.Header.{amap_count_of}
use Rattle.pst_space.specs.Claimed.{Claimed, flag_of}
use Rattle.pst_amap.specs.declared.report.BitOrder.{BitOrder}
use Rattle.pst_amap.specs.declared.report.BitOrder.TheVariants.{High, Low}
use Rattle.pst_amap.specs.Map.{amap_fault, amaps_fault}
use Rattle.pst_amap.specs.Marks.{is_marked, unit_fault, marks_fault, missing_of, missing_fault, order_from, bit_order_of}
use Rattle.pst_amap.specs.Report.{maps_fault, IsMarked, MapsLaw}

-- ---- one unit

or_true : (a b : Bool) → (not a || b) ≡ true → a ≡ true → b ≡ true
or_true true b e h = e
or_true false b e h = cc

or_from : (a b : Bool) → (a ≡ true → b ≡ true) → (not a || b) ≡ true
or_from true b h = h refl
or_from false b h = refl

or_false : (a b : Bool) → (not a || b) ≡ false → (a ≡ true) × (b ≡ false)
or_false true b e = (refl, e)
or_false false b e = absurd cc

-- ---- all units, in one order of bits

pub marks_none : (order : BitOrder) (I : List ℕ) (claimed : Claimed) → marks_fault order I claimed ≡ None → IsMarked order I claimed
unfolding unit_fault
marks_none order I claimed e unit lt flag =
    or_true (flag_of claimed unit) (is_marked order I unit) (holds_or_none _ _ (none_below (unit_fault order I claimed) (length claimed) unit e lt)) flag

pub none_marks : (order : BitOrder) (I : List ℕ) (claimed : Claimed) → IsMarked order I claimed → marks_fault order I claimed ≡ None
unfolding unit_fault
none_marks order I claimed marked =
    all_none (unit_fault order I claimed) (length claimed) (λ unit lt. holds_or_true _ _ (or_from (flag_of claimed unit) (is_marked order I unit) (marked unit lt)))

-- a part that has a fault
some_part : (part : ℕ → Option Fault) (n : ℕ) (f : Fault) → first_below part n ≡ Some f → (i : ℕ) × (i < n) × (part i ≡ Some f)
some_part part zero f e = absurd cc
some_part part (suc n) f e = by_front (first_below part n) refl (some_part part n) e
  where
    by_front : (o : Option Fault) → first_below part n ≡ o → ((g : Fault) → first_below part n ≡ Some g → (i : ℕ) × (i < n) × (part i ≡ Some g)) → (o then part n) ≡ Some f → (i : ℕ) × (i < suc n) × (part i ≡ Some f)
    by_front None is ih h = (n, omega arith, h)
    by_front (Some g) is ih h = let found = ih f (is ∙ h) in (found.0, omega (arith, found.1), found.2)

some_unmarked : (order : BitOrder) (I : List ℕ) (claimed : Claimed) (f : Fault) → marks_fault order I claimed ≡ Some f → (unit : ℕ) × (unit < length claimed) × (flag_of claimed unit ≡ true) × (is_marked order I unit ≡ false)
unfolding unit_fault
some_unmarked order I claimed f e =
    let found = some_part (unit_fault order I claimed) (length claimed) f e in
    let broken = or_false (flag_of claimed found.0) (is_marked order I found.0) (holds_or_some _ _ f found.2).0 in
    (found.0, found.1, broken.0, broken.1)

-- ---- the order

order_known : (I : List ℕ) (claimed : Claimed) (high low : Option Fault) → marks_fault High I claimed ≡ high → marks_fault Low I claimed ≡ low → missing_of high low ≡ None
    → IsMarked (order_from high) I claimed × (order_from high ≡ Low → (unit : ℕ) × (unit < length claimed) × (flag_of claimed unit ≡ true) × (is_marked High I unit ≡ false))
order_known I claimed None low h l e = (marks_none High I claimed h, λ is. absurd (high_is_low is))
  where
    high_is_low : (let o : BitOrder = High in o ≡ Low) → ⊥
    high_is_low is = cc
order_known I claimed (Some f) None h l e = (marks_none Low I claimed l, λ is. some_unmarked High I claimed f h)
order_known I claimed (Some f) (Some g) h l e = absurd cc

order_is : (I : List ℕ) (claimed : Claimed) (order : BitOrder) → IsMarked order I claimed → (order ≡ Low → (unit : ℕ) × (unit < length claimed) × (flag_of claimed unit ≡ true) × (is_marked High I unit ≡ false))
    → (missing_of (marks_fault High I claimed) (marks_fault Low I claimed) ≡ None) × (order ≡ order_from (marks_fault High I claimed))
order_is I claimed High marked other = let fits = none_marks High I claimed marked in (rw fits (of_none (marks_fault Low I claimed)), rw fits refl)
  where
    of_none : (low : Option Fault) → missing_of None low ≡ None
    of_none None = refl
    of_none (Some g) = refl
order_is I claimed Low marked other =
    let fits = none_marks Low I claimed marked in
    let unmarked = other refl in
    (rw fits (of_low (marks_fault High I claimed)), by_high (marks_fault High I claimed) refl unmarked)
  where
    of_low : (high : Option Fault) → missing_of high None ≡ None
    of_low None = refl
    of_low (Some f) = refl

    by_high : (high : Option Fault) → marks_fault High I claimed ≡ high → ((unit : ℕ) × (unit < length claimed) × (flag_of claimed unit ≡ true) × (is_marked High I unit ≡ false)) → Low ≡ order_from high
    by_high None is found = absurd (true_false (is_marked High I found.0) (marks_none High I claimed is found.0 found.1 found.2) found.3)
    by_high (Some f) is found = refl

-- ---- the maps

pub maps_law : MapsLaw
unfolding maps_fault missing_fault bit_order_of amap_fault
maps_law I h claimed order = (
  λ m.
      let parts = order_is I claimed order m.marked m.other in
      (both_none (amaps_fault I (amap_count_of h)) _ (all_none (amap_fault I) (amap_count_of h) (λ j lt. holds_or_true _ _ (m.good j lt))) parts.0, parts.1),
  λ (none, is).
      let parts = none_then (amaps_fault I (amap_count_of h)) _ none in
      let known = order_known I claimed (marks_fault High I claimed) (marks_fault Low I claimed) refl refl parts.1 in
      record {
        good = λ j lt. holds_or_none _ _ (none_below (amap_fault I) (amap_count_of h) j parts.0 lt);
        marked = rw is known.0;
        other = rw is known.1;
      },
)
