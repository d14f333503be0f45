-- What the comparison answers.
use Rattle.std.proofs.Common.{◌≡◌, ℕ, List, Option, None, Result, Ok, Err, refl, sym, ap, ◌∙◌, inr}
use Rattle.pst_fault.specs.declared.fault.Fault.{Fault}
use Rattle.pst_fault.specs.First.{◌then◌, answer, IsFirst}
use Rattle.pst_fault.proofs.FirstLemmas.{answer_ok, answer_err, then_some, then_none}
use Rattle.pst_header.specs.declared.header.Header.{Header}
use Rattle.pst_header.specs.Header.{end_of, amap_count_of}
use Rattle.pst_space.specs.Claimed.{Claimed}
use Rattle.pst_amap.specs.declared.report.BitOrder.{BitOrder}
use Rattle.pst_amap.specs.declared.report.MapReport.{MapReport}
use Rattle.pst_amap.specs.Marks.{bit_order_of}
use Rattle.pst_amap.specs.Old.{OldMaps, old_below}
use Rattle.pst_amap.specs.Lost.{lost_runs}
use Rattle.pst_amap.specs.Report.{maps_fault, old_maps, IsReport}

-- a fault of the first part
pub then_err : {X Y : Type 0} (a b : Option Fault) (x : X) (y : Y) (f : Fault) → Err f ≡ answer a x → Err f ≡ answer (a then b) y
then_err a b x y f e = rw (then_some a b f (answer_err a x f e)) refl

-- the first part passed
pub then_ok : {X Y : Type 0} (a b : Option Fault) (x z : X) (y : Y) (r : Result Y Fault) → Ok z ≡ answer a x → r ≡ answer b y → r ≡ answer (a then b) y
then_ok a b x z y r e g = g ∙ ap (λ o. answer o y) (sym (then_none a b (answer_ok a x z (sym e)).0))

pub found_first : {X : Type 0} (first : Option Fault) (x : X) (f : Fault) → Err f ≡ answer first x → IsFirst first f
found_first first x f e = inr (answer_err first x f e)

pub found_none : {X : Type 0} (first : Option Fault) (x y : X) → Ok y ≡ answer first x → first ≡ None
found_none first x y e = (answer_ok first x y (sym e)).0

found_order : (first : Option Fault) (x y : BitOrder) → Ok y ≡ answer first x → y ≡ x
found_order first x y e = sym (answer_ok first x y (sym e)).1

pub old_are : (I : List ℕ) (h : Header) (claimed new : Claimed) (order : BitOrder) (count : ℕ) → Ok order ≡ answer (maps_fault I h claimed) (bit_order_of I claimed)
    → old_below order I (end_of h) (record { claimed = claimed; count = 0 }) (amap_count_of h) ≡ record { claimed = new; count = count }
    → old_maps I h claimed ≡ record { claimed = new; count = count }
unfolding old_maps
old_are I h claimed new order count e found = rw (← found_order (maps_fault I h claimed) (bit_order_of I claimed) order e) found

pub claims_are : (I : List ℕ) (h : Header) (claimed new : Claimed) (order : BitOrder) (count : ℕ) → Ok order ≡ answer (maps_fault I h claimed) (bit_order_of I claimed)
    → old_below order I (end_of h) (record { claimed = claimed; count = 0 }) (amap_count_of h) ≡ record { claimed = new; count = count }
    → new ≡ (old_maps I h claimed).claimed
claims_are I h claimed new order count e found = ap (λ (o : OldMaps). o.claimed) (sym (old_are I h claimed new order count e found))

pub report_is : (I : List ℕ) (h : Header) (claimed new : Claimed) (report : MapReport) → Ok report.order ≡ answer (maps_fault I h claimed) (bit_order_of I claimed)
    → old_below report.order I (end_of h) (record { claimed = claimed; count = 0 }) (amap_count_of h) ≡ record { claimed = new; count = report.old_maps }
    → report.lost.items ≡ lost_runs report.order I new
    → IsReport I h claimed report
report_is I h claimed new report e found lost =
    let order_is = found_order (maps_fault I h claimed) (bit_order_of I claimed) report.order e in
    let old_is = old_are I h claimed new report.order report.old_maps e found in
    let new_is : new ≡ (old_maps I h claimed).claimed = ap (λ (o : OldMaps). o.claimed) (sym old_is) in
    record {
      order = order_is;
      lost = lost ∙ ap (λ (o : BitOrder). lost_runs o I new) order_is ∙ ap (λ (c : Claimed). lost_runs (bit_order_of I claimed) I c) new_is;
      old_maps = ap (λ (o : OldMaps). o.count) (sym old_is);
    }
