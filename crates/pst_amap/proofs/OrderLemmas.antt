-- The order that fits.
use Rattle.std.proofs.Common.{◌≡◌, Option, Some, None, Result, refl}
use Rattle.pst_fault.specs.declared.fault.Fault.{Fault}
use Rattle.pst_fault.specs.First.{answer}
use Rattle.pst_amap.specs.Marks.{missing_of, order_from, chosen_of}

chosen_is : {X : Type 0} (high low : Option Fault) (x : X) → chosen_of (answer high x) (answer low x) ≡ answer (missing_of high low) (order_from high)
chosen_is None None x = refl
chosen_is None (Some g) x = refl
chosen_is (Some f) None x = refl
chosen_is (Some f) (Some g) x = refl

pub order_found : {X : Type 0} (a b : Result X Fault) (high low : Option Fault) (x : X) → a ≡ answer high x → b ≡ answer low x → chosen_of a b ≡ answer (missing_of high low) (order_from high)
order_found a b high low x p q = rw (p, q) (chosen_is high low x)
