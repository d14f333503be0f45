-- A loop over parts that answers the first fault.
use Rattle.std.proofs.Common.{◌≡◌, ℕ, ◌+◌, Option, None, Ok, sym, ap, ◌∙◌}
use Rattle.pst_fault.specs.declared.fault.Fault.{Fault}
use Rattle.pst_fault.specs.First.{first_below, answer}
use Rattle.pst_fault.proofs.FirstLemmas.{answer_ok, answer_none, first_more}

-- one more part without a fault
pub part_passed : {X : Type 0} (part : ℕ → Option Fault) (i : ℕ) (x y : X) → Ok y ≡ answer (part i) x → first_below part i ≡ None → first_below part (i + 1) ≡ None
part_passed part i x y e sound = first_more part i sound (answer_ok (part i) x y (sym e)).0

-- all parts passed
pub all_passed : {X : Type 0} (part : ℕ → Option Fault) (i n : ℕ) (x : X) → first_below part i ≡ None → i ≡ n → Ok x ≡ answer (first_below part n) x
all_passed part i n x sound e = sym (answer_none (first_below part n) x (ap (first_below part) (sym e) ∙ sound))
