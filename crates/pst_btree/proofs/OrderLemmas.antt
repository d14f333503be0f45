-- The order of keys, as a loop looks at them.
use Rattle.std.proofs.Common.{◌≡◌, ℕ, ◌+◌, ◌<◌, ◌≤◌, true, false, List, [], ◌∷◌, Option, Some, None, refl}
use Rattle.std.proofs.lemmas.Bool.{le-leb, lt-leb}
use Rattle.pst_fault.specs.declared.kind.Kind.TheVariants.{KeyOrder}
use Rattle.pst_fault.specs.Fault.{fault_in}
use Rattle.pst_page.specs.declared.kind.PageKind.{PageKind}
use Rattle.pst_page.specs.Entry.{key_at}
use Rattle.pst_btree.specs.Order.{order_fault, is_below}

pub order_goes_on : (kind : PageKind) (I : List ℕ) (bid low : ℕ) (high : Option ℕ) (at : ℕ) (rest : List ℕ) → low ≤ key_at kind I at → is_below (key_at kind I at) high ≡ true
    → order_fault kind I bid low high (at ∷ rest) ≡ order_fault kind I bid (key_at kind I at + 1) high rest
unfolding order_fault
order_goes_on kind I bid low high at rest le below = rw (le-leb _ _ le, below) refl

pub order_low : (kind : PageKind) (I : List ℕ) (bid low : ℕ) (high : Option ℕ) (at : ℕ) (rest : List ℕ) → key_at kind I at < low
    → order_fault kind I bid low high (at ∷ rest) ≡ Some (fault_in KeyOrder at bid)
unfolding order_fault
order_low kind I bid low high at rest lt = rw (lt-leb low (key_at kind I at) lt) refl

pub order_high : (kind : PageKind) (I : List ℕ) (bid low : ℕ) (high : Option ℕ) (at : ℕ) (rest : List ℕ) → low ≤ key_at kind I at → is_below (key_at kind I at) high ≡ false
    → order_fault kind I bid low high (at ∷ rest) ≡ Some (fault_in KeyOrder at bid)
unfolding order_fault
order_high kind I bid low high at rest le below = rw (le-leb _ _ le, below) refl

pub order_done : (kind : PageKind) (I : List ℕ) (bid low : ℕ) (high : Option ℕ) → order_fault kind I bid low high [] ≡ None
unfolding order_fault
order_done kind I bid low high = refl
