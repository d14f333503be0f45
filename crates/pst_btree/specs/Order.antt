-- The order of the keys of a page, between the bounds that all pages above give it ([MS-PST] 2.2.2.7.7.1).
use Rattle.std.specs.Prelude.{◌≡◌, ℕ, ◌+◌, ◌≤◌, ⊤, Bool, true, ◌&&◌, nat_le, nat_lt, List, [], ◌∷◌, Option, Some, None, if◌then◌else◌}
use Rattle.pst_fault.specs.declared.fault.Fault.{Fault}
use Rattle.pst_fault.specs.declared.kind.Kind.TheVariants.{KeyOrder}
use Rattle.pst_fault.specs.Fault.{fault_in}
use Rattle.pst_page.specs.declared.kind.PageKind.{PageKind}
use Rattle.pst_page.specs.Entry.{key_at}

-- below a bound, if there is one
abbrev pub is_below : ℕ → Option ℕ → Bool
is_below key None = true
is_below key (Some high) = nat_lt key high

abbrev pub IsBelow : ℕ → Option ℕ → Type 0
IsBelow key high = is_below key high ≡ true

-- the keys rise strictly, are at least low and, where there is a high, below it
abbrev pub Rises : ℕ → Option ℕ → List ℕ → Type 0
Rises low high [] = ⊤
Rises low high (key ∷ keys) = (low ≤ key) × IsBelow key high × Rises (key + 1) high keys

-- The first of the entries at these places whose key does not: it is told at the entry, with the identifier of the page.
unfoldable pub order_fault : PageKind → List ℕ → ℕ → ℕ → Option ℕ → List ℕ → Option Fault
order_fault kind I bid low high [] = None
order_fault kind I bid low high (at ∷ rest) =
    if nat_le low (key_at kind I at) && is_below (key_at kind I at) high then order_fault kind I bid (key_at kind I at + 1) high rest
    else Some (fault_in KeyOrder at bid)
