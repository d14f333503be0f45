-- What was asked of a list of subnodes, met by another one.
use Rattle.std.specs.Prelude.{◌≡◌, ℕ, Bool, true, ◌&&◌, List, Option, None}
use Rattle.std.specs.BTreeSet.{keys}
use Rattle.pst_fault.specs.declared.fault.Fault.{Fault}
use Rattle.pst_block.specs.Table.{Table}
use Rattle.pst_ndb.specs.Roots.{Roots}
use Rattle.pst_value.specs.declared.asks.Asks.{Asks}
use Rattle.pst_value.specs.Asks.{SameData, all_fit, has_matrix}

-- the row matrix that is asked for, by its identifier and the block of its data, and the subnodes in which values lie, each by its
-- identifier and the type of the value
abbrev pub asked_matrix : Asks → Option (ℕ × ℕ)
asked_matrix asks = asks.matrix

abbrev pub asked_values : Asks → List (ℕ × ℕ)
asked_values asks = keys asks.values

-- the list of these roots meets all that is asked
unfoldable pub are_met : Table → Roots → Asks → Bool
are_met t r asks = has_matrix t r (asked_matrix asks) && all_fit t r (asked_values asks)

-- no less is asked later
abbrev pub AsksMore : Asks → Asks → Type 0
AsksMore old new = (t : Table) (s : Roots) → are_met t s new ≡ true → are_met t s old ≡ true

-- under roots that name the same data as these, and whose list meets what is asked, a part has no fault
abbrev pub HoldsWith : Table → Roots → Asks → (Roots → Option Fault) → Type 0
HoldsWith t r asks part = (s : Roots) → SameData r s → are_met t s asks ≡ true → part s ≡ None
