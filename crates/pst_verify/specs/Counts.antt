-- How many nodes there are, and how many of a kind.
use Rattle.std.specs.Prelude.{ℕ, Bool, List, length}
use Rattle.pst_ndb.specs.Roots.{Roots}
use Rattle.pst_reach.specs.pst_store.Kind.{of_kind}

abbrev pub count_of : (ℕ → Bool) → List Roots → ℕ
count_of kind nodes = length (of_kind kind nodes)
