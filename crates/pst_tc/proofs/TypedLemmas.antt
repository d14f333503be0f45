-- Cells of the width that their type has in a table.
use Rattle.std.proofs.Common.{◌≡◌, ℕ, true, Option, Some, None, ap, List}
use Rattle.std.proofs.lemmas.Bool.{eqb-true}
use Rattle.pst_value.specs.Class.{cell_width_of}
use Rattle.pst_tc.specs.Info.{column_kind, column_width, has_width, is_typed}

-- a typed cell has the width of its type
pub typed_is : (I : List ℕ) (c : ℕ) → is_typed I c ≡ true → cell_width_of (column_kind I c) ≡ Some (column_width I c)
unfolding is_typed
typed_is I c h = by_width (cell_width_of (column_kind I c)) h
  where
    by_width : (o : Option ℕ) → has_width o (column_width I c) ≡ true → o ≡ Some (column_width I c)
    by_width None h = absurd cc
    by_width (Some w) h = ap Some (eqb-true w (column_width I c) h)
