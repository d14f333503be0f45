-- What a table context asks of the list of subnodes of its node.
use Rattle.std.specs.Prelude.{◌≡◌, ℕ, true, Option, None}
use Rattle.pst_bytes.specs.declared.span.Span.{Span}
use Rattle.pst_block.specs.Table.{Table}
use Rattle.pst_ndb.specs.Roots.{Roots}
use Rattle.pst_value.specs.declared.asks.Asks.{Asks}
use Rattle.pst_value.specs.Asks.{SameData, has_matrix}
use Rattle.pst_value.specs.Met.{are_met}
use Rattle.pst_tc.specs.Values.{row_of_record}
use Rattle.pst_tc.specs.Fault.{matrix_fault}

-- the matrix that TCINFO names is there under these other roots too, and has the same rows
abbrev pub SameMatrix : Table → Roots → Span → Roots → Type 0
SameMatrix t r i s = (matrix_fault t s i ≡ None) × ((x : ℕ × Span) → row_of_record t s i x ≡ row_of_record t r i x)

-- so it is under all that name the same data, and whose list has the matrix that is asked for
abbrev pub AsksMatrix : Table → Roots → Span → Option (ℕ × ℕ) → Type 0
AsksMatrix t r i a = (s : Roots) → SameData r s → has_matrix t s a ≡ true → SameMatrix t r i s

abbrev pub HoldsMatrix : Table → Roots → Span → Asks → Type 0
HoldsMatrix t r i asks = (s : Roots) → SameData r s → are_met t s asks ≡ true → SameMatrix t r i s
