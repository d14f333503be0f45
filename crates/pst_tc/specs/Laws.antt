-- Laws of table contexts.
use Rattle.std.specs.Prelude.{◌≡◌, ℕ, ◌↔◌, List, None, map}
use Rattle.pst_bytes.specs.declared.span.Span.{Span}
use Rattle.pst_block.specs.Table.{Table}
use Rattle.pst_btree.specs.Order.{Rises}
use Rattle.pst_ndb.specs.Roots.{Roots}
use Rattle.pst_ndb.specs.Alike.{Alike}
use Rattle.pst_tc.specs.Fault.{untold_tc_fault, tc_fault}
use Rattle.pst_tc.specs.Grammar.{HasTc, IsTc}
use Rattle.pst_tc.specs.Values.{info_of, tc_records, tc_columns, row_id_of, tc_rows, tc_cell}

-- There is a table context exactly where there is no first fault; and then it has this TCINFO and these records.
abbrev pub TcLaw : Type 0
TcLaw = (t : Table) (r : Roots) → IsTc t r ↔ (tc_fault t r ≡ None)

abbrev pub TcRecordsLaw : Type 0
TcRecordsLaw =
    (t : Table) (r : Roots) (s : Span) (records : List (ℕ × Span)) → HasTc t r s records →
    (s ≡ info_of t r) × (records ≡ tc_records t r (info_of t r))

-- The identifiers of its rows rise: each is there once, so that it is a finite map.
abbrev pub TcRiseLaw : Type 0
TcRiseLaw = (t : Table) (r : Roots) → tc_fault t r ≡ None → Rises 0 None (map row_id_of (tc_rows t r))

-- Roots that are alike have the same table context: the same columns, rows and cells, at the same places, and the same first
-- fault, but for the node that it is told of. So the one has none exactly where the other has none.
abbrev pub AlikeTcLaw : Type 0
AlikeTcLaw =
    (t : Table) (r s : Roots) → Alike r s →
    (tc_columns t r ≡ tc_columns t s) × (tc_rows t r ≡ tc_rows t s)
    × ((row tag : ℕ) → tc_cell t r row tag ≡ tc_cell t s row tag)
    × (untold_tc_fault t r ≡ untold_tc_fault t s)
    × ((tc_fault t r ≡ None) ↔ (tc_fault t s ≡ None))
