-- The rows of an attachment table that are left: the next one.
use Rattle.std.proofs.Common.{◌≡◌, ℕ, zero, suc, ◌+◌, ◌≤◌, List, [], ◌∷◌, map, length, drop, Option, Some, None, refl, arith}
use Rattle.std.specs.Prelude.{slice_get, IfSome, IfNone}
use Rattle.std.proofs.lemmas.List.{drop_all, length-map}
use Rattle.pst_block.specs.Table.{Table}
use Rattle.pst_ndb.specs.Roots.{Roots}
use Rattle.pst_tc.specs.Values.{RowParts, tc_rows}
use Rattle.pst_remembered.specs.declared.row_names.RowName.{RowName}
use Rattle.pst_remembered.specs.RowNames.{name_of_row, row_names}
use Rattle.pst_msg.specs.Rest.{IsNextRow, AreNoRows}

-- ---- by a number

name_at : (rows : List RowParts) (n : ℕ) (name : RowName) → Some name ≡ slice_get (map name_of_row rows) n → IsNextRow (drop n rows) name (drop (suc n) rows)
name_at [] n name e = cc
name_at (x ∷ rows) zero name e = record { row = x; named = cc; first = refl }
name_at (x ∷ rows) (suc n) name e = name_at rows n name e

none_at : (rows : List RowParts) (n : ℕ) → None ≡ slice_get (map name_of_row rows) n → AreNoRows (drop n rows) (drop (suc n) rows)
none_at [] n e = (drop_all n [] (omega arith), drop_all (suc n) [] (omega arith))
none_at (x ∷ rows) zero e = absurd (let bad : None ≡ Some (name_of_row x) = e in cc)
none_at (x ∷ rows) (suc n) e = none_at rows n e

pub next_named : (t : Table) (r : Roots) (n : ℕ) (o : Option RowName) → o ≡ slice_get (row_names t r) n → IfSome o (λ name. IsNextRow (drop n (tc_rows t r)) name (drop (n + 1) (tc_rows t r)))
unfolding row_names
next_named t r n None e = tt
next_named t r n (Some name) e = let more : n + 1 ≡ suc n = omega arith in rw more (name_at (tc_rows t r) n name e)

pub none_named : (t : Table) (r : Roots) (n : ℕ) (o : Option RowName) → o ≡ slice_get (row_names t r) n → IfNone o (AreNoRows (drop n (tc_rows t r)) (drop (n + 1) (tc_rows t r)))
unfolding row_names
none_named t r n None e = let more : n + 1 ≡ suc n = omega arith in rw more (none_at (tc_rows t r) n e)
none_named t r n (Some name) e = tt

-- behind the last one
pub all_passed : (t : Table) (r : Roots) (n count : ℕ) → count ≡ length (row_names t r) → count ≤ n → AreNoRows (drop n (tc_rows t r)) (drop n (tc_rows t r))
unfolding row_names
all_passed t r n count is past =
    let none = drop_all n (tc_rows t r) (omega (arith, is, length-map (tc_rows t r) name_of_row, past)) in
    (none, none)

-- ---- of an iterator

pub next_of_rows : (old new : List RowParts) (x : RowParts) → old ≡ x ∷ new → IsNextRow old (name_of_row x) new
next_of_rows old new x e = record { row = x; named = refl; first = e }
