-- What rows of tables name, kept by the data of the tables.
use Rattle.std.proofs.Common.{◌≡◌, ℕ, Bool, true, false, cond, Some, None, List, [], ◌∷◌, map, refl, sym, ap, ◌∙◌}
use Rattle.std.specs.Ordering.{nat_cmp, eq_by_cmp}
use Rattle.std.specs.BTreeMap.{get, IsEmpty, IsUnchanged}
use Rattle.std.specs.Global.{Vec}
use Rattle.std.proofs.lemmas.Map.Lookups.{exact_unsigned}
use Rattle.std.proofs.lemmas.Map.Views.{tells_apart}
use Rattle.pst_bytes.specs.declared.span.Span.{Span}
use Rattle.pst_block.specs.Block.{bid_key}
use Rattle.pst_block.specs.Table.{Table}
use Rattle.pst_ndb.specs.Roots.{Roots}
use Rattle.pst_tc.specs.Values.{info_of, tc_records, tc_rows, row_parts_at}
use Rattle.pst_tc.proofs.AlikeLaws.{rows_alike}
use Rattle.pst_remembered.specs.declared.row_names.RowName.{RowName}
use Rattle.pst_remembered.specs.declared.row_names.RowNames.{RowNames}
use Rattle.pst_remembered.specs.RowNames.{name_of_row, row_names, AreNamesOf, AreRowNames}

-- ---- the same data: rows that name the same

with_list : Roots → ℕ → Roots
with_list r list = record { top = r.top; bid_data = r.bid_data; bid_sub = list }

same_names : (t : Table) (r s : Roots) (records : List (ℕ × Span)) → map name_of_row (map (row_parts_at t r) records) ≡ map name_of_row (map (row_parts_at t s) records)
same_names t r s [] = refl
same_names t r s (x ∷ records) = ap (λ names. name_of_row (row_parts_at t r x) ∷ names) (same_names t r s records)

-- the list of subnodes says nothing of them
under_any_list : (t : Table) (r : Roots) (list : ℕ) → row_names t r ≡ row_names t (with_list r list)
unfolding row_names tc_rows tc_records info_of with_list
under_any_list t r list = same_names t r (with_list r list) (tc_records t r (info_of t r))

alike : (t : Table) (r s : Roots) → bid_key r.bid_data ≡ bid_key s.bid_data → row_names t r ≡ row_names t s
unfolding row_names with_list
alike t r s e = under_any_list t r s.bid_sub ∙ ap (map name_of_row) (rows_alike t (with_list r s.bid_sub) s (e, refl))

pub are_names : (t : Table) (r : Roots) (block : ℕ) (names : List RowName) → block ≡ bid_key r.bid_data → names ≡ row_names t r → AreNamesOf t block names
are_names t r block names same are = λ s e. are ∙ alike t r s (sym (e ∙ same))

-- ---- what is kept

pub nothing_named : (t : Table) (n : RowNames) → IsEmpty n.tables → AreRowNames t n
unfolding AreRowNames
nothing_named t n empty block names known = absurd (let bad : None ≡ Some names = (rw empty at known) in cc)

-- how many they are says nothing
pub same_tables : (t : Table) (old new : RowNames) → new.tables ≡ old.tables → AreRowNames t old → AreRowNames t new
unfolding AreRowNames
same_tables t old new same are = rw same are

-- one more is kept
pub names_put : (t : Table) (old new : RowNames) (block : ℕ) (names : Vec RowName)
    → ((q : ℕ) → get nat_cmp new.tables q ≡ cond (eq_by_cmp nat_cmp block q) (Some names) (get nat_cmp old.tables q)) → AreNamesOf t block names.items
    → AreRowNames t old → AreRowNames t new
unfolding AreRowNames
names_put t old new block names put is are q found known = by_test (eq_by_cmp nat_cmp block q) refl (sym (put q) ∙ known)
  where
    by_test : (v : Bool) → eq_by_cmp nat_cmp block q ≡ v → cond v (Some names) (get nat_cmp old.tables q) ≡ Some found → AreNamesOf t q found.items
    by_test true here there =
        let same : names ≡ found = cc in
        let place : block ≡ q = tells_apart exact_unsigned block q here in
        rw (← same, ← place) is
    by_test false here there = are q found there

-- or nothing is
pub names_kept : (t : Table) (old new : RowNames) → IsUnchanged old.tables new.tables → AreRowNames t old → AreRowNames t new
unfolding AreRowNames
names_kept t old new same are q found known = are q found (rw same at known)

-- what is kept is so
pub names_known : (t : Table) (r : Roots) (n : RowNames) (block : ℕ) (names : Vec RowName) → AreRowNames t n → get nat_cmp n.tables block ≡ Some names → block ≡ bid_key r.bid_data → names.items ≡ row_names t r
unfolding AreRowNames
names_known t r n block names are found same = are block names found r (sym same)
