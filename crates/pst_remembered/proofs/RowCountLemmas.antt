-- Rows of tables that are counted once: those of tables with the same data.
use Rattle.std.proofs.Common.{◌≡◌, ℕ, Bool, true, false, cond, Some, None, length, refl, sym, ap, ◌∙◌}
use Rattle.std.specs.Ordering.{nat_cmp, eq_by_cmp}
use Rattle.std.specs.BTreeMap.{get, IsEmpty, IsUnchanged}
use Rattle.std.proofs.lemmas.List.{length-map}
use Rattle.std.proofs.lemmas.Map.Lookups.{exact_unsigned}
use Rattle.std.proofs.lemmas.Map.Views.{tells_apart}
use Rattle.pst_block.specs.Block.{bid_key}
use Rattle.pst_block.specs.Table.{Table}
use Rattle.pst_ndb.specs.Roots.{Roots}
use Rattle.pst_tc.specs.Values.{info_of, tc_records, tc_rows, row_parts_at}
use Rattle.pst_tc.proofs.AlikeLaws.{rows_alike}
use Rattle.pst_remembered.specs.declared.row_counts.RowCounts.{RowCounts}
use Rattle.pst_remembered.specs.RowCounts.{IsCountOf, AreRowCounts}

-- ---- the same data: as many rows

with_list : Roots → ℕ → Roots
with_list r list = record { top = r.top; bid_data = r.bid_data; bid_sub = list }

-- the list of subnodes says nothing of how many rows there are
count_is : (t : Table) (r : Roots) → length (tc_rows t r) ≡ length (tc_records t r (info_of t r))
unfolding tc_rows
count_is t r = length-map (tc_records t r (info_of t r)) (row_parts_at t r)

records_same : (t : Table) (r : Roots) (list : ℕ) → tc_records t r (info_of t r) ≡ tc_records t (with_list r list) (info_of t (with_list r list))
unfolding tc_records info_of with_list
records_same t r list = refl

count_same : (t : Table) (r : Roots) (list : ℕ) → length (tc_rows t r) ≡ length (tc_rows t (with_list r list))
count_same t r list = count_is t r ∙ ap length (records_same t r list) ∙ sym (count_is t (with_list r list))

count_alike : (t : Table) (r s : Roots) → bid_key r.bid_data ≡ bid_key s.bid_data → length (tc_rows t r) ≡ length (tc_rows t s)
unfolding with_list
count_alike t r s e = count_same t r s.bid_sub ∙ ap length (rows_alike t (with_list r s.bid_sub) s (e, refl))

pub is_count : (t : Table) (r : Roots) (count block : ℕ) → count ≡ length (tc_rows t r) → block ≡ bid_key r.bid_data → IsCountOf t block count
is_count t r count block is same = λ s e. is ∙ count_alike t r s (sym (e ∙ same))

-- ---- what is known

pub nothing_counted : (t : Table) (c : RowCounts) → IsEmpty c.tables → AreRowCounts t c
unfolding AreRowCounts
nothing_counted t c empty q y known = absurd (let bad : None ≡ Some y = (rw empty at known) in cc)

-- one more is known
pub table_put : (t : Table) (old new : RowCounts) (block count : ℕ)
    → ((q : ℕ) → get nat_cmp new.tables q ≡ cond (eq_by_cmp nat_cmp block q) (Some count) (get nat_cmp old.tables q)) → IsCountOf t block count → AreRowCounts t old → AreRowCounts t new
unfolding AreRowCounts
table_put t old new block count put is are q y known = by_test (eq_by_cmp nat_cmp block q) refl (sym (put q) ∙ known)
  where
    by_test : (v : Bool) → eq_by_cmp nat_cmp block q ≡ v → cond v (Some count) (get nat_cmp old.tables q) ≡ Some y → IsCountOf t q y
    by_test true here found =
        let same : count ≡ y = cc in
        let place : block ≡ q = tells_apart exact_unsigned block q here in
        rw (← same, ← place) is
    by_test false here found = are q y found

-- or nothing is
pub table_kept : (t : Table) (old new : RowCounts) → IsUnchanged old.tables new.tables → AreRowCounts t old → AreRowCounts t new
unfolding AreRowCounts
table_kept t old new same are q y known = are q y (rw same at known)

-- what is known is so
pub table_known : (t : Table) (r : Roots) (c : RowCounts) (block count : ℕ) → AreRowCounts t c → get nat_cmp c.tables block ≡ Some count → block ≡ bid_key r.bid_data → count ≡ length (tc_rows t r)
unfolding AreRowCounts
table_known t r c block count are found same = are block count found r (sym same)
