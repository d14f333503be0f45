-- Rows of tables that are counted once: those of tables with the same data, and of messages with the same list of subnodes.
use Rattle.std.proofs.Common.{◌≡◌, ℕ, Bool, true, false, cond, Option, Some, None, length, BTreeMap, refl, sym, ap, ◌∙◌}
use Rattle.std.specs.Prelude.{option_map}
use Rattle.std.specs.Ordering.{nat_cmp, eq_by_cmp}
use Rattle.std.specs.BTreeMap.{get, IsEmpty, IsUnchanged}
use Rattle.std.proofs.lemmas.List.{length-map}
use Rattle.std.proofs.lemmas.Map.Lookups.{exact_unsigned}
use Rattle.std.proofs.lemmas.Map.Views.{tells_apart}
use Rattle.pst_block.specs.Block.{bid_key}
use Rattle.pst_block.specs.Table.{Table}
use Rattle.pst_btree.specs.Entries.{first_with}
use Rattle.pst_ndb.specs.pst_subnode.declared.sub.Sub.{Sub}
use Rattle.pst_ndb.specs.pst_subnode.List.{sub_nid, subs_of}
use Rattle.pst_ndb.specs.Roots.{Roots, sub_roots, subnode_of}
use Rattle.pst_ndb.proofs.pst_subnode.HeightLaws.{subs_same}
use Rattle.pst_value_json.specs.pst_tc.Laws.{AlikeTcLaw}
use Rattle.pst_value_json.specs.pst_tc.Values.{info_of, tc_records, tc_rows, row_parts_at}
use Rattle.pst_verify.specs.pst_msg.Shown.{attachment_rows}
use Rattle.pst_json.specs.declared.row_counts.Held.{Held}
use Rattle.pst_json.specs.declared.row_counts.RowCounts.{RowCounts}
use Rattle.pst_json.specs.Folders.{row_total}
use Rattle.pst_props.specs.Node.{recipient_nid}
use Rattle.pst_msg.specs.RowCounts.{IsCountOf}
use Rattle.pst_json.specs.RowCounts.{IsHeld, IsHeldBy, AreCountsTrue}

-- ---- the same data: as many rows

with_list : Roots → ℕ → Roots
with_list r list = record { top = r.top; bid_data = r.bid_data; bid_sub = list }

-- the list of subnodes says nothing of how many rows there are
count_is : (t : Table) (r : Roots) → length (tc_rows t r) ≡ length (tc_records t r (info_of t r))
unfolding tc_rows
count_is t r = length-map (tc_records t r (info_of t r)) (row_parts_at t r)

records_same : (t : Table) (r : Roots) (list : ℕ) → tc_records t r (info_of t r) ≡ tc_records t (with_list r list) (info_of t (with_list r list))
unfolding tc_records info_of with_list
records_same t r list = refl

count_same : (t : Table) (r : Roots) (list : ℕ) → length (tc_rows t r) ≡ length (tc_rows t (with_list r list))
count_same t r list = count_is t r ∙ ap length (records_same t r list) ∙ sym (count_is t (with_list r list))

rows_alike : AlikeTcLaw → (t : Table) (r s : Roots) → bid_key r.bid_data ≡ bid_key s.bid_data → length (tc_rows t r) ≡ length (tc_rows t s)
unfolding with_list
rows_alike law t r s e = count_same t r s.bid_sub ∙ ap length ((law t (with_list r s.bid_sub) s (e, refl)).1)

pub is_count : AlikeTcLaw → (t : Table) (r : Roots) (count block : ℕ) → count ≡ length (tc_rows t r) → block ≡ bid_key r.bid_data → IsCountOf t block count
is_count law t r count block is same = λ s e. is ∙ rows_alike law t r s (sym (e ∙ same))

-- ---- the same list: as many rows in a table that is sought there

found_alike : AlikeTcLaw → (t : Table) (r s : Roots) (found : Option Sub) → row_total t (option_map (sub_roots r) found) ≡ row_total t (option_map (sub_roots s) found)
found_alike law t r s None = refl
found_alike law t r s (Some x) = rows_alike law t (sub_roots r x) (sub_roots s x) refl

total_alike : AlikeTcLaw → (t : Table) (r s : Roots) (nid : ℕ) → bid_key r.bid_sub ≡ bid_key s.bid_sub → row_total t (subnode_of t r nid) ≡ row_total t (subnode_of t s nid)
unfolding subnode_of
total_alike law t r s nid e = rw (subs_same t r.bid_sub s.bid_sub e) (found_alike law t r s (first_with sub_nid nid (subs_of t s.bid_sub)))

attachments_alike : AlikeTcLaw → (t : Table) (r s : Roots) → bid_key r.bid_sub ≡ bid_key s.bid_sub → length (attachment_rows t r) ≡ length (attachment_rows t s)
unfolding attachment_rows
attachments_alike law t r s e = total_alike law t r s 0x671 e

pub is_held : AlikeTcLaw → (t : Table) (r : Roots) (held : Held) (list : ℕ) → IsHeld t r held → list ≡ bid_key r.bid_sub → IsHeldBy t list held
is_held law t r held list is same =
    λ s e. (is.0 ∙ attachments_alike law t r s (sym (e ∙ same)), is.1 ∙ total_alike law t r s recipient_nid (sym (e ∙ same)))

-- ---- what is known

-- of the same table
pub counts_of : (t u : Table) (c : RowCounts) → u ≡ t → AreCountsTrue t c → AreCountsTrue u c
counts_of t u c same are = rw same are

nothing : {X : Type 0} (P : ℕ → X → Type 0) (m : BTreeMap ℕ X) → IsEmpty m → (q : ℕ) (y : X) → get nat_cmp m q ≡ Some y → P q y
nothing P m empty q y known = absurd (let bad : None ≡ Some y = (rw empty at known) in cc)

pub nothing_counted : (t : Table) (c : RowCounts) → IsEmpty c.lists → IsEmpty c.tables → AreCountsTrue t c
unfolding AreCountsTrue
nothing_counted t c lists tables = (nothing (IsHeldBy t) c.lists lists, nothing (IsCountOf t) c.tables tables)

-- one more is known
more : {X : Type 0} (P : ℕ → X → Type 0) (k : ℕ) (x : X) (had has : BTreeMap ℕ X) → ((q : ℕ) → get nat_cmp has q ≡ cond (eq_by_cmp nat_cmp k q) (Some x) (get nat_cmp had q)) → P k x
    → ((q : ℕ) (y : X) → get nat_cmp had q ≡ Some y → P q y) → (q : ℕ) (y : X) → get nat_cmp has q ≡ Some y → P q y
more P k x had has put is are q y known = by_test (eq_by_cmp nat_cmp k q) refl (sym (put q) ∙ known)
  where
    by_test : (v : Bool) → eq_by_cmp nat_cmp k q ≡ v → cond v (Some x) (get nat_cmp had q) ≡ Some y → P q y
    by_test true here found =
        let same : x ≡ y = cc in
        let place : k ≡ q = tells_apart exact_unsigned k q here in
        rw (← same, ← place) is
    by_test false here found = are q y found

-- or nothing is
kept : {X : Type 0} (P : ℕ → X → Type 0) (had has : BTreeMap ℕ X) → IsUnchanged had has
    → ((q : ℕ) (y : X) → get nat_cmp had q ≡ Some y → P q y) → (q : ℕ) (y : X) → get nat_cmp has q ≡ Some y → P q y
kept P had has same are q y known = are q y (rw same at known)

pub table_put : (t : Table) (old new : RowCounts) (block count : ℕ) → new.lists ≡ old.lists
    → ((q : ℕ) → get nat_cmp new.tables q ≡ cond (eq_by_cmp nat_cmp block q) (Some count) (get nat_cmp old.tables q)) → IsCountOf t block count → AreCountsTrue t old → AreCountsTrue t new
unfolding AreCountsTrue
table_put t old new block count lists put is are = (rw lists are.0, more (IsCountOf t) block count old.tables new.tables put is are.1)

pub table_kept : (t : Table) (old new : RowCounts) → new.lists ≡ old.lists → IsUnchanged old.tables new.tables → AreCountsTrue t old → AreCountsTrue t new
unfolding AreCountsTrue
table_kept t old new lists same are = (rw lists are.0, kept (IsCountOf t) old.tables new.tables same are.1)

pub list_put : (t : Table) (old new : RowCounts) (list : ℕ) (held : Held) → new.tables ≡ old.tables
    → ((q : ℕ) → get nat_cmp new.lists q ≡ cond (eq_by_cmp nat_cmp list q) (Some held) (get nat_cmp old.lists q)) → IsHeldBy t list held → AreCountsTrue t old → AreCountsTrue t new
unfolding AreCountsTrue
list_put t old new list held tables put is are = (more (IsHeldBy t) list held old.lists new.lists put is are.0, rw tables are.1)

pub list_kept : (t : Table) (old new : RowCounts) → new.tables ≡ old.tables → IsUnchanged old.lists new.lists → AreCountsTrue t old → AreCountsTrue t new
unfolding AreCountsTrue
list_kept t old new tables same are = (kept (IsHeldBy t) old.lists new.lists same are.0, rw tables are.1)

-- what is known is so
pub table_known : (t : Table) (r : Roots) (c : RowCounts) (block count : ℕ) → AreCountsTrue t c → get nat_cmp c.tables block ≡ Some count → block ≡ bid_key r.bid_data → count ≡ length (tc_rows t r)
unfolding AreCountsTrue
table_known t r c block count are found same = are.1 block count found r (sym same)

pub list_known : (t : Table) (r : Roots) (c : RowCounts) (list : ℕ) (held : Held) → AreCountsTrue t c → get nat_cmp c.lists list ≡ Some held → list ≡ bid_key r.bid_sub → IsHeld t r held
unfolding AreCountsTrue
list_known t r c list held are found same = are.0 list held found r (sym same)
