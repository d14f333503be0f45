-- Rows that are kept by the data of their table.
use Rattle.std.proofs.Common.{◌≡◌, ℕ, Bool, true, false, cond, Some, None, List, [], ◌∷◌, map, refl, sym, ap, ◌∙◌}
use Rattle.std.specs.Ordering.{nat_cmp, eq_by_cmp}
use Rattle.std.specs.BTreeMap.{get, IsEmpty, IsUnchanged}
use Rattle.std.specs.Global.{Vec}
use Rattle.std.specs.List.{filter}
use Rattle.std.proofs.lemmas.Map.Lookups.{exact_unsigned}
use Rattle.std.proofs.lemmas.Map.Views.{tells_apart}
use Rattle.serde_json.specs.Data.{array}
use Rattle.serde_json.specs.View.{items_of}
use Rattle.pst_bytes.specs.declared.Span.{Span}
use Rattle.pst_block.specs.Block.{bid_key}
use Rattle.pst_block.specs.Table.{Table}
use Rattle.pst_ndb.specs.Roots.{Roots}
use Rattle.pst_value_json.specs.pst_text.Names.{nid_data}
use Rattle.pst_value_json.specs.pst_text.Parts.{list_data}
use Rattle.pst_value_json.specs.pst_tc.Laws.{AlikeTcLaw}
use Rattle.pst_value_json.specs.pst_tc.Values.{RowParts, info_of, tc_records, tc_rows, row_id_of, row_parts_at}
use Rattle.pst_json.specs.declared.row_ids.RowIds.{RowIds}
use Rattle.pst_json.specs.Folders.{row_nid}
use Rattle.pst_json.specs.RowIds.{all_asked, ids_asked, AreIdsOf, AreRowIdsTrue}

-- ---- tables with the same data: rows with the same identifiers

with_list : Roots → ℕ → Roots
with_list r list = record { top = r.top; bid_data = r.bid_data; bid_sub = list }

same_ids : (t : Table) (r s : Roots) (records : List (ℕ × Span)) → map row_id_of (map (row_parts_at t r) records) ≡ map row_id_of (map (row_parts_at t s) records)
same_ids t r s [] = refl
same_ids t r s (x ∷ records) = ap (λ ids. x.0 ∷ ids) (same_ids t r s records)

-- the list of subnodes says nothing of them
under_any_list : (t : Table) (r : Roots) (list : ℕ) → map row_id_of (tc_rows t r) ≡ map row_id_of (tc_rows t (with_list r list))
unfolding tc_rows tc_records info_of with_list
under_any_list t r list = same_ids t r (with_list r list) (tc_records t r (info_of t r))

alike : AlikeTcLaw → (t : Table) (r s : Roots) → bid_key r.bid_data ≡ bid_key s.bid_data → map row_id_of (tc_rows t r) ≡ map row_id_of (tc_rows t s)
unfolding with_list
alike law t r s e = under_any_list t r s.bid_sub ∙ ap (map row_id_of) ((law t (with_list r s.bid_sub) s (e, refl)).1)

pub are_ids : AlikeTcLaw → (asked : ℕ → Bool) (t : Table) (r : Roots) (block : ℕ) (nids : List ℕ) → block ≡ bid_key r.bid_data → nids ≡ ids_asked asked t r → AreIdsOf asked t block nids
are_ids law asked t r block nids same are = λ s e. are ∙ ap (filter asked) (alike law t r s (sym (e ∙ same)))

-- ---- what is known

-- of the same table
pub ids_of_table : (asked : ℕ → Bool) (t u : Table) (c : RowIds) → u ≡ t → AreRowIdsTrue asked t c → AreRowIdsTrue asked u c
ids_of_table asked t u c same are = rw same are

pub nothing_kept : (asked : ℕ → Bool) (t : Table) (c : RowIds) → IsEmpty c.tables → AreRowIdsTrue asked t c
unfolding AreRowIdsTrue
nothing_kept asked t c empty block nids known = absurd (let bad : None ≡ Some nids = (rw empty at known) in cc)

-- the tables that are met say nothing
pub met_more : (asked : ℕ → Bool) (t : Table) (old new : RowIds) → new.tables ≡ old.tables → AreRowIdsTrue asked t old → AreRowIdsTrue asked t new
unfolding AreRowIdsTrue
met_more asked t old new same are = rw same are

-- one more is known
pub ids_put : (asked : ℕ → Bool) (t : Table) (old new : RowIds) (block : ℕ) (nids : Vec ℕ)
    → ((q : ℕ) → get nat_cmp new.tables q ≡ cond (eq_by_cmp nat_cmp block q) (Some nids) (get nat_cmp old.tables q)) → AreIdsOf asked t block nids.items
    → AreRowIdsTrue asked t old → AreRowIdsTrue asked t new
unfolding AreRowIdsTrue
ids_put asked t old new block nids put is are q found known = by_test (eq_by_cmp nat_cmp block q) refl (sym (put q) ∙ known)
  where
    by_test : (v : Bool) → eq_by_cmp nat_cmp block q ≡ v → cond v (Some nids) (get nat_cmp old.tables q) ≡ Some found → AreIdsOf asked t q found.items
    by_test true here there =
        let same : nids ≡ found = cc in
        let place : block ≡ q = tells_apart exact_unsigned block q here in
        rw (← same, ← place) is
    by_test false here there = are q found there

-- or nothing is
pub ids_kept : (asked : ℕ → Bool) (t : Table) (old new : RowIds) → IsUnchanged old.tables new.tables → AreRowIdsTrue asked t old → AreRowIdsTrue asked t new
unfolding AreRowIdsTrue
ids_kept asked t old new same are q found known = are q found (rw same at known)

-- what is known is so
pub ids_known : (c : RowIds) (block : ℕ) (nids : Vec ℕ) → get nat_cmp c.tables block ≡ Some nids → (asked : ℕ → Bool) (t : Table) → AreRowIdsTrue asked t c → AreIdsOf asked t block nids.items
unfolding AreRowIdsTrue
ids_known c block nids found asked t are = are block nids found

-- ---- all of them, as a list of identifiers

nids_shown : (rows : List RowParts) → map nid_data (filter all_asked (map row_id_of rows)) ≡ map row_nid rows
nids_shown [] = refl
nids_shown (x ∷ rows) = ap (λ l. nid_data x.id ∷ l) (nids_shown rows)

pub nids_listed : (t : Table) (r : Roots) (nids : List ℕ) → nids ≡ ids_asked all_asked t r → list_data nid_data nids ≡ list_data row_nid (tc_rows t r)
nids_listed t r nids are = rw are (ap (λ l. array (items_of l)) (nids_shown (tc_rows t r)))
