-- What is remembered of the rows of folders' tables is true.
use Rattle.std.proofs.Common.{◌≡◌, ℕ, Bool, true, false, cond, None, List, refl, sym, ◌∙◌}
use Rattle.std.specs.BTreeMap.{is_at}
use Rattle.std.specs.BTreeSet.{contains}
use Rattle.std.proofs.lemmas.Map.Views.{tells_apart}
use Rattle.pst_fault.specs.Each.{first_of}
use Rattle.pst_fault.proofs.EachLemmas.{of_none, none_of}
use Rattle.pst_page.specs.declared.entry.NodeEntry.{NodeEntry}
use Rattle.pst_block.specs.Block.{bid_key}
use Rattle.pst_block.specs.Table.{Table}
use Rattle.pst_ndb.specs.Roots.{Roots}
use Rattle.pst_remains.specs.declared.pages.Broken.{Broken}
use Rattle.pst_tc.specs.Values.{RowParts, tc_rows}
use Rattle.pst_msg.specs.pst_mail.declared.items.Items.{Items}
use Rattle.pst_msg.specs.pst_mail.declared.items.Items.TheVariants.{Subfolders, Messages, Associated}
use Rattle.pst_msg.specs.Fault.{listed_item_fault}
use Rattle.pst_msg.specs.Keys.{Key, key_cmp}
use Rattle.pst_msg.proofs.ContentsLaws.{item_none, none_item}
use Rattle.pst_msg.proofs.KeyLemmas.{same_data}
use Rattle.pst_msg.proofs.KeyOrderLemmas.{keys_exact}
use Rattle.pst_damage.specs.declared.listings.Listings.{Listings}
use Rattle.pst_damage.specs.Folder.{is_behind, row_damage}
use Rattle.pst_damage.specs.Listings.{items_number, listing_key, is_listed, AreListingsTrue}
use Rattle.pst_damage.proofs.RowsLemmas.{rows_of_data}

-- ---- the same rows under another identifier of the table's data, and another list

row_alike : (nodes : List NodeEntry) (broken : List Broken) (items : Items) (bid other : ℕ) (x : RowParts) → row_damage nodes broken items bid x ≡ None → row_damage nodes broken items other x ≡ None
unfolding row_damage
row_alike nodes broken items bid other x none = by (is_behind nodes broken x.id) none
  where
    by : (v : Bool) → cond v None (listed_item_fault nodes items bid x) ≡ None → cond v None (listed_item_fault nodes items other x) ≡ None
    by true e = refl
    by false e = item_none nodes items other x (none_item nodes items bid x e)

rows_none : (t : Table) (nodes : List NodeEntry) (broken : List Broken) (items : Items) (r s : Roots) → bid_key r.bid_data ≡ bid_key s.bid_data → first_of (row_damage nodes broken items r.bid_data) (tc_rows t r) ≡ None
    → first_of (row_damage nodes broken items s.bid_data) (tc_rows t s) ≡ None
rows_none t nodes broken items r s e none =
    of_none (row_damage nodes broken items s.bid_data) (tc_rows t s)
    (λ x w. row_alike nodes broken items r.bid_data s.bid_data x (none_of (row_damage nodes broken items r.bid_data) (tc_rows t s) x (sym (rows_of_data t nodes broken items r.bid_data r s e) ∙ none) w))

same_items : (a b : Items) → items_number a ≡ items_number b → a ≡ b
same_items Subfolders Subfolders e = refl
same_items Subfolders Messages e = absurd cc
same_items Subfolders Associated e = absurd cc
same_items Messages Subfolders e = absurd cc
same_items Messages Messages e = refl
same_items Messages Associated e = absurd cc
same_items Associated Subfolders e = absurd cc
same_items Associated Messages e = absurd cc
same_items Associated Associated e = refl

-- ---- none, and one more

pub none_listed : (t : Table) (nodes : List NodeEntry) (broken : List Broken) (l : Listings) → ((q : Key) → contains key_cmp l.tables q ≡ false) → AreListingsTrue t nodes broken l
unfolding AreListingsTrue is_listed
none_listed t nodes broken l none items s is = absurd (no_both _ (none (listing_key items s)) is)
  where
    no_both : (b : Bool) → b ≡ false → b ≡ true → ⊥
    no_both true e f = cc
    no_both false e f = cc

pub one_listed : (t : Table) (nodes : List NodeEntry) (broken : List Broken) (items : Items) (r : Roots) (old new : Listings) (q : Key) → q ≡ listing_key items r
    → ((p : Key) → contains key_cmp new.tables p ≡ cond (is_at (key_cmp q) p) true (contains key_cmp old.tables p))
    → first_of (row_damage nodes broken items r.bid_data) (tc_rows t r) ≡ None → AreListingsTrue t nodes broken old → AreListingsTrue t nodes broken new
unfolding AreListingsTrue is_listed
one_listed t nodes broken items r old new q named put none are other s is = by_test (is_at (key_cmp q) (listing_key other s)) refl (sym (put (listing_key other s)) ∙ is)
  where
    by_test : (v : Bool) → is_at (key_cmp q) (listing_key other s) ≡ v → cond v true (contains key_cmp old.tables (listing_key other s)) ≡ true → first_of (row_damage nodes broken other s.bid_data) (tc_rows t s) ≡ None
    by_test true here found =
        let both = same_data (items_number items) (items_number other) r s (sym named ∙ tells_apart keys_exact q (listing_key other s) here) in
        let same : items ≡ other = same_items items other both.0 in
        rw (← same) (rows_none t nodes broken items r s both.1 none)
    by_test false here found = are other s found

-- a table that is remembered
pub rows_known : (t u : Table) (nodes : List NodeEntry) (broken : List Broken) (items : Items) (r : Roots) (l : Listings) → u ≡ t → AreListingsTrue t nodes broken l → is_listed l (listing_key items r) ≡ true
    → first_of (row_damage nodes broken items r.bid_data) (tc_rows u r) ≡ None
unfolding AreListingsTrue
rows_known t u nodes broken items r l same are is = rw same (are items r is)
