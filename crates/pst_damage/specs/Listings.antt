-- The tables of folders whose rows are known to have no fault.
use Rattle.std.specs.Prelude.{◌≡◌, ℕ, Bool, true, None, List}
use Rattle.std.specs.BTreeSet.{contains}
use Rattle.pst_fault.specs.Each.{first_of}
use Rattle.pst_page.specs.declared.entry.NodeEntry.{NodeEntry}
use Rattle.pst_block.specs.Table.{Table}
use Rattle.pst_ndb.specs.Roots.{Roots}
use Rattle.pst_remains.specs.declared.pages.Broken.{Broken}
use Rattle.pst_tc.specs.Values.{tc_rows}
use Rattle.pst_msg.specs.pst_mail.declared.items.Items.{Items}
use Rattle.pst_msg.specs.pst_mail.declared.items.Items.TheVariants.{Subfolders, Messages, Associated}
use Rattle.pst_msg.specs.Keys.{Key, data_key, key_cmp}
use Rattle.pst_damage.specs.declared.listings.Listings.{Listings}
use Rattle.pst_damage.specs.Folder.{row_damage}

-- a table that lists these, by its data alone, in which all that the rows name stands
abbrev pub items_number : Items → ℕ
items_number Subfolders = 0
items_number Messages = 1
items_number Associated = 2

abbrev pub listing_key : Items → Roots → Key
listing_key items r = data_key (items_number items) r

unfoldable pub is_listed : Listings → Key → Bool
is_listed l q = contains key_cmp l.tables q

-- Only what is true is known: the rows of each such table have no fault.
unfoldable pub AreListingsTrue : Table → List NodeEntry → List Broken → Listings → Type 0
AreListingsTrue t nodes broken l =
    (items : Items) (s : Roots) → is_listed l (listing_key items s) ≡ true → first_of (row_damage nodes broken items s.bid_data) (tc_rows t s) ≡ None
