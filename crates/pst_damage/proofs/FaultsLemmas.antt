-- What is remembered of faults is true.
use Rattle.std.proofs.Common.{◌≡◌, ℕ, Option, Some, None, List, Result, Err, refl, sym, ap, ◌∙◌}
use Rattle.std.specs.Prelude.{option_map}
use Rattle.pst_fault.specs.declared.fault.Fault.{Fault}
use Rattle.pst_fault.specs.Fault.{at_node}
use Rattle.pst_fault.specs.First.{Tells}
use Rattle.pst_fault.specs.Each.{first_of}
use Rattle.pst_page.specs.declared.entry.NodeEntry.{NodeEntry}
use Rattle.pst_block.specs.Block.{bid_key}
use Rattle.pst_block.specs.Table.{Table}
use Rattle.pst_datatree.specs.Data.{data_fault}
use Rattle.pst_ndb.specs.Roots.{Roots}
use Rattle.pst_remains.specs.declared.pages.Broken.{Broken}
use Rattle.pst_tc.specs.Values.{tc_rows}
use Rattle.pst_msg.specs.pst_remembered.declared.faults.Faults.{Faults}
use Rattle.pst_msg.specs.pst_mail.declared.items.Items.{Items}
use Rattle.pst_msg.specs.pst_mail.declared.items.Items.TheVariants.{Subfolders, Messages, Associated}
use Rattle.pst_msg.specs.Broken.{roots_at}
use Rattle.pst_msg.specs.Faults.{IsFaultOf, fault_kept, AreFaultsOf, IsTold}
use Rattle.pst_msg.specs.Keys.{Key}
use Rattle.pst_msg.proofs.FaultsLemmas.{told_kept, told_some}
use Rattle.pst_damage.specs.Folder.{row_damage}
use Rattle.pst_damage.specs.Listings.{items_number}
use Rattle.pst_damage.specs.Rows.{as_it_is, items_with, rows_part}
use Rattle.pst_damage.specs.Trees.{data_part}
use Rattle.pst_damage.proofs.RowsLemmas.{rows_of_data}

-- ---- the data of a node, told of another

pub data_retold : (t : Table) (q : Key) (nid : ℕ) (f : Fault) → data_part t q nid ≡ Some f → IsFaultOf at_node (data_part t) q f
data_retold t q nid f is other = by (data_fault t q.0.0) is
  where
    by : (o : Option Fault) → option_map (at_node nid) o ≡ Some f → option_map (at_node other) o ≡ Some (at_node other f)
    by None e = absurd cc
    by (Some u) e = let same : at_node nid u ≡ f = cc in rw (← same) refl

pub data_keep : (t : Table) (q : Key) (nid : ℕ) (answer : Result (Unit {0}) Fault) → Tells answer (data_part t q nid) tt → (f : Fault) → answer ≡ Err f → IsTold f → IsFaultOf at_node (data_part t) q f
data_keep t q nid answer tells f e told = data_retold t q nid f (told_some answer (data_part t q nid) f tells e told)

-- ---- rows

items_again : (items : Items) → items_with (items_number items) ≡ items
items_again Subfolders = refl
items_again Messages = refl
items_again Associated = refl

rows_again : (t : Table) (nodes : List NodeEntry) (broken : List Broken) (items : Items) (r : Roots) (q : Key) (nid : ℕ) → q.0.0 ≡ r.bid_data → q.1 ≡ items_number items
    → rows_part t nodes broken q nid ≡ first_of (row_damage nodes broken items r.bid_data) (tc_rows t r)
rows_again t nodes broken items r q nid content number =
    ap (λ (i : Items). first_of (row_damage nodes broken i q.0.0) (tc_rows t (roots_at q nid))) (ap items_with number ∙ items_again items)
    ∙ ap (λ (b : ℕ). first_of (row_damage nodes broken items b) (tc_rows t (roots_at q nid))) content
    ∙ rows_of_data t nodes broken items r.bid_data (roots_at q nid) r (ap bid_key content)

pub rows_retold : (t : Table) (nodes : List NodeEntry) (broken : List Broken) (items : Items) (r : Roots) (q : Key) (f : Fault) → q.0.0 ≡ r.bid_data → q.1 ≡ items_number items
    → first_of (row_damage nodes broken items r.bid_data) (tc_rows t r) ≡ Some f → IsFaultOf as_it_is (rows_part t nodes broken) q f
rows_retold t nodes broken items r q f content number is nid = rows_again t nodes broken items r q nid content number ∙ is

pub rows_kept : (t u : Table) (nodes : List NodeEntry) (broken : List Broken) (items : Items) (r : Roots) (q : Key) (faults : Faults) (f : Fault) → u ≡ t → q.0.0 ≡ r.bid_data → q.1 ≡ items_number items
    → AreFaultsOf as_it_is (rows_part t nodes broken) faults → Some f ≡ fault_kept faults q → first_of (row_damage nodes broken items r.bid_data) (tc_rows u r) ≡ Some f
rows_kept t u nodes broken items r q faults f same content number are is =
    rw same (sym (rows_again t nodes broken items r q 0 content number) ∙ told_kept as_it_is (rows_part t nodes broken) faults q f 0 are is)

pub rows_keep : (t u : Table) (nodes : List NodeEntry) (broken : List Broken) (items : Items) (r : Roots) (q : Key) (answer : Result (Unit {0}) Fault) → u ≡ t → q.0.0 ≡ r.bid_data → q.1 ≡ items_number items
    → Tells answer (first_of (row_damage nodes broken items r.bid_data) (tc_rows u r)) tt → (f : Fault) → answer ≡ Err f → IsTold f → IsFaultOf as_it_is (rows_part t nodes broken) q f
rows_keep t u nodes broken items r q answer same content number tells f e told =
    let is : first_of (row_damage nodes broken items r.bid_data) (tc_rows t r) ≡ Some f = rw (← same) (told_some answer (first_of (row_damage nodes broken items r.bid_data) (tc_rows u r)) f tells e told) in
    rows_retold t nodes broken items r q f content number is
