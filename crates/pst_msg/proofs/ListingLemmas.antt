-- What is remembered of the rows of folders' tables is true.
use Rattle.std.proofs.Common.{◌≡◌, ℕ, Bool, true, false, None, List, [], ◌∷◌, map, refl, sym, ap, ◌∙◌, inl, inr}
use Rattle.pst_bytes.specs.declared.span.Span.{Span}
use Rattle.pst_fault.specs.Each.{first_of}
use Rattle.pst_fault.proofs.EachLemmas.{of_none, none_of}
use Rattle.pst_page.specs.declared.entry.NodeEntry.{NodeEntry}
use Rattle.pst_block.specs.Block.{bid_key}
use Rattle.pst_block.specs.Table.{Table}
use Rattle.pst_ndb.specs.Roots.{Roots}
use Rattle.pst_ndb.specs.Alike.{Alike}
use Rattle.pst_tc.specs.Values.{info_of, tc_records, row_parts_at, tc_rows}
use Rattle.pst_tc.proofs.AlikeLaws.{rows_alike}
use Rattle.pst_mail.specs.declared.items.Items.{Items}
use Rattle.pst_mail.specs.declared.items.Items.TheVariants.{Subfolders}
use Rattle.pst_remembered.specs.declared.keys.NodeSet.{NodeSet}
use Rattle.pst_remembered.specs.declared.role.Role.{Role}
use Rattle.pst_remembered.specs.declared.role.Role.TheVariants.{Properties, Listed, Recipients, Attachments}
use Rattle.pst_mail.specs.Fault.{listed_item_fault}
use Rattle.pst_remembered.specs.Keys.{Key, data_key, holds}
use Rattle.pst_msg.specs.Known.{ListingsAreTrue}
use Rattle.pst_remembered.specs.Roles.{role_number}
use Rattle.pst_mail.proofs.ContentsLaws.{item_none, none_item}
use Rattle.pst_remembered.proofs.KeyLemmas.{same_data}
use Rattle.pst_remembered.proofs.RoleLemmas.{same_role}
use Rattle.pst_msg.proofs.KnownLemmas.{OneMore}

-- the rows of tables that are alike name nodes that belong there together
listing_alike : (t : Table) (nodes : List NodeEntry) (items : Items) (r s : Roots) → Alike r s → first_of (listed_item_fault nodes items r.bid_data) (tc_rows t r) ≡ None → first_of (listed_item_fault nodes items s.bid_data) (tc_rows t s) ≡ None
listing_alike t nodes items r s e none =
    of_none (listed_item_fault nodes items s.bid_data) (tc_rows t s)
    (λ x w. item_none nodes items s.bid_data x (none_item nodes items r.bid_data x
    (none_of (listed_item_fault nodes items r.bid_data) (tc_rows t r) x none (rw (rows_alike t r s e) w))))

-- ---- the list of a table's subnodes says nothing of what its rows name

with_list : Roots → ℕ → Roots
with_list r list = record { top = r.top; bid_data = r.bid_data; bid_sub = list }

-- a row is what its record names, wherever it lies
item_same : (t : Table) (nodes : List NodeEntry) (items : Items) (bid : ℕ) (r s : Roots) (x : ℕ × Span) → listed_item_fault nodes items bid (row_parts_at t r x) ≡ listed_item_fault nodes items bid (row_parts_at t s x)
unfolding listed_item_fault
item_same t nodes items bid r s x = refl

items_same : (t : Table) (nodes : List NodeEntry) (items : Items) (bid : ℕ) (r s : Roots) (xs : List (ℕ × Span)) → first_of (listed_item_fault nodes items bid) (map (row_parts_at t r) xs) ≡ first_of (listed_item_fault nodes items bid) (map (row_parts_at t s) xs)
unfolding first_of
items_same t nodes items bid r s [] = refl
items_same t nodes items bid r s (x ∷ rest) = rw (item_same t nodes items bid r s x, items_same t nodes items bid r s rest) refl

records_same : (t : Table) (r : Roots) (list : ℕ) → tc_records t r (info_of t r) ≡ tc_records t (with_list r list) (info_of t (with_list r list))
unfolding tc_records info_of with_list
records_same t r list = refl

list_unasked : (t : Table) (nodes : List NodeEntry) (items : Items) (bid list : ℕ) (r : Roots) → first_of (listed_item_fault nodes items bid) (tc_rows t r) ≡ first_of (listed_item_fault nodes items bid) (tc_rows t (with_list r list))
unfolding tc_rows
list_unasked t nodes items bid list r =
    items_same t nodes items bid r (with_list r list) (tc_records t r (info_of t r))
    ∙ ap (λ (xs : List (ℕ × Span)). first_of (listed_item_fault nodes items bid) (map (row_parts_at t (with_list r list)) xs)) (records_same t r list)

-- so the rows of tables with the same data name nodes that belong there together
listing_of_data : (t : Table) (nodes : List NodeEntry) (items : Items) (r s : Roots) → bid_key r.bid_data ≡ bid_key s.bid_data → first_of (listed_item_fault nodes items r.bid_data) (tc_rows t r) ≡ None → first_of (listed_item_fault nodes items s.bid_data) (tc_rows t s) ≡ None
unfolding with_list
listing_of_data t nodes items r s e none =
    listing_alike t nodes items (with_list r s.bid_sub) s (e, refl) (sym (list_unasked t nodes items r.bid_data s.bid_sub r) ∙ none)

items_in : Role → Items
items_in Properties = Subfolders
items_in (Listed items) = items
items_in Recipients = Subfolders
items_in Attachments = Subfolders

-- none is remembered
pub none_listed : (t : Table) (nodes : List NodeEntry) (keys : NodeSet) → ((q : Key) → holds keys q ≡ false) → ListingsAreTrue t nodes keys
none_listed t nodes keys none items s is = absurd (no_both _ (none (data_key (role_number (Listed items)) s)) is)
  where
    no_both : (b : Bool) → b ≡ false → b ≡ true → ⊥
    no_both true e f = cc
    no_both false e f = cc

-- one more is remembered
pub listing_remembered : (t : Table) (nodes : List NodeEntry) (items : Items) (r : Roots) (old new : NodeSet) → ListingsAreTrue t nodes old → first_of (listed_item_fault nodes items r.bid_data) (tc_rows t r) ≡ None → OneMore old new (data_key (role_number (Listed items)) r) → ListingsAreTrue t nodes new
unfolding items_in
listing_remembered t nodes items r old new are none more other s in_new = elim (more (data_key (role_number (Listed other)) s) in_new) [
  | inl was ↦ are other s was
  | inr e ↦
      let both = same_data (role_number (Listed items)) (role_number (Listed other)) r s e in
      let same : items ≡ other = ap items_in (same_role (Listed items) (Listed other) both.0) in
      rw (← same) (listing_of_data t nodes items r s both.1 none)
]

-- a table that is remembered has rows without fault
pub listed : (t u : Table) (nodes : List NodeEntry) (items : Items) (r : Roots) (keys : NodeSet) (q : Key) → u ≡ t → ListingsAreTrue t nodes keys → q ≡ data_key (role_number (Listed items)) r → holds keys q ≡ true → first_of (listed_item_fault nodes items r.bid_data) (tc_rows u r) ≡ None
listed t u nodes items r keys q same are named there = rw same (are items r (rw (← named) there))

-- a table whose rows have no fault is remembered
pub one_listed : (t u : Table) (nodes : List NodeEntry) (items : Items) (r v : Roots) (bid : ℕ) (old new : NodeSet) (q : Key) → u ≡ t → v ≡ r → bid ≡ r.bid_data → ListingsAreTrue t nodes old → first_of (listed_item_fault nodes items bid) (tc_rows u v) ≡ None → q ≡ data_key (role_number (Listed items)) r → OneMore old new q → ListingsAreTrue t nodes new
one_listed t u nodes items r v bid old new q same is bids are none named more =
    let rows : first_of (listed_item_fault nodes items r.bid_data) (tc_rows t r) ≡ None = rw (bids, is, same) at none in
    listing_remembered t nodes items r old new are rows (rw (← named) more)
