-- What the rows of a folder's table name: the list of the table's subnodes says nothing of it.
use Rattle.std.proofs.Common.{◌≡◌, ℕ, List, [], ◌∷◌, map, refl, ap, ◌∙◌}
use Rattle.pst_bytes.specs.declared.span.Span.{Span}
use Rattle.pst_fault.specs.Each.{first_of}
use Rattle.pst_page.specs.declared.entry.NodeEntry.{NodeEntry}
use Rattle.pst_block.specs.Block.{bid_key}
use Rattle.pst_block.specs.Table.{Table}
use Rattle.pst_ndb.specs.Roots.{Roots}
use Rattle.pst_remains.specs.declared.pages.Broken.{Broken}
use Rattle.pst_tc.specs.Values.{info_of, tc_records, row_parts_at, tc_rows}
use Rattle.pst_tc.proofs.AlikeLaws.{rows_alike}
use Rattle.pst_msg.specs.pst_mail.declared.items.Items.{Items}
use Rattle.pst_msg.specs.Fault.{listed_item_fault}
use Rattle.pst_damage.specs.Folder.{row_damage}

with_list : Roots → ℕ → Roots
with_list r list = record { top = r.top; bid_data = r.bid_data; bid_sub = list }

-- a row is what its record names, wherever it lies
row_same : (t : Table) (nodes : List NodeEntry) (broken : List Broken) (items : Items) (bid : ℕ) (r s : Roots) (x : ℕ × Span) → row_damage nodes broken items bid (row_parts_at t r x) ≡ row_damage nodes broken items bid (row_parts_at t s x)
unfolding row_damage listed_item_fault
row_same t nodes broken items bid r s x = refl

each_same : (t : Table) (nodes : List NodeEntry) (broken : List Broken) (items : Items) (bid : ℕ) (r s : Roots) (xs : List (ℕ × Span))
    → first_of (row_damage nodes broken items bid) (map (row_parts_at t r) xs) ≡ first_of (row_damage nodes broken items bid) (map (row_parts_at t s) xs)
unfolding first_of
each_same t nodes broken items bid r s [] = refl
each_same t nodes broken items bid r s (x ∷ rest) = rw (row_same t nodes broken items bid r s x, each_same t nodes broken items bid r s rest) refl

records_same : (t : Table) (r : Roots) (list : ℕ) → tc_records t r (info_of t r) ≡ tc_records t (with_list r list) (info_of t (with_list r list))
unfolding tc_records info_of with_list
records_same t r list = refl

list_unasked : (t : Table) (nodes : List NodeEntry) (broken : List Broken) (items : Items) (bid list : ℕ) (r : Roots) → first_of (row_damage nodes broken items bid) (tc_rows t r) ≡ first_of (row_damage nodes broken items bid) (tc_rows t (with_list r list))
unfolding tc_rows
list_unasked t nodes broken items bid list r =
    each_same t nodes broken items bid r (with_list r list) (tc_records t r (info_of t r))
    ∙ ap (λ (xs : List (ℕ × Span)). first_of (row_damage nodes broken items bid) (map (row_parts_at t (with_list r list)) xs)) (records_same t r list)

-- so tables with the same data have the same fault
pub rows_of_data : (t : Table) (nodes : List NodeEntry) (broken : List Broken) (items : Items) (bid : ℕ) (r s : Roots) → bid_key r.bid_data ≡ bid_key s.bid_data
    → first_of (row_damage nodes broken items bid) (tc_rows t r) ≡ first_of (row_damage nodes broken items bid) (tc_rows t s)
unfolding with_list
rows_of_data t nodes broken items bid r s e =
    list_unasked t nodes broken items bid s.bid_sub r ∙ ap (first_of (row_damage nodes broken items bid)) (rows_alike t (with_list r s.bid_sub) s (e, refl))
