-- Table contexts of roots that are alike.
use Rattle.std.proofs.Common.{◌≡◌, ℕ, List, map, Option, Some, None, refl, sym, ap, ◌∙◌}
use Rattle.std.specs.Prelude.{option_map}
use Rattle.pst_bytes.specs.declared.span.Span.{Span}
use Rattle.pst_bytes.specs.Image.{num}
use Rattle.pst_fault.specs.declared.fault.Fault.{Fault}
use Rattle.pst_fault.specs.Each.{first_of, there_or}
use Rattle.pst_fault.specs.First.{◌then◌}
use Rattle.pst_fault.proofs.ToldLemmas.{told_none}
use Rattle.pst_fault.proofs.EachLemmas.{first_of_same}
use Rattle.pst_fault.proofs.GeneralLemmas.{map_same}
use Rattle.pst_fault.proofs.FirstLemmas.{first_below_same}
use Rattle.pst_block.specs.Table.{Table}
use Rattle.pst_btree.specs.Entries.{first_with}
use Rattle.pst_ndb.specs.pst_subnode.declared.sub.Sub.{Sub}
use Rattle.pst_ndb.specs.pst_subnode.List.{sub_nid, subs_of}
use Rattle.pst_ndb.proofs.pst_subnode.HeightLaws.{subs_same}
use Rattle.pst_ndb.specs.Roots.{Roots, sub_roots, subnode_of}
use Rattle.pst_heap.specs.Values.{HeapData, heap_at, user_root_of, user_root_place, item_of}
use Rattle.pst_heap.specs.Fault.{heap_fault, client_fault, item_or, no_item, told_under}
use Rattle.pst_bth.specs.Fault.{bth_fault}
use Rattle.pst_bth.specs.Values.{bth_records}
use Rattle.pst_ndb.specs.Alike.{Alike}
use Rattle.pst_value.specs.declared.hnid.Hnid.{Hnid}
use Rattle.pst_value.specs.declared.hnid.Hnid.TheVariants.{Nothing, Item, Subnode}
use Rattle.pst_value.specs.Hnid.{hnid_of}
use Rattle.pst_value.specs.Fault.{missing_at}
use Rattle.pst_value.proofs.AlikeLaws.{heap_alike, value_alike, fault_alike, alike_value_law}
use Rattle.pst_tc.specs.Info.{column_count, column_kind, column_place, column_places, column_tag, cell_span, index_place, index_hid, matrix_place, matrix_hnid, row_size}
use Rattle.pst_tc.specs.Values.{tc_client, tc_sizes, info_of, span_or_empty, tc_records, row_or_none, row_of_data, row_under, row_of_matrix, row_of_record, row_record_place, column_parts_at, tc_columns, row_parts_at, tc_rows, cell_spans, spans_in_column, tc_cell}
use Rattle.pst_tc.specs.Fault.{info_fault, cell_fault, cells_fault, bad_row, row_fault, row_record_fault, no_fault, matrix_fault, tc_body_fault, untold_tc_fault, tc_fault}
use Rattle.pst_tc.specs.Laws.{AlikeTcLaw}

-- ---- the same function of each member of a list, and of each number

-- ---- TCINFO and the row index

info_alike : (t : Table) (r s : Roots) → Alike r s → info_of t r ≡ info_of t s
unfolding info_of
info_alike t r s e = ap (λ (h : HeapData). span_or_empty (item_of h (user_root_of h))) (heap_alike t r s e)

records_alike : (t : Table) (r s : Roots) (i : Span) → Alike r s → tc_records t r i ≡ tc_records t s i
unfolding tc_records
records_alike t r s i e = ap (λ (h : HeapData). bth_records h tc_sizes (index_hid t.image i)) (heap_alike t r s e)

columns_alike : (t : Table) (r s : Roots) → Alike r s → tc_columns t r ≡ tc_columns t s
unfolding tc_columns
columns_alike t r s e = ap (λ (i : Span). map (column_parts_at t.image) (column_places t.image i)) (info_alike t r s e)

-- ---- the row matrix

data_row_same : (t : Table) (r s : Roots) (size n : ℕ) (found : Option Sub) → row_of_data t size n (option_map (sub_roots r) found) ≡ row_of_data t size n (option_map (sub_roots s) found)
data_row_same t r s size n None = refl
data_row_same t r s size n (Some x) = refl

data_row_alike : (t : Table) (r s : Roots) (size n nid : ℕ) → Alike r s → row_of_data t size n (subnode_of t r nid) ≡ row_of_data t size n (subnode_of t s nid)
unfolding subnode_of
data_row_alike t r s size n nid e = rw (subs_same t r.bid_sub s.bid_sub e.1) (data_row_same t r s size n (first_with sub_nid nid (subs_of t s.bid_sub)))

row_under_alike : (t : Table) (r s : Roots) (size n : ℕ) (h : Hnid) → Alike r s → row_under t r size n h ≡ row_under t s size n h
row_under_alike t r s size n Nothing e = refl
row_under_alike t r s size n (Item hid) e = ap (λ (h : HeapData). row_or_none size n (item_of h hid)) (heap_alike t r s e)
row_under_alike t r s size n (Subnode nid) e = data_row_alike t r s size n nid e

matrix_alike : (t : Table) (r s : Roots) (hnid size n : ℕ) → Alike r s → row_of_matrix t r hnid size n ≡ row_of_matrix t s hnid size n
unfolding row_of_matrix
matrix_alike t r s hnid size n e = row_under_alike t r s size n (hnid_of hnid) e

row_alike : (t : Table) (r s : Roots) (i : Span) (x : ℕ × Span) → Alike r s → row_of_record t r i x ≡ row_of_record t s i x
unfolding row_of_record
row_alike t r s i x e = matrix_alike t r s (matrix_hnid t.image i) (row_size t.image i) (num t.image x.1.at 4) e

parts_alike : (t : Table) (r s : Roots) → Alike r s → (x : ℕ × Span) → row_parts_at t r x ≡ row_parts_at t s x
parts_alike t r s e x =
    let there = ap (λ (i : Span). row_of_record t r i x) (info_alike t r s e) ∙ row_alike t r s (info_of t s) x e in
    ap (λ (o : Option Span). record { id = x.0; at = row_record_place x.1; place = span_or_empty o }) there

pub rows_alike : (t : Table) (r s : Roots) → Alike r s → tc_rows t r ≡ tc_rows t s
unfolding tc_rows
rows_alike t r s e =
    let records = ap (λ (i : Span). tc_records t r i) (info_alike t r s e) ∙ records_alike t r s (info_of t s) e in
    ap (map (row_parts_at t r)) records ∙ map_same (row_parts_at t r) (row_parts_at t s) (parts_alike t r s e) (tc_records t s (info_of t s))

-- ---- the cells

cell_spans_alike : (t : Table) (r s : Roots) (row c : ℕ) → Alike r s → cell_spans t r row c ≡ cell_spans t s row c
unfolding cell_spans
cell_spans_alike t r s row c e = rw (value_alike t r s (column_kind t.image c) (cell_span t.image row c) e) refl

in_column_alike : (t : Table) (r s : Roots) (row : ℕ) (found : Option ℕ) → Alike r s → spans_in_column t r row found ≡ spans_in_column t s row found
in_column_alike t r s row None e = refl
in_column_alike t r s row (Some c) e = rw (info_alike t r s e, cell_spans_alike t r s row c e) refl

cell_alike : (t : Table) (r s : Roots) (row tag : ℕ) → Alike r s → tc_cell t r row tag ≡ tc_cell t s row tag
unfolding tc_cell
cell_alike t r s row tag e =
    ap (λ (i : Span). spans_in_column t r row (first_with (column_tag t.image) tag (column_places t.image i))) (info_alike t r s e)
    ∙ in_column_alike t r s row (first_with (column_tag t.image) tag (column_places t.image (info_of t s))) e

-- ---- the first fault

cell_fault_alike : (t : Table) (r s : Roots) (i : Span) (row c : ℕ) → Alike r s → cell_fault t r i row c ≡ cell_fault t s i row c
unfolding cell_fault
cell_fault_alike t r s i row c e = rw (fault_alike t r s (column_kind t.image c) (cell_span t.image row c).at (cell_span t.image row c) e) refl

cells_alike : (t : Table) (r s : Roots) (i : Span) (row : ℕ) → Alike r s → cells_fault t r i row ≡ cells_fault t s i row
unfolding cells_fault
cells_alike t r s i row e =
    first_below_same (λ k. cell_fault t r i row (column_place i k)) (λ k. cell_fault t s i row (column_place i k))
    (λ k. cell_fault_alike t r s i row (column_place i k) e) (column_count t.image i)

there_same : (f : Fault) (part other : Span → Option Fault) (o : Option Span) → ((x : Span) → part x ≡ other x) → there_or f part o ≡ there_or f other o
there_same f part other None same = refl
there_same f part other (Some x) same = same x

row_fault_alike : (t : Table) (r s : Roots) (i : Span) (x : ℕ × Span) (row : Span) → Alike r s → row_fault t r i x row ≡ row_fault t s i x row
row_fault_alike t r s i x row e = rw (cells_alike t r s i row.at e) refl

record_alike : (t : Table) (r s : Roots) (i : Span) → Alike r s → (x : ℕ × Span) → row_record_fault t r i x ≡ row_record_fault t s i x
unfolding row_record_fault
record_alike t r s i e x =
    ap (there_or (bad_row x) (row_fault t r i x)) (row_alike t r s i x e)
    ∙ there_same (bad_row x) (row_fault t r i x) (row_fault t s i x) (row_of_record t s i x) (λ row. row_fault_alike t r s i x row e)

named_alike : (t : Table) (r s : Roots) (i : Span) → Alike r s → matrix_fault t r i ≡ matrix_fault t s i
unfolding matrix_fault
named_alike t r s i e =
    ap (there_or (missing_at (matrix_place i) (matrix_hnid t.image i)) no_fault) ((alike_value_law t r s e).0 (matrix_hnid t.image i))

records_fault_alike : (t : Table) (r s : Roots) (i : Span) → Alike r s → first_of (row_record_fault t r i) (tc_records t r i) ≡ first_of (row_record_fault t s i) (tc_records t s i)
records_fault_alike t r s i e =
    ap (first_of (row_record_fault t r i)) (records_alike t r s i e)
    ∙ first_of_same (row_record_fault t r i) (row_record_fault t s i) (record_alike t r s i e) (tc_records t s i)

abbrev pub body_with : List ℕ → Span → HeapData → Option Fault → Option Fault → Option Fault
body_with I i h matrix rows = info_fault I i then bth_fault h tc_sizes (index_place i) (index_hid I i) then matrix then rows

body_alike : (t : Table) (r s : Roots) → Alike r s → (i : Span) → tc_body_fault t r i ≡ tc_body_fault t s i
unfolding tc_body_fault
body_alike t r s e i =
    ap (λ (h : HeapData). body_with t.image i h (matrix_fault t r i) (first_of (row_record_fault t r i) (tc_records t r i))) (heap_alike t r s e)
    ∙ ap (λ (m : Option Fault). body_with t.image i (heap_at t s) m (first_of (row_record_fault t r i) (tc_records t r i))) (named_alike t r s i e)
    ∙ ap (body_with t.image i (heap_at t s) (matrix_fault t s i)) (records_fault_alike t r s i e)

abbrev pub fault_with : HeapData → (Span → Option Fault) → Option Fault
fault_with h body = heap_fault h then client_fault tc_client h then item_or (user_root_place h) body (item_of h (user_root_of h))

untold_alike : (t : Table) (r s : Roots) → Alike r s → untold_tc_fault t r ≡ untold_tc_fault t s
unfolding untold_tc_fault
untold_alike t r s e =
    let h = heap_at t s in
    ap (λ (h : HeapData). fault_with h (tc_body_fault t r)) (heap_alike t r s e)
    ∙ ap (λ (o : Option Fault). heap_fault h then client_fault tc_client h then o)
    (there_same (no_item (user_root_place h)) (tc_body_fault t r) (tc_body_fault t s) (item_of h (user_root_of h)) (body_alike t r s e))

none_alike : (t : Table) (r s : Roots) → untold_tc_fault t r ≡ untold_tc_fault t s → tc_fault t r ≡ None → tc_fault t s ≡ None
unfolding tc_fault
none_alike t r s same none = ap (option_map (told_under s)) (sym same ∙ told_none (told_under r) (untold_tc_fault t r) none)

pub alike_tc_law : AlikeTcLaw
alike_tc_law t r s e =
    let same = untold_alike t r s e in
    (columns_alike t r s e, rows_alike t r s e, (λ row tag. cell_alike t r s row tag e), same, (none_alike t r s same, none_alike t s r (sym same)))
