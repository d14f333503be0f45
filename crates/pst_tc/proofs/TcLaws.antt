-- The grammar of table contexts, and their first fault, say the same.
use Rattle.std.proofs.Common.{◌≡◌, ℕ, ◌<◌, Bool, true, false, cond, List, [], ◌∷◌, map, Some, None, refl, ap, ◌∙◌, ◌↔◌}
use Rattle.std.proofs.lemmas.Bool.{eqb-true, eq-eqb}
use Rattle.pst_bytes.specs.declared.span.Span.{Span}
use Rattle.pst_fault.proofs.FirstLemmas.{none_then, both_none, holds_or_none, holds_or_true, all_none, none_below}
use Rattle.pst_block.specs.Table.{Table}
use Rattle.pst_ndb.specs.Roots.{Roots}
use Rattle.pst_fault.specs.Each.{first_of}
use Rattle.pst_heap.specs.Values.{item_of}
use Rattle.pst_heap.specs.Fault.{item_or, no_item}
use Rattle.pst_heap.specs.Values.{user_root_of, user_root_place}
use Rattle.pst_heap.specs.Values.{heap_at}
use Rattle.pst_heap.specs.Fault.{told_under}
use Rattle.pst_heap.proofs.HeapLaws.{none_heap, heap_none, client_law}
use Rattle.pst_bth.specs.Values.{bth_records, record_key}
use Rattle.pst_bth.specs.Fault.{bth_fault}
use Rattle.pst_bth.specs.Grammar.{IsBth}
use Rattle.pst_bth.proofs.BthLaws.{bth_law, rise_law}
use Rattle.pst_value.specs.Grammar.{HasHnid, HasValue}
use Rattle.pst_value.specs.Values.{hnid_spans, value_spans}
use Rattle.pst_value.specs.Fault.{value_fault}
use Rattle.pst_value.proofs.ValueLaws.{value_law, hnid_law}
use Rattle.pst_tc.specs.Info.{column_count, index_place, index_hid, matrix_hnid, is_info, is_column, column_place, column_kind, cell_span, is_present, is_typed}
use Rattle.pst_tc.specs.Fault.{column_fault}
use Rattle.pst_tc.specs.Values.{tc_sizes, tc_records, row_of_record, info_of, row_id_of, row_parts_at, tc_rows}
use Rattle.pst_tc.specs.Fault.{cell_fault, cells_fault, bad_row, row_fault, row_record_fault, no_fault, matrix_fault, info_fault, tc_body_fault, untold_tc_fault, tc_fault}
use Rattle.pst_tc.specs.Grammar.{HasCell, HasRow, IsTc}
use Rattle.pst_tc.specs.Grammar.{HasRows}
use Rattle.pst_tc.specs.Laws.{TcLaw, TcRecordsLaw, TcRiseLaw}
use Rattle.pst_fault.proofs.EachLemmas.{of_none, none_of, there_is}
use Rattle.pst_fault.proofs.ToldLemmas.{none_told, told_none}

cell_law : (t : Table) (r : Roots) (s : Span) (row c : ℕ) → HasCell t r s row c ↔ (cell_fault t r s row c ≡ None)
unfolding cell_fault
cell_law t r s row c = go (is_present t.image s row c) (is_typed t.image c)
  where
    go : (p q : Bool) → (p ≡ true → q ≡ true → (spans : List Span) × HasValue t r (column_kind t.image c) (cell_span t.image row c) spans)
        ↔ (cond p (cond q (value_fault t r (column_kind t.image c) (cell_span t.image row c).at (cell_span t.image row c)) None) None ≡ None)
    go false q = ((λ w. refl), (λ e p y. absurd cc))
    go true false = ((λ w. refl), (λ e p y. absurd cc))
    go true true = (
      (λ w. let v = w refl refl in ((value_law t r (column_kind t.image c) (cell_span t.image row c).at (cell_span t.image row c) v.0).0 v.1).0),
      (λ e p y.
          let spans = value_spans t r (column_kind t.image c) (cell_span t.image row c) in
          (spans, (value_law t r (column_kind t.image c) (cell_span t.image row c).at (cell_span t.image row c) spans).1 (e, refl))),
    )

cells_law : (t : Table) (r : Roots) (s : Span) (row : ℕ) → ((i : ℕ) → i < column_count t.image s → HasCell t r s row (column_place s i)) ↔ (cells_fault t r s row ≡ None)
unfolding cells_fault
cells_law t r s row = (
  (λ w. all_none (λ i. cell_fault t r s row (column_place s i)) (column_count t.image s) (λ i lt. (cell_law t r s row (column_place s i)).0 (w i lt))),
  (λ e i lt. (cell_law t r s row (column_place s i)).1 (none_below (λ k. cell_fault t r s row (column_place s k)) (column_count t.image s) i e lt)),
)

row_law : (t : Table) (r : Roots) (s : Span) (x : ℕ × Span) → HasRow t r s x ↔ (row_record_fault t r s x ≡ None)
unfolding row_record_fault
row_law t r s x = (
  (λ w. rw w.1 (both_none _ _ (holds_or_true _ _ (eq-eqb _ _ w.2)) ((cells_law t r s w.0.at).0 w.3))),
  (λ e.
      let f = there_is (bad_row x) (row_fault t r s x) (row_of_record t r s x) e in
      let b = none_then _ _ f.2 in
      (f.0, f.1, eqb-true _ _ (holds_or_none _ _ b.0), (cells_law t r s f.0.at).1 b.1)),
)

info_law : (I : List ℕ) (s : Span) → ((is_info I s ≡ true) × ((i : ℕ) → i < column_count I s → is_column I s (column_place s i) ≡ true)) ↔ (info_fault I s ≡ None)
unfolding info_fault column_fault
info_law I s = (
  (λ w. both_none _ _ (holds_or_true _ _ w.0) (all_none (column_fault I s) (column_count I s) (λ i lt. holds_or_true _ _ (w.1 i lt)))),
  (λ e. let b = none_then _ _ e in (holds_or_none _ _ b.0, λ i lt. holds_or_none _ _ (none_below (column_fault I s) (column_count I s) i b.1 lt))),
)

matrix_law : (t : Table) (r : Roots) (s : Span) → ((spans : List Span) × HasHnid t r (matrix_hnid t.image s) spans) ↔ (matrix_fault t r s ≡ None)
unfolding matrix_fault
matrix_law t r s = (
  (λ w. rw ((hnid_law t r (matrix_hnid t.image s) w.0).0 w.1) refl),
  (λ e. let f = there_is _ no_fault (hnid_spans t r (matrix_hnid t.image s)) e in (f.0, (hnid_law t r (matrix_hnid t.image s) f.0).1 f.1)),
)

index_none : (t : Table) (r : Roots) (s : Span) → bth_fault (heap_at t r) tc_sizes (index_place s) (index_hid t.image s) ≡ None → IsBth (heap_at t r) tc_sizes (index_hid t.image s) (tc_records t r s)
unfolding tc_records
index_none t r s e = (bth_law (heap_at t r) tc_sizes (index_place s) (index_hid t.image s) (tc_records t r s)).1 (e, refl)

index_is : (t : Table) (r : Roots) (s : Span) (records : List (ℕ × Span)) → IsBth (heap_at t r) tc_sizes (index_hid t.image s) records → records ≡ tc_records t r s
unfolding tc_records
index_is t r s records is = ((bth_law (heap_at t r) tc_sizes (index_place s) (index_hid t.image s) records).0 is).1

table_none : (t : Table) (r : Roots) (s : Span) (records : List (ℕ × Span)) → HasRows t r s records → tc_body_fault t r s ≡ None
unfolding tc_body_fault
table_none t r s records w =
    let is = index_is t r s records w.index in
    let rows : first_of (row_record_fault t r s) (tc_records t r s) ≡ None = rw (← is) (of_none (row_record_fault t r s) records (λ x c. (row_law t r s x).0 (w.rows x c))) in
    both_none _ _ ((info_law t.image s).0 (w.info, w.columns))
    (both_none _ _ ((bth_law (heap_at t r) tc_sizes (index_place s) (index_hid t.image s) records).0 w.index).0 (both_none _ _ ((matrix_law t r s).0 w.matrix) rows))

none_table : (t : Table) (r : Roots) (s : Span) → tc_body_fault t r s ≡ None → HasRows t r s (tc_records t r s)
unfolding tc_body_fault
none_table t r s e =
    let a = none_then _ _ e in
    let b = none_then _ _ a.1 in
    let c = none_then _ _ b.1 in
    let i = (info_law t.image s).1 a.0 in
    record {
      info = i.0;
      columns = i.1;
      index = index_none t r s b.0;
      matrix = (matrix_law t r s).1 c.0;
      rows = λ x w. (row_law t r s x).1 (none_of (row_record_fault t r s) (tc_records t r s) x c.1 w);
    }

pub tc_law : TcLaw
unfolding tc_fault untold_tc_fault
tc_law t r = (
  (λ w.
      let h = heap_at t r in
      let tc = w.2 in
      let item : item_or (user_root_place h) (tc_body_fault t r) (item_of h (user_root_of h)) ≡ None = rw tc.item (table_none t r w.0 w.1 tc.body) in
      none_told (told_under r) _ (both_none _ _ (heap_none h tc.heap) (both_none _ _ ((client_law h 0x7C).0 tc.client) item))),
  (λ none.
      let h = heap_at t r in
      let a = none_then _ _ (told_none (told_under r) _ none) in
      let b = none_then _ _ a.1 in
      let f = there_is (no_item (user_root_place h)) (tc_body_fault t r) (item_of h (user_root_of h)) b.1 in
      (f.0, tc_records t r f.0, record { heap = none_heap h a.0; client = (client_law h 0x7C).1 b.0; item = f.1; body = none_table t r f.0 f.2 })),
)

pub none_tc : (t : Table) (r : Roots) → tc_fault t r ≡ None → IsTc t r
none_tc t r none = (tc_law t r).1 none

pub tc_none : (t : Table) (r : Roots) → IsTc t r → tc_fault t r ≡ None
tc_none t r is = (tc_law t r).0 is

-- ---- the records, and their order

item_info : (t : Table) (r : Roots) (s : Span) → item_of (heap_at t r) (user_root_of (heap_at t r)) ≡ Some s → s ≡ info_of t r
unfolding info_of
item_info t r s e = rw e refl

pub records_law : TcRecordsLaw
records_law t r s records tc =
    let is = item_info t r s tc.item in
    (is, index_is t r s records tc.body.index ∙ ap (tc_records t r) is)

ids_of_records : (t : Table) (r : Roots) (xs : List (ℕ × Span)) → map row_id_of (map (row_parts_at t r) xs) ≡ map record_key xs
ids_of_records t r [] = refl
ids_of_records t r (x ∷ rest) = ap (λ (ids : List ℕ). x.0 ∷ ids) (ids_of_records t r rest)

pub rise_of_rows : TcRiseLaw
unfolding tc_rows tc_records
rise_of_rows t r none =
    let w = none_tc t r none in
    let tc = w.2 in
    let is = item_info t r w.0 tc.item in
    let index : bth_fault (heap_at t r) tc_sizes 0 (index_hid t.image w.0) ≡ None = ((bth_law (heap_at t r) tc_sizes 0 (index_hid t.image w.0) w.1).0 tc.body.index).0 in
    let rise = rise_law (heap_at t r) tc_sizes 0 (index_hid t.image (info_of t r)) (rw is at index) in
    rw (ids_of_records t r (bth_records (heap_at t r) tc_sizes (index_hid t.image (info_of t r)))) rise
