-- What is known of a table context without fault, down to its cells.
use Rattle.std.proofs.Common.{◌≡◌, ℕ, ◌+◌, ◌*◌, ◌≤◌, Bool, true, false, cond, eqb, List, [], ◌∷◌, length, map, Option, Some, None, refl, ap, ◌∙◌, arith}
use Rattle.std.specs.Prelude.{option_map}
use Rattle.pst_bytes.specs.declared.span.Span.{Span}
use Rattle.pst_bytes.specs.Image.{IsInside}
use Rattle.pst_fault.specs.declared.fault.Fault.{Fault}
use Rattle.pst_fault.specs.Each.{first_of}
use Rattle.pst_fault.proofs.FirstLemmas.{none_then, none_below}
use Rattle.pst_block.specs.Table.{Table}
use Rattle.pst_btree.specs.Entries.{first_with}
use Rattle.pst_ndb.specs.Roots.{Roots}
use Rattle.pst_heap.specs.Values.{heap_at}
use Rattle.pst_bth.specs.Values.{record_key, record_span}
use Rattle.pst_bth.specs.Fault.{bth_fault}
use Rattle.pst_bth.proofs.BthLaws.{name_law}
use Rattle.pst_bth.proofs.RecordLemmas.{found_span, found_part, found_made, nothing_made}
use Rattle.pst_value.specs.Fault.{value_fault}
use Rattle.pst_value.proofs.ValueLaws.{place_law}
use Rattle.pst_tc.specs.Info.{column_count, column_place, column_places, column_tag, column_kind, cell_span, index_place, index_hid, is_column, is_present, is_typed}
use Rattle.pst_tc.specs.Values.{ColumnParts, tag_of_column, column_parts_at, tc_columns, IsFirstColumn, tc_sizes, tc_records, info_of, row_of_record, row_parts_at, row_id_of, tc_rows}
use Rattle.pst_tc.specs.Fault.{info_fault, matrix_fault, row_record_fault, row_fault, bad_row, cells_fault, cell_fault, tc_body_fault}
use Rattle.pst_tc.proofs.InfoLemmas.{sound_room, sound_column}
use Rattle.pst_tc.proofs.ColumnLemmas.{found_place}

pub record BodyFacts (t : Table) (r : Roots) (s : Span) : Type 0 where
  pub info : info_fault t.image s ≡ None
  pub index : bth_fault (heap_at t r) tc_sizes (index_place s) (index_hid t.image s) ≡ None
  pub matrix : matrix_fault t r s ≡ None
  pub rows : first_of (row_record_fault t r s) (tc_records t r s) ≡ None

pub body_facts : (t : Table) (r : Roots) (s : Span) → tc_body_fault t r s ≡ None → BodyFacts t r s
unfolding tc_body_fault
body_facts t r s none =
    let a = none_then _ _ none in
    let b = none_then _ _ a.1 in
    let c = none_then _ _ b.1 in
    record { info = a.0; index = b.0; matrix = c.0; rows = c.1 }

pub body_info : (t : Table) (r : Roots) (s : Span) → tc_body_fault t r s ≡ None → info_fault t.image s ≡ None
body_info t r s none = BodyFacts.info (body_facts t r s none)

pub body_room : (t : Table) (r : Roots) (s : Span) → tc_body_fault t r s ≡ None → 22 + 8 * column_count t.image s ≤ s.len
body_room t r s none = sound_room t.image s (body_info t r s none)

pub body_index : (t : Table) (r : Roots) (s : Span) → tc_body_fault t r s ≡ None → bth_fault (heap_at t r) tc_sizes 0 (index_hid t.image s) ≡ None
body_index t r s none = name_law (heap_at t r) tc_sizes (index_place s) 0 (index_hid t.image s) (BodyFacts.index (body_facts t r s none))

pub body_rows : (t : Table) (r : Roots) (s : Span) → tc_body_fault t r s ≡ None → first_of (row_record_fault t r s) (tc_records t r s) ≡ None
body_rows t r s none = BodyFacts.rows (body_facts t r s none)

-- ---- a row

pub row_there : (t : Table) (r : Roots) (s : Span) (x : ℕ × Span) → row_record_fault t r s x ≡ None → None ≡ row_of_record t r s x → ⊥
unfolding row_record_fault
row_there t r s x none is = let bad : Some (bad_row x) ≡ None = (rw (← is) at none) in cc

pub row_sound : (t : Table) (r : Roots) (s : Span) (x : ℕ × Span) (place : Span) → row_record_fault t r s x ≡ None → Some place ≡ row_of_record t r s x → cells_fault t r s place.at ≡ None
unfolding row_record_fault
row_sound t r s x place none is = let e : row_fault t r s x place ≡ None = (rw (← is) at none) in (none_then _ _ e).1

-- ---- a cell

pub found_cell : (t : Table) (r : Roots) (s : Span) (row tag c : ℕ) → cells_fault t r s row ≡ None → first_with (column_tag t.image) tag (column_places t.image s) ≡ Some c → cell_fault t r s row c ≡ None
unfolding cells_fault
found_cell t r s row tag c none is =
    let w = found_place t.image s tag c is in
    rw w.2 (none_below (λ i. cell_fault t r s row (column_place s i)) (column_count t.image s) w.0 none w.1)

pub cell_sound : (t : Table) (r : Roots) (s : Span) (row c : ℕ) → cell_fault t r s row c ≡ None → is_present t.image s row c ≡ true → is_typed t.image c ≡ true → value_fault t r (column_kind t.image c) 0 (cell_span t.image row c) ≡ None
unfolding cell_fault
cell_sound t r s row c none p y =
    place_law t r (column_kind t.image c) (cell_span t.image row c).at 0 (cell_span t.image row c) (rw (p, y) at none)

-- ---- the cell of a column that is the first with its tag

-- the first of what is told of columns is told of the first of these
told_first_column : (I : List ℕ) (tag : ℕ) (places : List ℕ) (c : ColumnParts) → first_with tag_of_column tag (map (column_parts_at I) places) ≡ Some c → first_with (column_tag I) tag places ≡ Some c.place
unfolding first_with
told_first_column I tag [] c e = absurd cc
told_first_column I tag (p ∷ rest) c e = by_test (eqb (column_tag I p) tag) (λ h. told_first_column I tag rest c h) e
  where
    by_test : (b : Bool) → (first_with tag_of_column tag (map (column_parts_at I) rest) ≡ Some c → first_with (column_tag I) tag rest ≡ Some c.place)
        → cond b (Some (column_parts_at I p)) (first_with tag_of_column tag (map (column_parts_at I) rest)) ≡ Some c → cond b (Some p) (first_with (column_tag I) tag rest) ≡ Some c.place
    by_test true later e = let same : column_parts_at I p ≡ c = cc in ap (λ (q : ColumnParts). Some q.place) same
    by_test false later e = later e

pub first_place : (t : Table) (r : Roots) (c : ColumnParts) → IsFirstColumn t r c → first_with (column_tag t.image) c.tag (column_places t.image (info_of t r)) ≡ Some c.place
unfolding tc_columns
first_place t r c first = told_first_column t.image c.tag (column_places t.image (info_of t r)) c first

pub first_inside : (t : Table) (r : Roots) (s : Span) (c : ColumnParts) → s ≡ info_of t r → IsFirstColumn t r c → IsInside t.image s → info_fault t.image s ≡ None → c.place + 8 ≤ length t.image
first_inside t r s c is first inside none =
    let found : first_with (column_tag t.image) c.tag (column_places t.image s) ≡ Some c.place = rw is (first_place t r c first) in
    let w = found_place t.image s c.tag c.place found in
    omega (arith, w.1, w.2, inside, sound_room t.image s none)

pub first_good : (t : Table) (r : Roots) (s : Span) (c : ColumnParts) → s ≡ info_of t r → IsFirstColumn t r c → info_fault t.image s ≡ None → is_column t.image s c.place ≡ true
first_good t r s c is first none =
    let found : first_with (column_tag t.image) c.tag (column_places t.image s) ≡ Some c.place = rw is (first_place t r c first) in
    let w = found_place t.image s c.tag c.place found in
    sound_column t.image s w.0 c.place none w.1 w.2

pub first_sound : (t : Table) (r : Roots) (s : Span) (row : ℕ) (c : ColumnParts) → s ≡ info_of t r → IsFirstColumn t r c → cells_fault t r s row ≡ None → cell_fault t r s row c.place ≡ None
first_sound t r s row c is first none = found_cell t r s row c.tag c.place none (rw is (first_place t r c first))

-- ---- a row that is found

pub found_sound : (t : Table) (r : Roots) (s : Span) (key : ℕ) (number : Span) → tc_body_fault t r s ≡ None → Some number ≡ option_map record_span (first_with record_key key (tc_records t r s)) → row_record_fault t r s (key, number) ≡ None
found_sound t r s key number none is =
    let xs = tc_records t r s in
    found_part (row_record_fault t r s) xs key (key, number) (body_rows t r s none) (found_span key number xs is)

pub found_row : (t : Table) (r : Roots) (key : ℕ) (number : Span) → Some number ≡ option_map record_span (first_with record_key key (tc_records t r (info_of t r))) → first_with row_id_of key (tc_rows t r) ≡ Some (row_parts_at t r (key, number))
unfolding tc_rows
found_row t r key number is =
    let xs = tc_records t r (info_of t r) in
    found_made row_id_of (row_parts_at t r) key xs (λ x. refl) ∙ ap (option_map (row_parts_at t r)) (found_span key number xs is)

pub found_nothing : (t : Table) (r : Roots) (key : ℕ) → None ≡ option_map record_span (first_with record_key key (tc_records t r (info_of t r))) → first_with row_id_of key (tc_rows t r) ≡ None
unfolding tc_rows
found_nothing t r key is =
    let xs = tc_records t r (info_of t r) in
    found_made row_id_of (row_parts_at t r) key xs (λ x. refl) ∙ nothing_made (row_parts_at t r) (first_with record_key key xs) is
