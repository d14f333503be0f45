-- Steps of the check of a whole BTH, and of its look-ups.
use Rattle.std.proofs.Common.{◌≡◌, ◌≢◌, ℕ, ◌≤◌, Bool, true, false, cond, eqb, List, [], ◌∷◌, map, Some, None, refl}
use Rattle.std.specs.Prelude.{option_map}
use Rattle.std.proofs.lemmas.Bool.{leb-true, and_parts, eq-eqb, ne_eqb}
use Rattle.pst_bytes.specs.declared.span.Span.{Span}
use Rattle.pst_btree.specs.Entries.{first_with}
use Rattle.pst_fault.proofs.FirstLemmas.{none_then, holds_or_none}
use Rattle.pst_heap.specs.Values.{HeapData, item_of}
use Rattle.pst_bth.specs.declared.sizes.Sizes.{Sizes}
use Rattle.pst_bth.specs.Rows.{row_key}
use Rattle.pst_bth.specs.Values.{tree_rows}
use Rattle.pst_bth.specs.Values.{levels_in, root_place, root_in, has_bth_header, header_rows, record_key, record_at, records_under, bth_records}
use Rattle.pst_bth.specs.Fault.{bth_root_fault, bth_header_fault}
use Rattle.pst_bth.specs.Find.{HasBthTree, rows_from_key}

pub header_long : (I : List ℕ) (z : Sizes) (s : Span) → has_bth_header I z s ≡ true → 8 ≤ s.len
unfolding has_bth_header
header_long I z s h = leb-true _ _ (and_parts _ _ (and_parts _ _ (and_parts _ _ (and_parts _ _ h).0).0).0).0

pub records_some : (h : HeapData) (z : Sizes) (hid : ℕ) (s : Span) → item_of h hid ≡ Some s → bth_records h z hid ≡ records_under h z s
unfolding bth_records
records_some h z hid s is = rw is refl

-- ---- a BTH without fault

pub sound_header : (h : HeapData) (z : Sizes) (s : Span) → bth_header_fault h z s ≡ None → has_bth_header h.image z s ≡ true
unfolding bth_header_fault
sound_header h z s e = holds_or_none _ _ (none_then _ _ e).0

pub sound_long : (h : HeapData) (z : Sizes) (s : Span) → bth_header_fault h z s ≡ None → 8 ≤ s.len
sound_long h z s e = header_long h.image z s (sound_header h z s e)

pub header_root : (h : HeapData) (z : Sizes) (s : Span) → bth_header_fault h z s ≡ None → bth_root_fault h z s ≡ None
unfolding bth_header_fault
header_root h z s e = (none_then _ _ e).1

pub has_root : (h : HeapData) (z : Sizes) (s : Span) (named levels : ℕ) → bth_header_fault h z s ≡ None → root_in h.image s ≢ 0 → named ≡ root_place s → levels ≡ levels_in h.image s → HasBthTree h z levels named
unfolding bth_root_fault
has_root h z s named levels e n a b =
    let root : bth_root_fault h z s ≡ None = header_root h z s e in
    rw (a, b) (record { low = 0; high = None; none = (rw (ne_eqb _ _ n) at root) })

pub rows_none : (h : HeapData) (z : Sizes) (s : Span) → root_in h.image s ≡ 0 → header_rows h z s ≡ []
unfolding header_rows
rows_none h z s e = rw (eq-eqb _ _ e) refl

pub rows_some : (h : HeapData) (z : Sizes) (s : Span) → root_in h.image s ≢ 0 → header_rows h z s ≡ tree_rows h z (levels_in h.image s) (root_place s)
unfolding header_rows
rows_some h z s n = rw (ne_eqb _ _ n) refl

pub nothing_found : (h : HeapData) (z : Sizes) (s : Span) (key : ℕ) → root_in h.image s ≡ 0 → first_with (row_key h.image z.key) key (header_rows h z s) ≡ None
unfolding header_rows first_with
nothing_found h z s key e = rw (eq-eqb _ _ e) refl

-- ---- records by their places

pub found_record : (I : List ℕ) (z : Sizes) (key : ℕ) (rows : List ℕ) → first_with record_key key (map (record_at I z) rows) ≡ option_map (record_at I z) (first_with (row_key I z.key) key rows)
unfolding first_with
found_record I z key [] = refl
found_record I z key (at ∷ rest) = by_test (eqb (row_key I z.key at) key) (found_record I z key rest)
  where
    by_test : (t : Bool) → first_with record_key key (map (record_at I z) rest) ≡ option_map (record_at I z) (first_with (row_key I z.key) key rest)
        → cond t (Some (record_at I z at)) (first_with record_key key (map (record_at I z) rest)) ≡ option_map (record_at I z) (cond t (Some at) (first_with (row_key I z.key) key rest))
    by_test true ih = refl
    by_test false ih = ih

-- ---- the rest from a key on

pub nothing_left : (h : HeapData) (z : Sizes) (s : Span) (low : ℕ) → root_in h.image s ≡ 0 → rows_from_key h.image z.key low (header_rows h z s) ≡ []
unfolding header_rows
nothing_left h z s low e = rw (eq-eqb _ _ e) refl
