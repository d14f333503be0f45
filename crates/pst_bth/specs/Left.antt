-- What an iterator over the records of a BTH has left.
use Rattle.std.specs.Prelude.{◌≡◌, ℕ, ◌-◌, ◌<◌, ◌≤◌, ⊤, List, [], ◌++◌, map, Bool, true, false, Option, Some, None}
use Rattle.pst_bytes.specs.declared.span.Span.{Span}
use Rattle.std.specs.Iterator.{YieldsFirst}
use Rattle.pst_bytes.specs.Image.{IsInside}
use Rattle.pst_heap.specs.View.{data_of}
use Rattle.pst_bth.specs.declared.bth.Bth.{Bth}
use Rattle.pst_bth.specs.declared.records.Records.{Records}
use Rattle.pst_bth.specs.Rows.{row_key, row_count, rows_from}
use Rattle.pst_bth.specs.Rows.{leaf_size}
use Rattle.pst_bth.specs.Values.{record_at}
use Rattle.pst_bth.specs.View.{heap_of, sizes_in, rows_of, rows_item, rows_size}
use Rattle.pst_bth.specs.Find.{rows_from_key}

-- the BTH
abbrev pub bth_left : Records → Bth
bth_left r = r.bth

-- the places of the records that are left: those of the leaf that is gone through, and those from a key on
abbrev pub rows_left : Records → List ℕ
rows_left r =
    rows_from (leaf_size (sizes_in r.bth)) (rows_item r.leaf) r.next ++ rows_from_key (data_of (heap_of r.bth)).image (sizes_in r.bth).key r.low (rows_of r.bth)

-- the records: each a key and the span of its data
abbrev pub records_left : Records → List (ℕ × Span)
records_left r = map (record_at (data_of (heap_of r.bth)).image (sizes_in r.bth)) (rows_left r)

-- the same records are left, the next one in the leaf that is gone through; or none is left
abbrev pub Reaches : Records → Bool → Records → Type 0
Reaches old false new = (new.bth ≡ old.bth) × (rows_left old ≡ []) × (rows_left new ≡ [])
Reaches old true new = (new.bth ≡ old.bth) × (rows_left new ≡ rows_left old) × (new.next < row_count (rows_size new.leaf) (rows_item new.leaf))

-- the data of a record lies in the file, behind its key, and has the size that the BTH says; the key is what stands before it
abbrev pub HasPlace : Bth → Option (ℕ × Span) → Type 0
HasPlace b None = ⊤
HasPlace b (Some r) = IsInside (data_of (heap_of b)).image r.1 × ((sizes_in b).key ≤ r.1.at) × (r.1.len ≡ (sizes_in b).ent)
    × (r.0 ≡ row_key (data_of (heap_of b)).image (sizes_in b).key (r.1.at - (sizes_in b).key))

-- the first record that is left, taken
abbrev pub TakesRecord : Records → Option (ℕ × Span) → Records → Type 0
TakesRecord old taken new = YieldsFirst records_left old taken new × (bth_left new ≡ bth_left old) × HasPlace (bth_left old) taken
