-- What a contract sees of a BTH, and of the records of one of its items.
use Rattle.std.specs.Prelude.{ℕ, List}
use Rattle.pst_bytes.specs.declared.Image.{Image}
use Rattle.pst_bytes.specs.declared.span.Span.{Span}
use Rattle.pst_heap.specs.declared.heap.Heap.{Heap}
use Rattle.pst_heap.specs.View.{data_of}
use Rattle.pst_bth.specs.declared.sizes.Sizes.{Sizes}
use Rattle.pst_bth.specs.declared.rows.Rows.{Rows}
use Rattle.pst_bth.specs.declared.bth.Bth.{Bth}
use Rattle.pst_bth.specs.Values.{header_rows, records_under}

-- ---- a BTH: the heap in which it is; how many bytes keys and data take; the places of its records

abbrev pub heap_of : Bth → Heap
heap_of b = b.heap

abbrev pub sizes_in : Bth → Sizes
sizes_in b = b.sizes

abbrev pub rows_of : Bth → List ℕ
rows_of b = header_rows (data_of b.heap) b.sizes b.head

-- its records: each a key and the span of its data, keys rising
abbrev pub records_of : Bth → List (ℕ × Span)
records_of b = records_under (data_of b.heap) b.sizes b.head

-- ---- the records of an item: the file, the item, how many bytes a key takes, and a record

abbrev pub rows_image : Rows → Image
rows_image r = r.image

abbrev pub rows_item : Rows → Span
rows_item r = r.item

abbrev pub rows_key_size : Rows → ℕ
rows_key_size r = r.key

abbrev pub rows_size : Rows → ℕ
rows_size r = r.size
