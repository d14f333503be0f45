-- Laws of heaps.
use Rattle.std.specs.Prelude.{◌≡◌, ℕ, ◌+◌, ◌≤◌, ◌↔◌, Some, None, slice_get}
use Rattle.pst_bytes.specs.declared.span.Span.{Span}
use Rattle.pst_heap.specs.Values.{HeapData, block_of, item_of}
use Rattle.pst_heap.specs.Grammar.{IsHeap}
use Rattle.pst_heap.specs.Fault.{heap_fault}

-- The data of a node is a heap exactly where it has no first fault.
abbrev pub HeapLaw : Type 0
HeapLaw = (h : HeapData) → IsHeap h ↔ (heap_fault h ≡ None)

-- one span lies in another
abbrev pub LiesInSpan : Span → Span → Type 0
LiesInSpan outer s = (outer.at ≤ s.at) × (s.at + s.len ≤ outer.at + outer.len)

-- In a heap each item lies in one span, that whose number its identifier has.
abbrev pub HeapItemLaw : Type 0
HeapItemLaw = (h : HeapData) (hid : ℕ) (s : Span) → IsHeap h → item_of h hid ≡ Some s
    → (span : Span) × (slice_get h.spans (block_of hid) ≡ Some span) × LiesInSpan span s
