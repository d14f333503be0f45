-- What a heap is ([MS-PST] 2.3.1), in plain facts. It speaks of no fault.
use Rattle.std.specs.Prelude.{◌≡◌, ℕ, ◌+◌, ◌<◌, ◌≤◌, true, List, length}
use Rattle.std.specs.List.{Contains}
use Rattle.pst_bytes.specs.declared.span.Span.{Span}
use Rattle.pst_datatree.specs.Spans.{first_span}
use Rattle.pst_heap.specs.declared.check.TheConstants.{SPANS}
use Rattle.pst_heap.specs.PageMap.{item_count, offset_in, has_room, has_front}
use Rattle.pst_heap.specs.Values.{HeapData}

-- a span with a page map: it has room there, its offsets never fall, and are at most the length of the span
pub record HasPageMap (I : List ℕ) (s : Span) : Type 0 where
  pub room : has_room I s ≡ true
  pub rise : (i : ℕ) → i < item_count I s → offset_in I s i ≤ offset_in I s (i + 1)
  pub inside : (i : ℕ) → i ≤ item_count I s → offset_in I s i ≤ s.len

-- a heap: 1 to 65,536 spans, the first with the header, each with a page map
pub record IsHeap (h : HeapData) : Type 0 where
  pub some : 0 < length h.spans
  pub few : length h.spans ≤ SPANS
  pub front : has_front h.image (first_span h.spans) ≡ true
  pub maps : (s : Span) → Contains h.spans s → HasPageMap h.image s
