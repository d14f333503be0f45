-- The spans of a heap, step by step.
use Rattle.std.proofs.Common.{◌≡◌, ℕ, zero, suc, ◌<◌, ◌≤◌, true, false, List, [], ◌∷◌, length, Some, None, refl, arith}
use Rattle.std.specs.Prelude.{slice_get}
use Rattle.std.proofs.lemmas.Bool.{leb-true, and_parts}
use Rattle.pst_bytes.specs.declared.span.Span.{Span}
use Rattle.pst_fault.specs.declared.kind.Kind.TheVariants.{Heap}
use Rattle.pst_fault.specs.Fault.{fault_at}
use Rattle.pst_fault.specs.Each.{first_of}
use Rattle.pst_fault.proofs.FirstLemmas.{none_then, holds_or_none}
use Rattle.pst_fault.proofs.EachLemmas.{each_first, each_rest}
use Rattle.pst_datatree.specs.Spans.{first_span}
use Rattle.pst_heap.specs.PageMap.{has_page_map, has_front, has_room}
use Rattle.pst_heap.specs.Values.{HeapData, block_of, item_in, item_of}
use Rattle.pst_heap.specs.Fault.{bad_span, front_fault, page_map_fault, heap_fault}
use Rattle.pst_heap.proofs.MapLemmas.{has_map_room}

-- ---- the first span

pub front_none : (I : List ℕ) (spans : List Span) → slice_get spans 0 ≡ None → front_fault I spans ≡ Some (fault_at Heap 0)
unfolding front_fault
front_none I [] e = refl
front_none I (s ∷ rest) e = absurd cc

pub front_good : (I : List ℕ) (spans : List Span) (s : Span) → slice_get spans 0 ≡ Some s → has_front I s ≡ true → front_fault I spans ≡ None
unfolding front_fault
front_good I [] s e h = absurd cc
front_good I (x ∷ rest) s e h = let same : x ≡ s = cc in rw (same, h) refl

pub front_bad : (I : List ℕ) (spans : List Span) (s : Span) → slice_get spans 0 ≡ Some s → has_front I s ≡ false → front_fault I spans ≡ Some (bad_span s)
unfolding front_fault
front_bad I [] s e h = absurd cc
front_bad I (x ∷ rest) s e h = let same : x ≡ s = cc in rw (same, h) refl

pub first_got : (spans : List Span) (s : Span) → slice_get spans 0 ≡ Some s → first_span spans ≡ s
first_got [] s e = absurd cc
first_got (x ∷ rest) s e = cc

-- ---- page maps

pub map_there : (I : List ℕ) (s : Span) → page_map_fault I s ≡ None → has_page_map I s ≡ true
unfolding page_map_fault
map_there I s e = holds_or_none _ _ e

maps_at : (I : List ℕ) (spans : List Span) (n : ℕ) (s : Span) → first_of (page_map_fault I) spans ≡ None → slice_get spans n ≡ Some s → has_page_map I s ≡ true
maps_at I [] n s e is = absurd cc
maps_at I (x ∷ rest) zero s e is =
    let same : x ≡ s = cc in
    rw (← same) (map_there I x (each_first (page_map_fault I) (x ∷ rest) rest x e refl))
maps_at I (x ∷ rest) (suc n) s e is = maps_at I rest n s (each_rest (page_map_fault I) (x ∷ rest) rest x e refl) is

-- ---- heaps without fault

pub heap_parts : (h : HeapData) → heap_fault h ≡ None → (front_fault h.image h.spans ≡ None) × (first_of (page_map_fault h.image) h.spans ≡ None)
unfolding heap_fault
heap_parts h none = none_then _ _ (none_then _ _ none).1

pub span_has_map : (h : HeapData) (n : ℕ) (s : Span) → heap_fault h ≡ None → slice_get h.spans n ≡ Some s → has_page_map h.image s ≡ true
span_has_map h n s none is = maps_at h.image h.spans n s (heap_parts h none).1 is

pub span_has_room : (h : HeapData) (n : ℕ) (s : Span) → heap_fault h ≡ None → slice_get h.spans n ≡ Some s → has_room h.image s ≡ true
span_has_room h n s none is = has_map_room h.image s (span_has_map h n s none is)

-- there is a first span, and it has a front
pub front_there : (I : List ℕ) (spans : List Span) → front_fault I spans ≡ None → (0 < length spans) × (slice_get spans 0 ≡ Some (first_span spans)) × (has_front I (first_span spans) ≡ true)
unfolding front_fault
front_there I [] e = absurd cc
front_there I (s ∷ rest) e = (omega arith, refl, holds_or_none _ _ e)

pub first_there : (h : HeapData) → heap_fault h ≡ None → slice_get h.spans 0 ≡ Some (first_span h.spans)
first_there h none = (front_there h.image h.spans (heap_parts h none).0).1

pub first_long : (h : HeapData) → heap_fault h ≡ None → 12 ≤ (first_span h.spans).len
unfolding has_front
first_long h none = leb-true _ _ (and_parts _ _ (front_there h.image h.spans (heap_parts h none).0).2).0

-- ---- items

pub item_none : (h : HeapData) (hid : ℕ) → slice_get h.spans (block_of hid) ≡ None → item_of h hid ≡ None
unfolding item_of item_in
item_none h hid is = rw is refl

pub item_some : (h : HeapData) (hid : ℕ) (s : Span) → slice_get h.spans (block_of hid) ≡ Some s → item_of h hid ≡ item_in h.image hid (Some s)
unfolding item_of
item_some h hid s is = rw is refl
