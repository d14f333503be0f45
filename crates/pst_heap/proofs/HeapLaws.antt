-- The grammar of heaps, and their first fault, say the same.
use Rattle.std.proofs.Common.{◌≡◌, ℕ, zero, suc, ◌<◌, ◌≤◌, Bool, true, false, cond, List, [], ◌∷◌, length, Option, Some, None, refl, arith, ◌↔◌}
use Rattle.std.specs.Prelude.{slice_get}
use Rattle.std.proofs.lemmas.Bool.{eqb-true, eq-eqb, le-leb, leb-true, ltb-true, and_parts, and_from}
use Rattle.pst_bytes.specs.declared.span.Span.{Span}
use Rattle.pst_fault.proofs.FirstLemmas.{none_then, both_none, holds_or_none, holds_or_true}
use Rattle.pst_fault.proofs.EachLemmas.{of_none, none_of}
use Rattle.pst_datatree.specs.Spans.{first_span}
use Rattle.pst_heap.specs.declared.check.TheConstants.{SPANS}
use Rattle.pst_heap.specs.PageMap.{item_count, offset_in, has_page_map, has_front}
use Rattle.pst_heap.specs.Values.{HeapData, client_of, index_of, block_of, names_item, item_span, item_in, item_of}
use Rattle.pst_heap.specs.Grammar.{HasPageMap, IsHeap}
use Rattle.pst_heap.specs.Fault.{extra_fault, front_fault, page_map_fault, heap_fault, client_fault}
use Rattle.pst_heap.specs.Laws.{LiesInSpan, HeapLaw, HeapItemLaw}
use Rattle.pst_heap.proofs.MapLemmas.{rise_at, never_from, offset_rises, offset_inside}
use Rattle.pst_heap.proofs.HeapLemmas.{front_there, map_there, span_has_map}

page_map_law : (I : List ℕ) (s : Span) → HasPageMap I s ↔ (has_page_map I s ≡ true)
unfolding has_page_map
page_map_law I s = (
  (λ m. and_from _ _ (and_from _ _ m.room (never_from (offset_in I s) (item_count I s) m.rise)) (le-leb _ _ (m.inside (item_count I s) (omega arith)))),
  (λ h.
      let a = and_parts _ _ h in
      let b = and_parts _ _ a.0 in
      record {
        room = b.0;
        rise = λ i lt. rise_at (offset_in I s) (item_count I s) i b.1 lt;
        inside = λ i le. offset_inside I s i h le;
      }),
)

no_map_fault : (I : List ℕ) (s : Span) → has_page_map I s ≡ true → page_map_fault I s ≡ None
unfolding page_map_fault
no_map_fault I s h = holds_or_true _ _ h

no_front_fault : (I : List ℕ) (spans : List Span) → 0 < length spans → has_front I (first_span spans) ≡ true → front_fault I spans ≡ None
unfolding front_fault
no_front_fault I [] some h = absurd (omega (arith, some))
no_front_fault I (s ∷ rest) some h = holds_or_true _ _ h

few_law : (spans : List Span) (n : ℕ) → (length spans ≤ n) ↔ (extra_fault (slice_get spans n) ≡ None)
few_law [] n = ((λ h. refl), (λ e. omega arith))
few_law (s ∷ rest) zero = ((λ h. absurd (omega arith)), (λ e. absurd cc))
few_law (s ∷ rest) (suc n) = (
  (λ h. (few_law rest n).0 (omega arith)),
  (λ e. omega (arith, (few_law rest n).1 e)),
)

pub heap_none : (h : HeapData) → IsHeap h → heap_fault h ≡ None
unfolding heap_fault
heap_none h is =
    both_none _ _ ((few_law h.spans SPANS).0 is.few)
    (both_none _ _ (no_front_fault h.image h.spans is.some is.front)
    (of_none (page_map_fault h.image) h.spans (λ s w. no_map_fault h.image s ((page_map_law h.image s).0 (is.maps s w)))))

pub none_heap : (h : HeapData) → heap_fault h ≡ None → IsHeap h
unfolding heap_fault
none_heap h none =
    let a = none_then _ _ none in
    let b = none_then _ _ a.1 in
    let f = front_there h.image h.spans b.0 in
    record {
      some = f.0;
      few = (few_law h.spans SPANS).1 a.0;
      front = f.2;
      maps = λ s w. (page_map_law h.image s).1 (map_there h.image s (none_of (page_map_fault h.image) h.spans s b.1 w));
    }

pub heap_law : HeapLaw
heap_law h = (heap_none h, none_heap h)

-- ---- items

some_where : {X : Type 0} (b : Bool) (x y : X) → (let o : Option X = cond b (Some x) None in o ≡ Some y) → (b ≡ true) × (x ≡ y)
some_where true x y e = (refl, cc)
some_where false x y e = cc

lies_in : (I : List ℕ) (span s : Span) (i : ℕ) → has_page_map I span ≡ true → 0 < i → i ≤ item_count I span → item_span I span i ≡ s → LiesInSpan span s
lies_in I span s i map pos le is =
    let rises = offset_rises I span i map pos le in
    let inside = offset_inside I span i map le in
    rw (← is) (omega arith, omega (arith, rises, inside))

item_lies : (I : List ℕ) (hid : ℕ) (span s : Span) → has_page_map I span ≡ true → item_in I hid (Some span) ≡ Some s → LiesInSpan span s
unfolding item_in
item_lies I hid span s map e =
    let n = some_where (names_item I span hid) (item_span I span (index_of hid)) s e in
    let a = and_parts _ _ n.0 in
    let b = and_parts _ _ a.0 in
    lies_in I span s (index_of hid) map (ltb-true _ _ b.1) (leb-true _ _ a.1) n.1

span_of_item : (I : List ℕ) (hid : ℕ) (o : Option Span) (s : Span) → item_in I hid o ≡ Some s → (span : Span) × (o ≡ Some span)
unfolding item_in
span_of_item I hid None s e = cc
span_of_item I hid (Some span) s e = (span, refl)

pub item_law : HeapItemLaw
unfolding item_of
item_law h hid s is e =
    let t = span_of_item h.image hid (slice_get h.spans (block_of hid)) s e in
    let map = span_has_map h (block_of hid) t.0 (heap_none h is) t.1 in
    (t.0, t.1, item_lies h.image hid t.0 s map (rw t.1 at e))

-- ---- the client signature

pub client_law : (h : HeapData) (client : ℕ) → (client_of h ≡ client) ↔ (client_fault client h ≡ None)
unfolding client_fault
client_law h client = ((λ e. holds_or_true _ _ (eq-eqb _ _ e)), (λ e. eqb-true _ _ (holds_or_none _ _ e)))
