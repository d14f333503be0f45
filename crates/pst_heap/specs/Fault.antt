-- The first fault of a heap ([MS-PST] 2.3.1): how many spans it has, its front, then the page map of each span.
--
-- A fault is told of no context here: whoever checks the heap of a node sets it.
use Rattle.std.specs.Prelude.{ℕ, nat_eq, List, [], ◌∷◌, Option, Some, None, slice_get}
use Rattle.pst_bytes.specs.declared.span.Span.{Span}
use Rattle.pst_fault.specs.declared.fault.Fault.{Fault}
use Rattle.pst_fault.specs.declared.kind.Kind.TheVariants.{Heap, HeapId}
use Rattle.pst_fault.specs.Fault.{fault_at}
use Rattle.pst_fault.specs.First.{◌then◌, holds_or}
use Rattle.pst_fault.specs.Each.{first_of, there_or}
use Rattle.pst_datatree.specs.Spans.{first_span}
use Rattle.pst_ndb.specs.declared.node.Node.{Node}
use Rattle.pst_ndb.specs.Roots.{Roots}
use Rattle.pst_ndb.specs.Views.{roots_of}
use Rattle.pst_heap.specs.declared.check.TheConstants.{SPANS}
use Rattle.pst_heap.specs.PageMap.{has_page_map, has_front}
use Rattle.pst_heap.specs.Values.{HeapData, client_of, item_of}

-- a breach of the rules in a span; told where it lies
abbrev pub bad_span : Span → Fault
bad_span s = fault_at Heap s.at

-- the span behind the last one that a heap may have
abbrev pub extra_fault : Option Span → Option Fault
extra_fault None = None
extra_fault (Some s) = Some (bad_span s)

-- there is a first span, and it begins with a heap's header
unfoldable pub front_fault : List ℕ → List Span → Option Fault
front_fault I [] = Some (fault_at Heap 0)
front_fault I (s ∷ rest) = holds_or (has_front I s) (bad_span s)

-- of a span: its page map
unfoldable pub page_map_fault : List ℕ → Span → Option Fault
page_map_fault I s = holds_or (has_page_map I s) (bad_span s)

-- of a heap: how many spans it has, then the first one, then each of them
unfoldable pub heap_fault : HeapData → Option Fault
heap_fault h = extra_fault (slice_get h.spans SPANS) then front_fault h.image h.spans then first_of (page_map_fault h.image) h.spans

-- of the client signature of a heap: told at the first span
unfoldable pub client_fault : ℕ → HeapData → Option Fault
client_fault client h = holds_or (nat_eq (client_of h) client) (bad_span (first_span h.spans))

-- ---- an item that is named

-- no item has the identifier that is named at a place
abbrev pub no_item : ℕ → Fault
no_item named = fault_at HeapId named

-- of an item, named at a place: that there is none, or what is at fault in it
abbrev pub item_or : ℕ → (Span → Option Fault) → Option Span → Option Fault
item_or named part o = there_or (no_item named) part o

-- of an identifier that is named at no place in the file
abbrev pub item_fault : HeapData → ℕ → Option Fault
item_fault h hid = item_or 0 (λ _. None) (item_of h hid)

-- ---- the context that a fault is told of

-- the block identifier of its node's data, as it is written, and the node of the node B-tree from which that was reached
abbrev pub in_context : ℕ → ℕ → Fault → Fault
in_context bid nid f = record { kind = f.kind; place = record { at = f.place.at; bid = bid; nid = nid } }

-- of a node that is named by its roots, and of a node
abbrev pub told_under : Roots → Fault → Fault
told_under r f = in_context r.bid_data r.top f

abbrev pub told_of : Node → Fault → Fault
told_of node f = told_under (roots_of node) f
