-- The grammar of values: which spans the value of a property or a cell has ([MS-PST] 2.3.3.2, 2.3.3.3, 2.3.4.4.1). It speaks of no
-- fault.
use Rattle.std.specs.Prelude.{◌≡◌, ℕ, ◌≤◌, ⊤, ◌⊎◌, List, [], Option, Some, None}
use Rattle.pst_bytes.specs.declared.span.Span.{Span}
use Rattle.pst_bytes.specs.Image.{num}
use Rattle.pst_block.specs.Table.{Table}
use Rattle.pst_datatree.specs.Data.{size_of}
use Rattle.pst_ndb.specs.Roots.{Roots, subnode_of}
use Rattle.pst_heap.specs.Values.{item_of, heap_at}
use Rattle.pst_value.specs.declared.class.Class.{Class}
use Rattle.pst_value.specs.declared.class.Class.TheVariants.{Inline, Eight, Guid, Object, Open, Multi, Opaque}
use Rattle.pst_value.specs.declared.hnid.Hnid.{Hnid}
use Rattle.pst_value.specs.declared.hnid.Hnid.TheVariants.{Nothing, Item, Subnode}
use Rattle.pst_value.specs.Class.{class_of}
use Rattle.pst_value.specs.Hnid.{hnid_of}
use Rattle.pst_value.specs.Values.{held_of, one_span, front_of, node_spans}

-- an HNID that names an item of the heap, and one that names a subnode
abbrev pub HasItem : Table → Roots → ℕ → List Span → Type 0
HasItem t r hnid spans = (s : Span) × (item_of (heap_at t r) hnid ≡ Some s) × (spans ≡ one_span s)

abbrev pub HasSubnodeData : Table → Roots → ℕ → List Span → Type 0
HasSubnodeData t r hnid spans = (s : Roots) × (subnode_of t r hnid ≡ Some s) × (spans ≡ node_spans t s)

-- what an HNID names: nothing, the empty value; an item; the data of a subnode
abbrev pub HasSpansUnder : Table → Roots → Hnid → List Span → Type 0
HasSpansUnder t r Nothing spans = spans ≡ []
HasSpansUnder t r (Item hid) spans = HasItem t r hid spans
HasSpansUnder t r (Subnode nid) spans = HasSubnodeData t r nid spans

abbrev pub HasHnid : Table → Roots → ℕ → List Span → Type 0
HasHnid t r hnid spans = HasSpansUnder t r (hnid_of hnid) spans

-- a length that a class allows
abbrev pub HasLength : Class → ℕ → Type 0
HasLength Inline n = ⊤
HasLength Eight n = (n ≡ 0) ⊎ (n ≡ 8)
HasLength Guid n = (n ≡ 0) ⊎ (n ≡ 16)
HasLength Object n = (n ≡ 0) ⊎ (8 ≤ n)
HasLength Open n = ⊤
HasLength Multi n = ⊤
HasLength Opaque n = ⊤

abbrev pub HasValueAs : Table → Roots → ℕ → Span → List Span → Option ℕ → Type 0
HasValueAs t r kind raw spans (Some width) = spans ≡ one_span (front_of raw width)
HasValueAs t r kind raw spans None =
    HasHnid t r (num t.image raw.at 4) spans × HasLength (class_of kind) (size_of spans)

-- the value of a type in a raw span: bytes of the raw span itself, or what the HNID there names, of a length that the type allows
unfoldable pub HasValue : Table → Roots → ℕ → Span → List Span → Type 0
HasValue t r kind raw spans = HasValueAs t r kind raw spans (held_of kind raw.len)
