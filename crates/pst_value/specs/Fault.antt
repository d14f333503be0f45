-- The first fault of the value of a property or a cell: that its HNID names nothing, then that its length is not its type's. It
-- is told of no node here: whoever checks a node's context sets it.
use Rattle.std.specs.Prelude.{ℕ, Bool, true, ◌||◌, nat_eq, nat_le, List, Option, Some, None}
use Rattle.pst_bytes.specs.declared.span.Span.{Span}
use Rattle.pst_bytes.specs.Image.{num}
use Rattle.pst_fault.specs.declared.fault.Fault.{Fault}
use Rattle.pst_fault.specs.declared.kind.Kind.{Kind}
use Rattle.pst_fault.specs.declared.kind.Kind.TheVariants.{HeapId, Subnode as BadSubnode, Property}
use Rattle.pst_fault.specs.Each.{there_or}
use Rattle.pst_fault.specs.Fault.{fault_at}
use Rattle.pst_fault.specs.First.{holds_or}
use Rattle.pst_block.specs.Table.{Table}
use Rattle.pst_datatree.specs.Data.{size_of}
use Rattle.pst_ndb.specs.Roots.{Roots}
use Rattle.pst_value.specs.declared.class.Class.{Class}
use Rattle.pst_value.specs.declared.class.Class.TheVariants.{Inline, Eight, Guid, Object, Open, Multi, Opaque}
use Rattle.pst_value.specs.declared.hnid.Hnid.{Hnid}
use Rattle.pst_value.specs.declared.hnid.Hnid.TheVariants.{Nothing, Item, Subnode}
use Rattle.pst_value.specs.Class.{class_of}
use Rattle.pst_value.specs.Hnid.{hnid_of}
use Rattle.pst_value.specs.Values.{held_of, hnid_spans}

-- ---- what an HNID names

-- there is no such item or subnode; told at its four bytes
abbrev pub missing_kind : Hnid → Kind
missing_kind Nothing = HeapId
missing_kind (Item hid) = HeapId
missing_kind (Subnode nid) = BadSubnode

abbrev pub missing_at : ℕ → ℕ → Fault
missing_at named hnid = fault_at (missing_kind (hnid_of hnid)) named

-- ---- lengths

abbrev pub is_length_of : Class → ℕ → Bool
is_length_of Inline n = true
is_length_of Eight n = nat_eq n 8
is_length_of Guid n = nat_eq n 16
is_length_of Object n = nat_le 8 n
is_length_of Open n = true
is_length_of Multi n = true
is_length_of Opaque n = true

-- the value that an HNID names, if it has bytes, has as many as its type says
unfoldable pub is_length : ℕ → ℕ → Bool
is_length t n = nat_eq n 0 || is_length_of (class_of t) n

-- a length against the rules; told at a place
abbrev pub length_fault : ℕ → ℕ → List Span → Option Fault
length_fault kind place spans = holds_or (is_length kind (size_of spans)) (fault_at Property place)

-- ---- the value

-- of the HNID that stands at `named`
unfoldable pub hnid_fault : Table → Roots → ℕ → ℕ → ℕ → Option Fault
hnid_fault t r kind place named =
    let hnid = num t.image named 4 in
    there_or (missing_at named hnid) (length_fault kind place) (hnid_spans t r hnid)

abbrev pub value_held_fault : Table → Roots → ℕ → ℕ → Span → Option ℕ → Option Fault
value_held_fault t r kind place raw None = hnid_fault t r kind place raw.at
value_held_fault t r kind place raw (Some width) = None

-- of a type, in a raw span; Property is told at the place
unfoldable pub value_fault : Table → Roots → ℕ → ℕ → Span → Option Fault
value_fault t r kind place raw = value_held_fault t r kind place raw (held_of kind raw.len)
