-- The spans of the value of a property or a cell ([MS-PST] 2.3.3.2, 2.3.3.3, 2.3.4.4.1): bytes of its raw span itself, or what the
-- HNID there names. Where an HNID names nothing there are none: the first fault tells it.
use Rattle.std.specs.Prelude.{ℕ, nat_le, List, [], ◌∷◌, Option, Some, None, option_map, if◌then◌else◌}
use Rattle.pst_bytes.specs.declared.span.Span.{Span}
use Rattle.pst_bytes.specs.Image.{num}
use Rattle.pst_block.specs.Table.{Table}
use Rattle.pst_datatree.specs.Data.{data_spans}
use Rattle.pst_ndb.specs.Roots.{Roots, subnode_of}
use Rattle.pst_heap.specs.Values.{item_of, heap_at}
use Rattle.pst_value.specs.declared.class.Class.{Class}
use Rattle.pst_value.specs.declared.class.Class.TheVariants.{Inline, Eight, Guid, Object, Open, Multi, Opaque}
use Rattle.pst_value.specs.Class.{class_of, cell_width_of}
use Rattle.pst_value.specs.declared.hnid.Hnid.{Hnid}
use Rattle.pst_value.specs.declared.hnid.Hnid.TheVariants.{Nothing, Item, Subnode}
use Rattle.pst_value.specs.Hnid.{hnid_of}

-- ---- values in the raw span itself

-- they have as many bytes as a cell, where these fit
abbrev pub fitting : Option ℕ → ℕ → Option ℕ
fitting None len = None
fitting (Some width) len = if nat_le width len then Some width else None

abbrev pub held_as : Class → Option ℕ → ℕ → Option ℕ
held_as Inline cell len = fitting cell len
held_as Eight cell len = fitting cell len
held_as Guid cell len = None
held_as Object cell len = None
held_as Open cell len = None
held_as Multi cell len = None
held_as Opaque cell len = Some len

-- how many bytes of a raw span with so many are the value; none where an HNID stands there
unfoldable pub held_of : ℕ → ℕ → Option ℕ
held_of t len = held_as (class_of t) (cell_width_of t) len

-- ---- what an HNID names

abbrev pub one_span : Span → List Span
one_span s = s ∷ []

abbrev pub node_spans : Table → Roots → List Span
node_spans t s = data_spans t s.bid_data

-- its spans; none where there is no such item or subnode
abbrev pub spans_under : Table → Roots → Hnid → Option (List Span)
spans_under t r Nothing = Some []
spans_under t r (Item hid) = option_map one_span (item_of (heap_at t r) hid)
spans_under t r (Subnode nid) = option_map (node_spans t) (subnode_of t r nid)

unfoldable pub hnid_spans : Table → Roots → ℕ → Option (List Span)
hnid_spans t r hnid = spans_under t r (hnid_of hnid)

-- ---- the value

abbrev pub some_spans : Option (List Span) → List Span
some_spans None = []
some_spans (Some spans) = spans

abbrev pub front_of : Span → ℕ → Span
front_of raw width = record { at = raw.at; len = width }

abbrev pub held_spans : Table → Roots → Span → Option ℕ → List Span
held_spans t r raw None = some_spans (hnid_spans t r (num t.image raw.at 4))
held_spans t r raw (Some width) = one_span (front_of raw width)

-- of a type, in a raw span
unfoldable pub value_spans : Table → Roots → ℕ → Span → List Span
value_spans t r kind raw = held_spans t r raw (held_of kind raw.len)
