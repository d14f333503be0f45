-- What a contract sees of a property context and of a property.
use Rattle.std.specs.Prelude.{◌≡◌, ℕ, Some}
use Rattle.pst_bytes.specs.declared.span.Span.{Span}
use Rattle.pst_btree.specs.Entries.{first_with}
use Rattle.pst_datatree.specs.Shown.{ShowsSpans, bytes_in}
use Rattle.pst_ndb.specs.declared.node.Node.{Node}
use Rattle.pst_ndb.specs.Views.{image_of_node, table_of_node, roots_of}
use Rattle.pst_heap.specs.View.{node_of}
use Rattle.pst_bth.specs.Values.{record_key}
use Rattle.pst_pc.specs.declared.pc.Pc.{Pc}
use Rattle.pst_pc.specs.declared.prop.Prop.{Prop}
use Rattle.pst_pc.specs.Values.{Property, property_at, spans_in, pc_records}

-- the node whose data it is
abbrev pub node_of_pc : Pc → Node
node_of_pc p = node_of p.heap

-- what is told of a property
abbrev pub property_of : Prop → Property
property_of p = record { id = p.id; kind = p.kind.0; bytes = bytes_in p.value; at = p.at }

-- It is that of a record of a node's property context, and its value shows the spans of that record: it is one slice, the
-- file's own memory, exactly where at most one of them has bytes.
abbrev pub IsPropAt : Node → ℕ × Span → Prop → Type 0
IsPropAt node x p =
    let t = table_of_node node in
    let r = roots_of node in
    (property_of p ≡ property_at t r x) × ShowsSpans (image_of_node node) (spans_in t r x) p.value

-- the same, of the record with an identifier
abbrev pub IsPropWith : Node → ℕ → Prop → Type 0
IsPropWith node id p =
    (x : ℕ × Span) × (first_with record_key id (pc_records (table_of_node node) (roots_of node)) ≡ Some x) × IsPropAt node x p
