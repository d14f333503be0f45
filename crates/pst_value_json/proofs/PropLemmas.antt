-- Documents of properties: each is that of its record.
use Rattle.std.proofs.Common.{◌≡◌, ℕ, Bool, Option, ap, ◌∙◌}
use Rattle.pst_bytes.specs.declared.span.Span.{Span}
use Rattle.pst_ndb.specs.declared.node.Node.{Node}
use Rattle.pst_ndb.specs.Views.{image_of_node, table_of_node, roots_of}
use Rattle.pst_names.specs.Name.{NameParts}
use Rattle.pst_pc.specs.declared.prop.Prop.{Prop}
use Rattle.pst_pc.specs.Values.{property_at, spans_in}
use Rattle.pst_pc.specs.View.{property_of, IsPropAt}
use Rattle.pst_value_json.specs.Places.{places_in, if_asked}
use Rattle.pst_value_json.specs.declared.filed.Filed.{Filed}
use Rattle.pst_value_json.specs.Props.{filed_prop_data, record_data}
use Rattle.pst_value_json.proofs.PlaceLemmas.{value_places}

-- ---- a property that is lent is shown as its record

pub record_shown : (names : ℕ → Option NameParts) (filed : Filed) (places : Bool) (node : Node) (x : ℕ × Span) (p : Prop) → IsPropAt node x p
    → filed_prop_data filed (names p.id) (if_asked places (places_in p.value)) (property_of p) ≡ record_data names filed places (table_of_node node) (roots_of node) x
record_shown names filed places node x p is =
    let t = table_of_node node in
    let r = roots_of node in
    ap (λ q. filed_prop_data filed (names q.id) (if_asked places (places_in p.value)) q) is.0
    ∙ ap (λ l. filed_prop_data filed (names x.0) (if_asked places l) (property_at t r x)) (value_places (image_of_node node) (spans_in t r x) p.value is.1)
