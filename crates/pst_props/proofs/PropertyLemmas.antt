-- The property that is found, and that it is lent.
use Rattle.std.proofs.Common.{◌≡◌, ℕ, List, refl, sym, ap, ◌∙◌}
use Rattle.std.specs.Prelude.{Option, Result, Ok}
use Rattle.pst_bytes.specs.declared.Image.{Image}
use Rattle.pst_page.specs.declared.entry.NodeEntry.{NodeEntry}
use Rattle.pst_block.specs.Table.{Table}
use Rattle.pst_btree.specs.Entries.{first_with}
use Rattle.pst_ndb.specs.declared.node.Node.{Node}
use Rattle.pst_ndb.specs.Views.{image_of_node, table_of_node, roots_of}
use Rattle.pst_value_json.specs.pst_pc.declared.prop.Prop.{Prop}
use Rattle.pst_value_json.specs.pst_pc.LookUps.{HasIdOf}
use Rattle.pst_value_json.specs.pst_pc.Values.{Property, id_of, props_of}
use Rattle.pst_value_json.specs.pst_pc.View.{IsPropWith}
use Rattle.pst_props.specs.declared.fault.DocFault.{DocFault}
use Rattle.pst_props.specs.declared.found.Found.{Found}
use Rattle.pst_props.specs.declared.found.Found.TheVariants.{Message, Attachment, Pc}
use Rattle.pst_props.specs.Found.{node_of_found, place_of_found}
use Rattle.pst_props.specs.Path.{Place, found_at}
use Rattle.pst_props.specs.Property.{roots_of_place, or_no_property, property_in, IsLentAt}

-- what is found is read from its node
found_roots : (f : Found) → roots_of_place (place_of_found f) ≡ roots_of (node_of_found f)
found_roots (Message m) = refl
found_roots (Attachment a) = refl
found_roots (Pc p) = refl

-- the look-up in what is found is the answer
pub property_there : (t : Table) (id : ℕ) (told : Result Place DocFault) (f : Found) (prop : Option Property) → Ok (place_of_found f) ≡ told → table_of_node (node_of_found f) ≡ t
    → prop ≡ first_with id_of id (props_of (table_of_node (node_of_found f)) (roots_of (node_of_found f))) → property_in t id told ≡ or_no_property id prop
property_there t id told f prop found same is =
    ap (property_in t id) (sym found)
    ∙ ap (λ r. or_no_property id (first_with id_of id (props_of t r))) (found_roots f)
    ∙ ap (λ u. or_no_property id (first_with id_of id (props_of u (roots_of (node_of_found f))))) (sym same)
    ∙ ap (or_no_property id) (sym is)

-- the property of its node is lent
lent_in : (file : Image) (t : Table) (id : ℕ) (node : Node) (p : Prop) → image_of_node node ≡ file → table_of_node node ≡ t → IsPropWith node id p → HasIdOf file t (roots_of node) id p
lent_in file t id node p image table lent = rw (sym image, sym table) lent

pub property_lent : (file : Image) (t : Table) (nodes : List NodeEntry) (path : List ℕ) (id : ℕ) (f : Found) (p : Prop) → Ok (place_of_found f) ≡ found_at t nodes path
    → image_of_node (node_of_found f) ≡ file → table_of_node (node_of_found f) ≡ t → IsPropWith (node_of_found f) id p → IsLentAt file t nodes path id p
property_lent file t nodes path id f p found image table lent =
    (place_of_found f, sym found, rw (found_roots f) (lent_in file t id (node_of_found f) p image table lent))
