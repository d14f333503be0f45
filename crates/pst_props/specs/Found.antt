-- What a path has reached, and what of that has properties.
use Rattle.pst_ndb.specs.declared.node.Node.{Node as NodeView}
use Rattle.pst_ndb.specs.Views.{nid_of, roots_of}
use Rattle.pst_value_json.specs.pst_pc.View.{node_of_pc}
use Rattle.pst_verify.specs.pst_msg.View.{node_of_attachment, node_of_message}
unfoldable pub use Rattle.pst_verify.specs.pst_store.Kind.{node_of_kind}
use Rattle.pst_props.specs.declared.found.Found.{Found}
use Rattle.pst_props.specs.declared.found.Found.TheVariants as found
use Rattle.pst_props.specs.declared.found.Reached.{Reached}
use Rattle.pst_props.specs.declared.found.Reached.TheVariants.{Message, Attachment, Node}
use Rattle.pst_props.specs.Path.{Place, message, attachment, other}

-- ---- what is reached: its node, and as a place

abbrev pub node_of_reached : Reached → NodeView
node_of_reached (Message m) = node_of_message m
node_of_reached (Attachment a) = node_of_attachment a
node_of_reached (Node n) = n

abbrev pub place_of_reached : Reached → Place
place_of_reached (Message m) = let n = node_of_message m in message (nid_of n) (roots_of n)
place_of_reached (Attachment a) = let n = node_of_attachment a in attachment (nid_of n) (roots_of n)
place_of_reached (Node n) = other (nid_of n) (roots_of n)

-- ---- what has properties: its node, and as a place

abbrev pub node_of_found : Found → NodeView
node_of_found (found.Message m) = node_of_message m
node_of_found (found.Attachment a) = node_of_attachment a
node_of_found (found.Pc p) = node_of_pc p

abbrev pub place_of_found : Found → Place
place_of_found (found.Message m) = let n = node_of_message m in message (nid_of n) (roots_of n)
place_of_found (found.Attachment a) = let n = node_of_attachment a in attachment (nid_of n) (roots_of n)
place_of_found (found.Pc p) = let n = node_of_pc p in other (nid_of n) (roots_of n)
