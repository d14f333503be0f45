use Rattle.std.proofs.Common.{◌≡◌, Some, drop}
use Rattle.std.specs.Prelude.{fold}
use Rattle.pst_ndb.specs.Views.{image_of_node, table_of_node}
use Rattle.pst_props.specs.Found.{node_of_reached, place_of_reached}
use Rattle.pst_props.specs.Path.{step}
use Rattle.pst_props.proofs.found.walk.Given as goal

-- the steps that are left lead on from here
abbrev pub invariant-loop-nid : goal.invariant-loop-nid
invariant-loop-nid l = let t = table_of_node (node_of_reached l.fn.from) in record {
  left : fold (step t) (Some (place_of_reached l.fn.from)) l.steps ≡ fold (step t) (Some (place_of_reached l.at)) (drop l.nid-index l.steps);
  table : table_of_node (node_of_reached l.at) ≡ t;
  image : image_of_node (node_of_reached l.at) ≡ image_of_node (node_of_reached l.fn.from);
}
