use Rattle.std.proofs.Common.{◌≡◌, ◌+◌, length}
use Rattle.pst_ndb.specs.NodeIndexes.{AreNodeIndexes}
use Rattle.pst_ndb.specs.Views.{table_of_node}
use Rattle.pst_verify.specs.pst_msg.View.{node_of_message, message_roots}
use Rattle.pst_export.specs.Held.{held_in_folder}
use Rattle.pst_export.specs.Walk.{IsWalkOver, walk_left}
use Rattle.pst_export.proofs.count.count_message.Given as goal

-- as many are counted as are no more left
abbrev pub invariant-loop-walk : goal.invariant-loop-walk
invariant-loop-walk l = let t = table_of_node (node_of_message l.fn.message) in record {
  over : IsWalkOver t l.walk;
  index : AreNodeIndexes t l.index;
  counted : l.left + length (held_in_folder t l.name (message_roots l.fn.message)) ≡ l.fn.most + length (walk_left l.walk);
}

abbrev pub decreases-loop-walk : goal.decreases-loop-walk
decreases-loop-walk l = length (walk_left l.walk)
