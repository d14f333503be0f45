use Rattle.std.proofs.Common.{length}
use Rattle.std.specs.Prelude.{flat_map}
use Rattle.pst_ndb.specs.NodeIndexes.{AreNodeIndexes}
use Rattle.pst_ndb.specs.Views.{table_of_node}
use Rattle.pst_json.specs.DocumentIndexes.{AreDocumentIndexes}
use Rattle.pst_value_json.specs.Props.{names_told}
use Rattle.pst_verify.specs.pst_msg.View.{node_of_message, message_roots}
use Rattle.pst_export.specs.Files.{held_files}
use Rattle.pst_export.specs.Store.{message_files}
use Rattle.pst_export.specs.Walk.{IsWalkOver, walk_left}
use Rattle.pst_export.proofs.WriteLemmas.{Added}
use Rattle.pst_export.proofs.messages.write_message.Given as goal

-- a front of the files is written, and those of what is left of the message are to come
abbrev pub invariant-loop-walk : goal.invariant-loop-walk
invariant-loop-walk g l = let t = table_of_node (node_of_message l.fn.message) in let told = names_told l.fn.names in record {
  over : IsWalkOver t l.walk;
  index : AreNodeIndexes t l.index;
  known : AreDocumentIndexes t l.indexes;
  left : Added (g.W.Write.contents l.initial.out) (g.W.Write.contents l.out) l.initial.number l.number
      (message_files told t l.name (message_roots l.fn.message)) (flat_map (held_files told t l.time) (walk_left l.walk));
}

abbrev pub decreases-loop-walk : goal.decreases-loop-walk
decreases-loop-walk g l = length (walk_left l.walk)
