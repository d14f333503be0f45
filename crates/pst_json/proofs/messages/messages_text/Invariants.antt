use Rattle.std.proofs.Common.{◌≡◌, ◌++◌}
use Rattle.pst_ndb.specs.NodeTable.{table_of_nodes}
use Rattle.pst_intact.specs.View.{table_of_intact, nodes_of_intact, intact_messages_left, messages_beside}
use Rattle.pst_ndb.specs.NodeIndexes.{AreNodeIndexes}
use Rattle.pst_json.specs.Listings.{AreThere}
use Rattle.pst_json.specs.Messages.{messages_text, summary_lines}
use Rattle.pst_json.specs.RowCounts.{AreCountsTrue}
use Rattle.pst_json.proofs.messages.messages_text.Given as goal

-- the text so far, with the lines of the messages that are left, is all
abbrev pub invariant-loop-message : goal.invariant-loop-message
invariant-loop-message l = let t = table_of_intact l.intact in let nodes = nodes_of_intact l.intact in record {
  table : table_of_nodes (messages_beside l.message-iterator) ≡ t;
  known : AreCountsTrue t l.counts;
  index : AreNodeIndexes t l.index;
  there : AreThere nodes (intact_messages_left l.message-iterator);
  lines : l.text.items ++ summary_lines t nodes (intact_messages_left l.message-iterator) ≡ messages_text t nodes;
}
