use Rattle.std.proofs.Common.{◌≡◌, ◌+◌, length}
use Rattle.pst_ndb.specs.NodeTable.{table_of_nodes}
use Rattle.pst_intact.specs.View.{intact_messages_left, messages_beside, table_of_intact, nodes_of_intact}
use Rattle.pst_verify.specs.pst_msg.Nid.{is_type}
use Rattle.pst_verify.specs.pst_store.Kind.{of_kind}
use Rattle.pst_ndb.specs.NodeIndexes.{AreNodeIndexes}
use Rattle.pst_export.specs.Store.{all_held, of_type}
use Rattle.pst_export.proofs.count.count_down.Given as goal

-- as many are counted as are no more left
abbrev pub invariant-loop-message : goal.invariant-loop-message
invariant-loop-message l = let i = l.intact in let t = table_of_intact i in record {
  same : table_of_nodes (messages_beside l.message-iterator) ≡ table_of_intact i;
  index : AreNodeIndexes (table_of_intact i) l.index;
  counted : l.left + length (all_held t l.name (of_type l.kind (nodes_of_intact i)))
      ≡ l.fn.most + length (all_held t l.name (of_kind (is_type l.kind) (intact_messages_left l.message-iterator)));
}
