use Rattle.std.proofs.Common.{◌≡◌}
use Rattle.pst_ndb.specs.NodeTable.{table_of_nodes}
use Rattle.pst_intact.specs.View.{intact_messages_left, messages_beside, table_of_intact, nodes_of_intact}
use Rattle.pst_json.specs.DocumentIndexes.{AreDocumentIndexes}
use Rattle.pst_ndb.specs.NodeIndexes.{AreNodeIndexes}
use Rattle.pst_value_json.specs.Props.{names_told}
use Rattle.pst_verify.specs.pst_msg.Nid.{is_type}
use Rattle.pst_verify.specs.pst_store.Kind.{of_kind}
use Rattle.pst_export.specs.Store.{messages_files, of_type}
use Rattle.pst_export.proofs.WriteLemmas.{Added}
use Rattle.pst_export.proofs.messages.write_messages.Given as goal

-- a front of the files is written, and those of the messages that are left are to come
abbrev pub invariant-loop-message : goal.invariant-loop-message
invariant-loop-message g l = let i = l.intact in let told = names_told l.fn.names in record {
  same : table_of_nodes (messages_beside l.message-iterator) ≡ table_of_intact i;
  index : AreNodeIndexes (table_of_intact i) l.index;
  known : AreDocumentIndexes (table_of_intact i) l.indexes;
  left : Added (g.W.Write.contents l.initial.out) (g.W.Write.contents l.out) l.initial.number l.number
      (messages_files told (table_of_intact i) l.name (of_type l.kind (nodes_of_intact i)))
      (messages_files told (table_of_intact i) l.name (of_kind (is_type l.kind) (intact_messages_left l.message-iterator)));
}
