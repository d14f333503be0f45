use Rattle.std.proofs.Common.{◌+◌, ◌∙◌, length, sym, ap}
use Rattle.pst_ndb.specs.Roots.{all_roots}
use Rattle.pst_ndb.specs.NodeTable.{table_of_nodes}
use Rattle.pst_intact.specs.View.{intact_messages_left, messages_beside, table_of_intact, nodes_of_intact}
use Rattle.pst_verify.specs.pst_msg.Nid.{is_type}
use Rattle.pst_verify.specs.pst_store.Kind.{of_kind}
use Rattle.pst_export.specs.Store.{all_held}
use Rattle.pst_export.proofs.StoreLemmas.{among}
use Rattle.pst_export.proofs.count.count_down.Goals as goal

pub loop-message-init : goal.loop-message-init
loop-message-init c =
    let i = c.args.intact.now in
    let e = ap intact_messages_left c.into_iter-message-iterator.ensures.into_iter_gives ∙ c.messages-message-items.ensures.left in
    let these = ap (of_kind (is_type c.args.kind)) e ∙ among c.args.kind (all_roots (nodes_of_intact i)) c.requires in
    record {
      same = ap (λ m. table_of_nodes (messages_beside m)) c.into_iter-message-iterator.ensures.into_iter_gives ∙ c.messages-message-items.ensures.table;
      index = c.new_indexes-index.ensures (table_of_intact i);
      counted = ap (λ rs. c.args.most + length (all_held (table_of_intact i) c.args.name.now rs)) (sym these);
    }
