use Rattle.std.proofs.Common.{◌≡◌, ◌∙◌, true, ap, rules}
use Rattle.pst_ndb.specs.Roots.{all_roots}
use Rattle.pst_ndb.specs.NodeTable.{table_of_nodes}
use Rattle.pst_ndb.specs.Views.{table_of_node}
use Rattle.pst_intact.specs.View.{intact_messages_left, messages_beside, table_of_intact, nodes_of_intact}
use Rattle.pst_value_json.specs.Props.{names_told}
use Rattle.pst_verify.specs.pst_msg.Nid.{is_type}
use Rattle.pst_verify.specs.pst_msg.View.{message_roots, node_of_message}
use Rattle.pst_verify.specs.pst_store.Kind.{of_kind}
use Rattle.pst_export.specs.Store.{message_files, messages_files}
use Rattle.pst_export.proofs.StoreLemmas.{among, kind_next}
use Rattle.pst_export.proofs.WriteLemmas.{added_end, added_next, added_none, added_refused}
use Rattle.pst_export.proofs.messages.write_messages.Goals as goal

pub loop-message-init : goal.loop-message-init
loop-message-init g c =
    let i = c.args.intact.now in
    let e = ap intact_messages_left c.into_iter-message-iterator.ensures.into_iter_gives ∙ c.messages-message-items.ensures.left in
    let these = ap (of_kind (is_type c.args.kind)) e ∙ among c.args.kind (all_roots (nodes_of_intact i)) c.requires.kind in
    record {
      same = ap (λ m. table_of_nodes (messages_beside m)) c.into_iter-message-iterator.ensures.into_iter_gives ∙ c.messages-message-items.ensures.table;
      index = c.new_indexes-index.ensures (table_of_intact i);
      known = c.requires.known;
      left = added_none _ _ _ _ (ap (messages_files (names_told c.args.names) (table_of_intact i) c.args.name.now) these);
    }

pub loop-message-preserved-in-Continue-1 : goal.loop-message-preserved-in-Continue-1
loop-message-preserved-in-Continue-1 g c =
    let i = c.loop-message.invariant in
    let t = table_of_intact c.args.intact.now in
    let told = names_told c.args.names in
    let r = message_roots c.in-Some.message in
    let steps = c.in-Some.ensures.steps in
    let table : table_of_node (node_of_message c.in-Some.message) ≡ t = steps.2 ∙ i.same in
    let kind : is_type c.args.kind r.top ≡ true = search rules in
    let next = kind_next c.args.kind r _ _ steps.0 kind in
    let these = ap (messages_files told t c.args.name.now) next in
    record {
      same = ap table_of_nodes steps.1 ∙ i.same;
      index = rw table at c.in_ok-write_message.ensures.index;
      known = rw table at c.in_ok-write_message.ensures.known;
      left = added_next _ _ _ _ _ _ _ _ (message_files told t c.args.name.now r) _ these i.left (rw table at c.in_ok-write_message.ensures.all);
    }

pub returns-in_err-write_message-clause-front : goal.returns-in_err-write_message-clause-front
returns-in_err-write_message-clause-front g c =
    let i = c.loop-message.invariant in
    let t = table_of_intact c.args.intact.now in
    let told = names_told c.args.names in
    let r = message_roots c.in-Some.message in
    let steps = c.in-Some.ensures.steps in
    let table : table_of_node (node_of_message c.in-Some.message) ≡ t = steps.2 ∙ i.same in
    let kind : is_type c.args.kind r.top ≡ true = search rules in
    let next = kind_next c.args.kind r _ _ steps.0 kind in
    let these = ap (messages_files told t c.args.name.now) next in
    added_refused _ _ _ _ _ _ _ (message_files told t c.args.name.now r) _ these i.left (rw table at c.in_err-write_message.ensures.front)

pub returns-clause-front : goal.returns-clause-front
returns-clause-front g c =
    let i = c.args.intact.now in
    let none = ap (λ l. messages_files (names_told c.args.names) (table_of_intact i) c.args.name.now (of_kind (is_type c.args.kind) l)) c.in-None.ensures.steps.0.0 in
    added_end _ _ _ _ _ _ none c.loop-message.invariant.left
