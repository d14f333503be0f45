use Rattle.std.proofs.Common.{rules, ◌≡◌, true, ap, ◌∙◌}
use Rattle.pst_ndb.specs.NodeTable.{table_of_nodes}
use Rattle.pst_ndb.specs.Views.{table_of_node}
use Rattle.pst_intact.specs.View.{table_of_intact, nodes_of_intact}
use Rattle.pst_verify.specs.pst_msg.pst_mail.declared.nid.TheConstants.{MESSAGE}
use Rattle.pst_verify.specs.pst_msg.Nid.{is_type}
use Rattle.pst_verify.specs.pst_msg.View.{node_of_message, message_roots}
use Rattle.pst_json.specs.Listings.{folders_listing}
use Rattle.pst_json.proofs.MessageLemmas.{first_there, line_put}
use Rattle.pst_json.proofs.messages.messages_text.Goals as goal

pub loop-message-preserved-in-Continue-branch-2 : goal.loop-message-preserved-in-Continue-branch-2
loop-message-preserved-in-Continue-branch-2 c =
    let i = c.loop-message.invariant in
    let t = table_of_intact c.args.intact.now in
    let nodes = nodes_of_intact c.args.intact.now in
    let r = message_roots c.in-Some.message in
    let steps = c.in-Some.ensures.steps in
    let table : table_of_node (node_of_message c.in-Some.message) ≡ t = steps.2 ∙ i.table in
    let there = first_there nodes r _ _ steps.0 i.there in
    let kind : is_type MESSAGE r.top ≡ true = search rules in
    record {
      table = ap table_of_nodes steps.1 ∙ i.table;
      known = rw table at c.put_summary.ensures.known;
      index = rw table at c.put_summary.ensures.index;
      there = there.1;
      lines = line_put t nodes (folders_listing c.in_ok-listings.listings) r _ _ _ _ _ (c.in_ok-listings.ensures r.top there.0) kind steps.0 (rw table at c.in_ok-put_summary.ensures.put) i.lines;
    }
