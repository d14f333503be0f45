use Rattle.std.proofs.Common.{rules, ◌≡◌, Some}
use Rattle.std.specs.BTreeMap.{get}
use Rattle.std.specs.Ordering.{nat_cmp}
use Rattle.pst_block.specs.Block.{bid_key}
use Rattle.pst_ndb.specs.Views.{table_of_node}
use Rattle.pst_verify.specs.pst_msg.View.{node_of_message, message_roots}
use Rattle.pst_json.specs.RowCounts.{IsHeld}
use Rattle.pst_json.proofs.RowCountLemmas.{list_known, is_held}
use Rattle.pst_json.proofs.row_counts.RowCounts.held_by.Goals as goal

pub returns-in-Some-clause-held : goal.returns-in-Some-clause-held
returns-in-Some-clause-held c =
    let r = message_roots c.args.message in
    let found : get nat_cmp c.args.self.now.lists c.key_of-list.result ≡ Some c.in-Some.held = search rules in
    let same : c.key_of-list.result ≡ bid_key r.bid_sub = search rules in
    list_known (table_of_node (node_of_message c.args.message)) r c.args.self.now c.key_of-list.result c.in-Some.held c.requires found same

pub returns-in_err-put_list-clause-known : goal.returns-in_err-put_list-clause-known
returns-in_err-put_list-clause-known c =
    let t = table_of_node (node_of_message c.args.message) in
    let r = message_roots c.args.message in
    let same : c.key_of-list.result ≡ bid_key r.bid_sub = search rules in
    let held : IsHeld t r (record { attachments = c.in_ok-attachments.attachments; recipients = c.in_ok-recipients.recipients }) = (c.in_ok-attachments.ensures.count, c.in_ok-recipients.ensures.count) in
    c.put_list.ensures t (is_held c.tc_is_of_keys.ensures t r _ c.key_of-list.result held same) c.recipients_of.ensures.known

pub returns-clause-known : goal.returns-clause-known
returns-clause-known c =
    let t = table_of_node (node_of_message c.args.message) in
    let r = message_roots c.args.message in
    let same : c.key_of-list.result ≡ bid_key r.bid_sub = search rules in
    let held : IsHeld t r (record { attachments = c.in_ok-attachments.attachments; recipients = c.in_ok-recipients.recipients }) = (c.in_ok-attachments.ensures.count, c.in_ok-recipients.ensures.count) in
    c.put_list.ensures t (is_held c.tc_is_of_keys.ensures t r _ c.key_of-list.result held same) c.recipients_of.ensures.known
