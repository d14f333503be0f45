use Rattle.std.proofs.Common.{refl}
use Rattle.std.specs.Prelude.{codes}
use Rattle.serde_json.specs.Data.{Data, Members, member, no_members}
use Rattle.pst_ndb.specs.Roots.{subnode_of}
use Rattle.pst_ndb.specs.Views.{table_of_node, roots_of, nid_of}
use Rattle.pst_value_json.specs.Props.{names_told}
use Rattle.pst_value_json.specs.pst_text.Names.{nid_data}
use Rattle.pst_value_json.proofs.PenLemmas.{begun}
use Rattle.pst_verify.specs.pst_msg.View.{node_of_message}
use Rattle.pst_props.specs.Node.{attachments_data, filed_of_message, message_data, props_data, recipient_nid, recipients_there}
use Rattle.pst_props.proofs.node.write_lent_message.Goals as goal

pub returns-clause-put : goal.returns-clause-put
unfolding message_data
returns-clause-put g c =
    let node = node_of_message c.args.message in
    let t = table_of_node node in
    let r = roots_of node in
    let names = names_told c.args.names in
    let attachments : Data = attachments_data names c.args.files c.args.places t r in
    let nid : Data = nid_data (nid_of node) in
    let props : Data = props_data names (filed_of_message c.args.files) c.args.places t r in
    let recipients : Data = recipients_there c.args.places t (subnode_of t r recipient_nid) in
    let one : Members = member (codes "attachments") attachments no_members in
    let two : Members = member (codes "attachments") attachments (member (codes "nid") nid no_members) in
    let three : Members = member (codes "attachments") attachments (member (codes "nid") nid (member (codes "props") props no_members)) in
    let first = begun g.P.Pen.Puts g.P.Pen.AtKey _ _ _ no_members (codes "attachments") attachments c.in_ok-first.ensures.put c.in_ok-write_attachments.ensures.put refl in
    let second = begun g.P.Pen.Puts g.P.Pen.AtKey _ _ _ one (codes "nid") nid (c.in_ok-next.ensures.put _ one first) (rw c.nid.ensures at c.in_ok-leaf.ensures.put) refl in
    let third = begun g.P.Pen.Puts g.P.Pen.AtKey _ _ _ two (codes "props") props (c.in_ok-next-2.ensures.put _ two second)
    (rw (c.pc.ensures, c.filed_of.ensures) at c.in_ok-write_props.ensures.put) refl in
    let fourth = begun g.P.Pen.Puts g.P.Pen.AtKey _ _ _ three (codes "recipients") recipients (c.in_ok-next-3.ensures.put _ three third) c.in_ok-write_recipients.ensures.put refl in
    c.close.ensures.put _ _ fourth
