use Rattle.std.proofs.Common.{refl}
use Rattle.std.specs.Prelude.{◌≡◌, ◌++◌, codes}
use Rattle.serde_json.specs.Data.{Members, object, member, no_members}
use Rattle.serde_json.specs.Written.{compact_text}
use Rattle.pst_ndb.specs.Views.{table_of_node, roots_of}
use Rattle.pst_value_json.specs.pst_pc.View.{node_of_pc}
use Rattle.pst_value_json.specs.pst_text.Names.{nid_data}
use Rattle.pst_value_json.specs.pst_text.Parts.{natural, list_data}
use Rattle.pst_value_json.proofs.MemberLemmas.{first_marked, next_marked, closed}
use Rattle.pst_json.specs.declared.messages.TheConstants.{RECEIVED, SENT, SIZE}
use Rattle.pst_props.specs.declared.texts.TheConstants.{CLASS, SENDER, SUBJECT}
use Rattle.pst_props.specs.Texts.{text_property}
use Rattle.pst_json.specs.Messages.{summary_data, time_property, number_property}
use Rattle.pst_json.proofs.messages.put_shown.Goals as goal

pub returns : goal.returns
unfolding summary_data
returns c =
    let node = node_of_pc c.pc-pc.result in
    let t = table_of_node node in
    let r = roots_of node in
    let subject : Members = member (codes "subject") (text_property t r SUBJECT) no_members in
    let size : Members = member (codes "size") (number_property t r SIZE) subject in
    let sent : Members = member (codes "sent") (time_property t r SENT) size in
    let sender : Members = member (codes "sender") (text_property t r SENDER) sent in
    let recipients : Members = member (codes "recipients") (natural c.args.held.recipients) sender in
    let received : Members = member (codes "received") (time_property t r RECEIVED) recipients in
    let nid : Members = member (codes "nid") (nid_data c.nid.result) received in
    let folders : Members = member (codes "folders") (list_data nid_data c.args.folders.now) nid in
    let class : Members = member (codes "class") (text_property t r CLASS) folders in
    let attachments : Members = member (codes "attachments") (natural c.args.held.attachments) class in
    let put : c.push.new.self.items ≡ c.args.text.now.items ++ compact_text (object attachments) =
    closed _ _ _ c.in_ok-push.ensures.items
    (next_marked (codes "subject") (text_property t r SUBJECT) no_members _ _ _ _ refl c.in_ok-extend_from_slice-10.ensures.items c.in_ok-write_text_property-3.ensures.put
    (next_marked (codes "size") (number_property t r SIZE) subject _ _ _ _ refl c.in_ok-extend_from_slice-9.ensures.items c.in_ok-put_number_property.ensures
    (next_marked (codes "sent") (time_property t r SENT) size _ _ _ _ refl c.in_ok-extend_from_slice-8.ensures.items c.in_ok-put_time_property-2.ensures
    (next_marked (codes "sender") (text_property t r SENDER) sent _ _ _ _ refl c.in_ok-extend_from_slice-7.ensures.items c.in_ok-write_text_property-2.ensures.put
    (next_marked (codes "recipients") (natural c.args.held.recipients) sender _ _ _ _ refl c.in_ok-extend_from_slice-6.ensures.items c.in_ok-put_natural-2.ensures.put
    (next_marked (codes "received") (time_property t r RECEIVED) recipients _ _ _ _ refl c.in_ok-extend_from_slice-5.ensures.items c.in_ok-put_time_property.ensures
    (next_marked (codes "nid") (nid_data c.nid.result) received _ _ _ _ refl c.in_ok-extend_from_slice-4.ensures.items c.in_ok-put_nid.ensures.put
    (next_marked (codes "folders") (list_data nid_data c.args.folders.now) nid _ _ _ _ refl c.in_ok-extend_from_slice-3.ensures.items c.in_ok-write_nids.ensures.put
    (next_marked (codes "class") (text_property t r CLASS) folders _ _ _ _ refl c.in_ok-extend_from_slice-2.ensures.items c.in_ok-write_text_property.ensures.put
    (first_marked (codes "attachments") (natural c.args.held.attachments) class _ _ _ refl c.in_ok-extend_from_slice.ensures.items c.in_ok-put_natural.ensures.put)))))))))) in
    rw (c.requires.held.0, c.requires.held.1, c.nid.ensures, c.requires.nid, c.pc-pc.ensures) at put
