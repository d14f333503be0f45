use Rattle.std.proofs.Common.{refl}
use Rattle.std.specs.Prelude.{codes}
use Rattle.serde_json.specs.Data.{Data, Members, member, no_members}
use Rattle.pst_ndb.specs.Views.{table_of_node}
use Rattle.pst_value_json.specs.Props.{names_told}
use Rattle.pst_value_json.specs.pst_text.Names.{nid_data, nid_or_null}
use Rattle.pst_value_json.proofs.PenLemmas.{begun}
use Rattle.pst_verify.specs.pst_msg.View.{attachment_shown, node_of_attachment}
use Rattle.pst_props.specs.Node.{attachment_data, embedded_there, props_there}
use Rattle.pst_props.proofs.attachment.write_lent_attachment.Goals as goal

pub returns-clause-put : goal.returns-clause-put
unfolding attachment_data
returns-clause-put g c =
    let t = table_of_node (node_of_attachment c.args.attachment) in
    let s = attachment_shown c.args.attachment in
    let embedded : Data = nid_or_null (embedded_there t s.roots) in
    let nid : Data = nid_data s.nid in
    let props : Data = props_there (names_told c.args.names) c.args.filed c.args.places t s.roots in
    let one : Members = member (codes "embedded") embedded no_members in
    let two : Members = member (codes "embedded") embedded (member (codes "nid") nid no_members) in
    let first = begun g.P.Pen.Puts g.P.Pen.AtKey _ _ _ no_members (codes "embedded") embedded c.in_ok-first.ensures.put (rw c.embedded_nid.ensures at c.in_ok-leaf.ensures.put) refl in
    let second = begun g.P.Pen.Puts g.P.Pen.AtKey _ _ _ one (codes "nid") nid (c.in_ok-next.ensures.put _ one first) (rw c.nid.ensures at c.in_ok-leaf-2.ensures.put) refl in
    let third = begun g.P.Pen.Puts g.P.Pen.AtKey _ _ _ two (codes "props") props (c.in_ok-next-2.ensures.put _ two second)
    (rw (c.lend_pc-lent.ensures.table, c.lend_pc-lent.ensures.roots, c.lend_pc.ensures.table, c.lend_pc.ensures.roots, c.pc.ensures) at c.in_ok-write_props.ensures.put) refl in
    c.close.ensures.put _ _ third
