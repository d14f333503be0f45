use Rattle.std.proofs.Common.{refl}
use Rattle.std.specs.Prelude.{codes}
use Rattle.serde_json.specs.Data.{Data, Members, member, no_members}
use Rattle.pst_ndb.specs.NodeTable.{table_of_nodes, entries_of_nodes}
use Rattle.pst_ndb.specs.Views.{top_of}
use Rattle.pst_intact.specs.View.{intact_beside, intact_node, intact_roots}
use Rattle.pst_whole.specs.View.{lost_in}
use Rattle.pst_value_json.specs.Pen.{and_member}
use Rattle.pst_value_json.specs.pst_text.Names.{nid_data}
use Rattle.pst_value_json.proofs.PenLemmas.{begun}
use Rattle.pst_verify.specs.pst_msg.pst_mail.declared.items.Items.TheVariants.{Subfolders, Messages, Associated}
use Rattle.pst_verify.specs.pst_msg.Shown.{folder_table}
use Rattle.pst_verify.specs.pst_reach.Path.{path_in}
use Rattle.pst_props.specs.declared.texts.TheConstants.{NAME}
use Rattle.pst_json.specs.Folders.{path_data, table_told, count_data, nids_data, folder_data}
use Rattle.pst_props.specs.Texts.{text_property}
use Rattle.pst_json.proofs.folder.write_folder.Goals as goal

pub returns-clause-put : goal.returns-clause-put
unfolding folder_data
returns-clause-put g c =
    let nodes = intact_beside c.args.folder in
    let t = table_of_nodes nodes in
    let all = entries_of_nodes nodes in
    let lost = lost_in c.args.lost.now in
    let top = top_of (intact_node c.args.folder) in
    let own : Data = count_data (table_told lost Associated top) t (folder_table all Associated top) in
    let held : Data = count_data (table_told lost Messages top) t (folder_table all Messages top) in
    let called : Data = text_property t (intact_roots c.args.folder) NAME in
    let nid : Data = nid_data c.nid.result in
    let path : Data = path_data (path_in c.args.reached.now c.nid-2.result) in
    let below : Data = nids_data (table_told lost Subfolders top) t (folder_table all Subfolders top) in
    let associated : Members = member (codes "associated") own no_members in
    let messages : Members = and_member associated (codes "messages") held in
    let name : Members = and_member messages (codes "name") called in
    let numbered : Members = and_member name (codes "nid") nid in
    let placed : Members = and_member numbered (codes "path") path in
    let one = begun g.P.Pen.Puts g.P.Pen.AtKey _ _ _ no_members (codes "associated") own c.in_ok-first.ensures.put c.in_ok-write_count.ensures.put refl in
    let two = begun g.P.Pen.Puts g.P.Pen.AtKey _ _ _ associated (codes "messages") held (c.in_ok-next.ensures.put _ associated one) c.in_ok-write_count-2.ensures.put refl in
    let three = begun g.P.Pen.Puts g.P.Pen.AtKey _ _ _ messages (codes "name") called (c.in_ok-next-2.ensures.put _ messages two) c.in_ok-write_name.ensures.put refl in
    let four = begun g.P.Pen.Puts g.P.Pen.AtKey _ _ _ name (codes "nid") nid (c.in_ok-next-3.ensures.put _ name three) c.in_ok-leaf.ensures.put refl in
    let five = begun g.P.Pen.Puts g.P.Pen.AtKey _ _ _ numbered (codes "path") path (c.in_ok-next-4.ensures.put _ numbered four) c.in_ok-write_path.ensures.put refl in
    let six = begun g.P.Pen.Puts g.P.Pen.AtKey _ _ _ placed (codes "subfolders") below (c.in_ok-next-5.ensures.put _ placed five) c.in_ok-write_told_nids.ensures.put refl in
    rw (c.nid.ensures.top, c.nid-2.ensures.top) at (c.close.ensures.put _ _ six)
