use Rattle.std.proofs.Common.{refl}
use Rattle.std.specs.Prelude.{codes}
use Rattle.serde_json.specs.Data.{Data, Members, member, no_members}
use Rattle.pst_intact.specs.View.{table_of_intact, nodes_of_intact}
use Rattle.pst_whole.specs.View.{lost_in}
use Rattle.pst_value_json.specs.pst_text.Names.{nid_data}
use Rattle.pst_value_json.specs.pst_text.Parts.{list_data}
use Rattle.pst_value_json.proofs.PenLemmas.{begun}
use Rattle.pst_verify.specs.pst_msg.pst_mail.declared.items.Items.TheVariants.{Messages}
use Rattle.pst_verify.specs.pst_msg.Shown.{rows_there, folder_table}
use Rattle.pst_json.specs.Contents.{listed_row_data, contents_data}
use Rattle.pst_json.proofs.contents.write_contents.Goals as goal

pub returns-clause-put : goal.returns-clause-put
unfolding contents_data
returns-clause-put g c =
    let t = table_of_intact c.args.intact.now in
    let nodes = nodes_of_intact c.args.intact.now in
    let rows : Data = list_data (listed_row_data t nodes (lost_in c.args.lost.now)) (rows_there t (folder_table nodes Messages c.args.nid)) in
    let folder : Members = member (codes "folder") (nid_data c.args.nid) no_members in
    let first = begun g.P.Pen.Puts g.P.Pen.AtKey _ _ _ no_members (codes "folder") (nid_data c.args.nid) c.in_ok-first.ensures.put c.in_ok-leaf.ensures.put refl in
    let second = begun g.P.Pen.Puts g.P.Pen.AtKey _ _ _ folder (codes "messages") rows (c.in_ok-next.ensures.put _ folder first) (rw c.requires.roots at c.in_ok-write_listing.ensures.put) refl in
    c.close.ensures.put _ _ second
