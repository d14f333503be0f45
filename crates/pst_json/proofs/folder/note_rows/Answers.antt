use Rattle.pst_ndb.specs.Views.{table_of_node, roots_of}
use Rattle.pst_value_json.specs.pst_tc.Tc.{node_of_tc}
use Rattle.pst_json.specs.RowIds.{all_asked}
use Rattle.pst_json.proofs.RowIdsLemmas.{are_ids}
use Rattle.pst_json.proofs.folder.note_rows.Goals as goal

pub returns : goal.returns
returns c =
    let t = table_of_node (node_of_tc c.args.table.now) in
    let r = roots_of (node_of_tc c.args.table.now) in
    c.insert.ensures all_asked t (are_ids c.tc_is_of_keys.ensures all_asked t r c.args.block c.in_ok-nids.nids.items c.requires.same c.in_ok-nids.ensures) (c.meet.ensures all_asked t c.requires.known)
