use Rattle.std.proofs.Common.{refl}
use Rattle.std.specs.Prelude.{codes}
use Rattle.serde_json.specs.Data.{Data, array, no_members}
use Rattle.serde_json.specs.View.{items_of}
use Rattle.pst_intact.specs.View.{table_of_intact, nodes_of_intact}
use Rattle.pst_whole.specs.View.{lost_in}
use Rattle.pst_value_json.proofs.PenLemmas.{begun}
use Rattle.pst_json.specs.FolderRows.{all_rows}
use Rattle.pst_json.specs.Folders.{folders_data}
use Rattle.pst_json.proofs.folders.write_folders.Goals as goal

pub returns-clause-put : goal.returns-clause-put
unfolding folders_data
returns-clause-put g c =
    let i = c.args.intact.now in
    let folders : Data = array (items_of (all_rows (table_of_intact i) (nodes_of_intact i) (lost_in c.args.lost.now))) in
    c.close.ensures.put _ _ (begun g.P.Pen.Puts g.P.Pen.AtKey _ _ _ no_members (codes "folders") folders c.in_ok-first.ensures.put (rw c.of-rows.ensures at c.in_ok-write_all.ensures.put) refl)
