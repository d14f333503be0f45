use Rattle.pst_intact.specs.View.{table_of_intact, nodes_of_intact, intact_folders_left}
use Rattle.pst_whole.specs.View.{lost_in}
use Rattle.pst_json.proofs.RowsLemmas.{rows_of_all}
use Rattle.pst_json.proofs.folder_rows.FolderRows.of.Goals as goal

pub returns : goal.returns
returns c =
    let intact = c.args.intact.now in
    rows_of_all (table_of_intact intact) (nodes_of_intact intact) (lost_in c.args.lost.now) c.args.reached.now (intact_folders_left c.folders.result) c.folders.ensures.left c.requires.reached
