-- The rows of the document of folders, as they are made.
use Rattle.std.specs.Prelude.{Bool, true, false, List, ◌++◌, map}
use Rattle.std.specs.List.{filter}
use Rattle.serde_json.specs.Data.{Data}
use Rattle.pst_page.specs.declared.entry.NodeEntry.{NodeEntry}
use Rattle.pst_block.specs.Table.{Table}
use Rattle.pst_ndb.specs.Roots.{Roots, all_roots}
use Rattle.pst_verify.specs.pst_msg.Values.{is_folder}
use Rattle.pst_verify.specs.pst_reach.declared.reached.Reach.{Reach}
use Rattle.pst_verify.specs.pst_reach.Levels.{reaches_of}
use Rattle.pst_verify.specs.pst_store.Kind.{of_kind}
use Rattle.pst_intact.specs.declared.intact.Intact.{Intact}
use Rattle.pst_intact.specs.View.{table_of_intact, nodes_of_intact, intact_folders_left}
use Rattle.pst_whole.specs.Lost.{LostParts}
use Rattle.pst_whole.specs.View.{lost_in}
use Rattle.pst_json.specs.declared.folder_rows.FolderRows.{FolderRows}
use Rattle.pst_json.specs.Folders.{is_shown, shown_folders, folder_data}

-- what the rows are of: intact nodes, what is told of others, and the folders that are reached
abbrev pub intact_of : FolderRows → Intact
intact_of rows = rows.intact

abbrev pub lost_of_rows : FolderRows → LostParts
lost_of_rows rows = lost_in rows.lost

abbrev pub reached_of : FolderRows → List Reach
reached_of rows = rows.reached.now

-- those that are left: where the first part is behind, of the others
abbrev left_of : Bool → List Reach → List Roots → List Roots → List Roots
left_of true reached all rest = filter (is_shown true reached) rest
left_of false reached all rest = filter (is_shown false reached) rest ++ filter (is_shown true reached) all

abbrev pub folder_rows_left : FolderRows → List Roots
folder_rows_left rows =
    left_of rows.lone rows.reached.now (of_kind is_folder (all_roots (nodes_of_intact rows.intact))) (intact_folders_left rows.rest)

abbrev pub folder_rows : FolderRows → List Data
folder_rows rows =
    map (folder_data (table_of_intact rows.intact) (nodes_of_intact rows.intact) (lost_in rows.lost) rows.reached.now) (folder_rows_left rows)

-- all of them
abbrev pub all_rows : Table → List NodeEntry → LostParts → List Data
all_rows t nodes lost =
    map (folder_data t nodes lost (reaches_of t nodes)) (shown_folders nodes (reaches_of t nodes))
