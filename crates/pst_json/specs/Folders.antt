-- The folders of a store as a document ([MS-PST] 2.4.4).
use Rattle.std.specs.Prelude.{ℕ, Bool, true, false, Option, Some, None, List, ◌++◌, length, codes, if◌then◌else◌}
use Rattle.std.specs.List.{filter}
use Rattle.serde_json.specs.Data.{Data, null, object, member, no_members}
use Rattle.pst_fault.specs.declared.fault.Fault.{Fault}
use Rattle.pst_page.specs.declared.entry.NodeEntry.{NodeEntry}
use Rattle.pst_block.specs.Table.{Table}
use Rattle.pst_ndb.specs.Roots.{Roots, all_roots}
use Rattle.pst_value_json.specs.pst_tc.Values.{RowParts}
use Rattle.pst_verify.specs.pst_msg.pst_mail.declared.items.Items.{Items}
use Rattle.pst_verify.specs.pst_msg.pst_mail.declared.items.Items.TheVariants.{Subfolders, Messages, Associated}
use Rattle.pst_verify.specs.pst_msg.pst_mail.declared.nid.TheConstants.{FOLDER}
use Rattle.pst_verify.specs.pst_msg.Nid.{is_type, with_type}
use Rattle.pst_verify.specs.pst_msg.Shown.{rows_there, folder_table}
use Rattle.pst_verify.specs.pst_msg.Values.{is_folder, type_of_items}
use Rattle.pst_verify.specs.pst_store.Kind.{of_kind}
use Rattle.pst_verify.specs.pst_reach.declared.reached.Reach.{Reach}
use Rattle.pst_verify.specs.pst_reach.Levels.{reaches_of}
use Rattle.pst_verify.specs.pst_reach.Path.{path_in, is_reached_in, is_lost_in}
use Rattle.pst_whole.specs.Lost.{LostParts, told_lost}
use Rattle.pst_props.specs.declared.texts.TheConstants.{NAME}
use Rattle.pst_props.specs.Texts.{text_property}
use Rattle.pst_value_json.specs.pst_text.Line.{data_line}
use Rattle.pst_value_json.specs.pst_text.Names.{nid_data}
use Rattle.pst_value_json.specs.pst_text.Parts.{natural, list_data}

-- the identifier of a row
abbrev pub row_nid : RowParts → Data
row_nid x = nid_data x.id

-- how many rows a table has, where it is there
abbrev pub row_total : Table → Option Roots → ℕ
row_total t table = length (rows_there t table)

-- the path of a folder, from the root folder down; null where that does not reach it
abbrev pub path_data : Option (List ℕ) → Data
path_data None = null
path_data (Some nids) = list_data nid_data nids

-- what is told of a table of a folder; a search folder has no such table
abbrev pub table_told : LostParts → Items → ℕ → Option Fault
table_told lost items nid = if is_type FOLDER nid then told_lost lost (with_type nid (type_of_items items)) else None

-- null where something is told
abbrev pub unless_told : Option Fault → Data → Data
unless_told None shown = shown
unless_told (Some f) shown = null

-- how many rows a table has, and the identifiers of its rows; null where something is told of it
abbrev pub count_data : Option Fault → Table → Option Roots → Data
count_data told t table = unless_told told (natural (row_total t table))

abbrev pub nids_data : Option Fault → Table → Option Roots → Data
nids_data told t table = unless_told told (list_data row_nid (rows_there t table))

-- a folder, beside those that the root folder reaches: how many messages belong to it and are in it, its name, its identifier, its
-- path, and the identifiers of its subfolders; in place of a table of which something is told stands null
unfoldable pub folder_data : Table → List NodeEntry → LostParts → List Reach → Roots → Data
folder_data t nodes lost reached r =
    object
    (member (codes "associated") (count_data (table_told lost Associated r.top) t (folder_table nodes Associated r.top))
    (member (codes "messages") (count_data (table_told lost Messages r.top) t (folder_table nodes Messages r.top))
    (member (codes "name") (text_property t r NAME)
    (member (codes "nid") (nid_data r.top)
    (member (codes "path") (path_data (path_in reached r.top))
    (member (codes "subfolders") (nids_data (table_told lost Subfolders r.top) t (folder_table nodes Subfolders r.top))
    no_members))))))

-- whether a folder is shown: among those that are reached, or among the others
abbrev pub is_shown : Bool → List Reach → Roots → Bool
is_shown false reached r = is_reached_in reached r.top
is_shown true reached r = is_lost_in reached r.top

-- all folders and search folders: first those that the root folder reaches, then the others, both in order
abbrev pub shown_folders : List NodeEntry → List Reach → List Roots
shown_folders nodes reached =
    let all = of_kind is_folder (all_roots nodes) in filter (is_shown false reached) all ++ filter (is_shown true reached) all

unfoldable pub folders_data : Table → List NodeEntry → LostParts → Data
folders_data t nodes lost =
    let reached = reaches_of t nodes in
    object (member (codes "folders") (list_data (folder_data t nodes lost reached) (shown_folders nodes reached)) no_members)

-- the line that shows them
unfoldable pub folders_line : Table → List NodeEntry → LostParts → List ℕ
folders_line t nodes lost = data_line (folders_data t nodes lost)
