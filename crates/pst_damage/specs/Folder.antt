-- What messaging asks of the nodes of a damaged file ([MS-PST] 2.4), each of which is sound: neither its data nor its subnodes have a
-- fault. A folder is asked for what it names; of what else is broken there, nothing is said of the folder.
use Rattle.std.specs.Prelude.{ℕ, Bool, ◌&&◌, nat_eq, List, Option, None, is_none, is_some, if◌then◌else◌}
use Rattle.pst_fault.specs.declared.fault.Fault.{Fault}
use Rattle.pst_fault.specs.Each.{first_of, if_there}
use Rattle.pst_fault.specs.First.{◌then◌}
use Rattle.pst_page.specs.declared.entry.NodeEntry.{NodeEntry}
use Rattle.pst_btree.specs.Entries.{node_with}
use Rattle.pst_block.specs.Table.{Table}
use Rattle.pst_ndb.specs.Roots.{Roots}
use Rattle.pst_remains.specs.declared.pages.Broken.{Broken}
use Rattle.pst_remains.specs.Pages.{page_before}
use Rattle.pst_msg.specs.pst_pc.Fault.{pc_fault}
use Rattle.pst_tc.specs.Fault.{tc_fault}
use Rattle.pst_tc.specs.Values.{RowParts, tc_rows}
use Rattle.pst_msg.specs.pst_names.declared.name_map.TheConstants.{NAME_MAP}
use Rattle.pst_msg.specs.pst_mail.declared.items.Items.{Items}
use Rattle.pst_msg.specs.pst_mail.declared.items.Items.TheVariants.{Subfolders, Messages, Associated}
use Rattle.pst_msg.specs.pst_mail.declared.nid.TheConstants.{STORE, FOLDER, SEARCH_FOLDER}
use Rattle.pst_msg.specs.Fault.{listed_item_fault, message_fault, name_map_fault}
use Rattle.pst_msg.specs.Nid.{is_type}
use Rattle.pst_msg.specs.Values.{is_message, listing_of}
use Rattle.pst_damage.specs.Judged.{sound_nodes}

-- A node lies behind a broken page: it is not among the nodes that are left, and the way down to it goes through a page with a
-- fault, or ends at one. Whether the file has it, nothing says.
abbrev pub is_behind : List NodeEntry → List Broken → ℕ → Bool
is_behind nodes broken nid = is_none (node_with nid nodes) && is_some (page_before broken nid)

-- ---- folders ([MS-PST] 2.4.4)

-- A row of a folder's table, whose data has this block identifier: it names a node that is left, of a type that belongs there. One
-- that names what lies behind a broken page is passed over.
unfoldable pub row_damage : List NodeEntry → List Broken → Items → ℕ → RowParts → Option Fault
row_damage nodes broken items bid x = if is_behind nodes broken x.id then None else listed_item_fault nodes items bid x

-- a table: its context, then row by row
unfoldable pub items_damage : Table → List NodeEntry → List Broken → Items → Roots → Option Fault
items_damage t nodes broken items table = tc_fault t table then first_of (row_damage nodes broken items table.bid_data) (tc_rows t table)

-- A table of a folder, where its node is sound. One whose node is broken, or not there, is passed over.
unfoldable pub table_damage : Table → List NodeEntry → List Broken → Items → ℕ → Option Fault
table_damage t nodes broken items nid = if_there (items_damage t nodes broken items) (listing_of (sound_nodes t nodes) items nid)

-- a folder: its properties, then its three tables
unfoldable pub folder_damage : Table → List NodeEntry → List Broken → Roots → Option Fault
folder_damage t nodes broken r =
    pc_fault t r then table_damage t nodes broken Subfolders r.top then table_damage t nodes broken Messages r.top
    then table_damage t nodes broken Associated r.top

-- ---- all nodes

-- What is asked of a node: of the node of the store, that it has properties; of that of the name map, the name map; of a folder,
-- the root folder among them, of a search folder and of a message, what its type says; of another node, nothing.
unfoldable pub asked_damage : Table → List NodeEntry → List Broken → Roots → Option Fault
asked_damage t nodes broken r =
    if nat_eq r.top STORE then pc_fault t r
    else (if nat_eq r.top NAME_MAP then name_map_fault t r
    else (if is_type FOLDER r.top then folder_damage t nodes broken r
    else (if is_type SEARCH_FOLDER r.top then pc_fault t r
    else (if is_message r.top then message_fault t r
    else None))))
