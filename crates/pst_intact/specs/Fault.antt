-- What nodes have that are intact: each is what is asked of it by its type ([MS-PST] 2.4), but that what the rows of a folder's
-- tables name need not be among them. So all nodes of a store are intact, and so are those of a damaged file that have no fault.
use Rattle.std.specs.Prelude.{ℕ, List, Option, None, if◌then◌else◌}
use Rattle.pst_fault.specs.declared.fault.Fault.{Fault}
use Rattle.pst_fault.specs.Each.{first_of, if_there}
use Rattle.pst_fault.specs.First.{◌then◌}
use Rattle.pst_page.specs.declared.entry.NodeEntry.{NodeEntry}
use Rattle.pst_block.specs.Table.{Table}
use Rattle.pst_ndb.specs.Roots.{Roots, node_in, all_roots}
use Rattle.pst_tc.specs.Fault.{tc_fault}
use Rattle.pst_store.specs.pst_msg.pst_pc.Fault.{pc_fault}
use Rattle.pst_store.specs.pst_msg.pst_names.declared.name_map.TheConstants.{NAME_MAP}
use Rattle.pst_store.specs.pst_msg.pst_mail.declared.items.Items.{Items}
use Rattle.pst_store.specs.pst_msg.pst_mail.declared.items.Items.TheVariants.{Subfolders, Messages, Associated}
use Rattle.pst_store.specs.pst_msg.pst_mail.declared.nid.TheConstants.{FOLDER, SEARCH_FOLDER}
use Rattle.pst_store.specs.pst_msg.Fault.{message_fault, name_map_fault}
use Rattle.pst_store.specs.pst_msg.Nid.{is_type}
use Rattle.pst_store.specs.pst_msg.Values.{is_message, listing_of}

-- a table of a folder, where its node is among these nodes: it is a table context
unfoldable pub listing_fault : Table → List NodeEntry → Items → ℕ → Option Fault
listing_fault t nodes items nid = if_there (tc_fault t) (listing_of nodes items nid)

-- a folder: its properties, then its three tables
unfoldable pub tables_fault : Table → List NodeEntry → Roots → Option Fault
tables_fault t nodes r =
    pc_fault t r then listing_fault t nodes Subfolders r.top then listing_fault t nodes Messages r.top
    then listing_fault t nodes Associated r.top

-- a node, by its type: a folder, a search folder, a message; of another type there is none
unfoldable pub intact_node_fault : Table → List NodeEntry → Roots → Option Fault
intact_node_fault t nodes r =
    if is_type FOLDER r.top then tables_fault t nodes r
    else (if is_type SEARCH_FOLDER r.top then pc_fault t r
    else (if is_message r.top then message_fault t r
    else None))

-- all: the name map, where its node is among them, then each node
unfoldable pub intact_fault : Table → List NodeEntry → Option Fault
intact_fault t nodes = if_there (name_map_fault t) (node_in nodes NAME_MAP) then first_of (intact_node_fault t nodes) (all_roots nodes)
