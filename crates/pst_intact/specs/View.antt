-- What a contract sees of intact nodes, of a folder among them, and of iterators over their folders and messages.
use Rattle.std.specs.Prelude.{◌≡◌, Option, IfSome, List}
use Rattle.std.specs.Iterator.{YieldsFirstBy}
use Rattle.pst_bytes.specs.declared.Image.{Image}
use Rattle.pst_page.specs.declared.entry.NodeEntry.{NodeEntry}
use Rattle.pst_block.specs.Table.{Table}
use Rattle.pst_ndb.specs.declared.node.Node.{Node}
use Rattle.pst_ndb.specs.declared.node_table.NodeTable.{NodeTable}
use Rattle.pst_ndb.specs.NodeTable.{image_of_nodes, table_of_nodes, entries_of_nodes}
use Rattle.pst_ndb.specs.Roots.{Roots}
use Rattle.pst_ndb.specs.Views.{image_of_node, table_of_node, nid_of, top_of, roots_of, roots_left}
use Rattle.pst_store.specs.pst_msg.pst_mail.declared.message_view.Message.{Message}
use Rattle.pst_store.specs.pst_msg.Values.{is_folder, is_message}
use Rattle.pst_store.specs.pst_msg.View.{node_of_message, message_roots}
use Rattle.pst_store.specs.Kind.{of_kind}
use Rattle.pst_intact.specs.declared.intact.Intact.{Intact}
use Rattle.pst_intact.specs.declared.folder.IntactFolder.{IntactFolder}
use Rattle.pst_intact.specs.declared.folders.IntactFolders.{IntactFolders}
use Rattle.pst_intact.specs.declared.messages.IntactMessages.{IntactMessages}

-- ---- intact nodes: the file, its blocks by their identifiers, and the entries of the nodes

abbrev pub image_of_intact : Intact → Image
image_of_intact i = image_of_nodes i.nodes

abbrev pub table_of_intact : Intact → Table
table_of_intact i = table_of_nodes i.nodes

abbrev pub nodes_of_intact : Intact → List NodeEntry
nodes_of_intact i = entries_of_nodes i.nodes

-- ---- a folder among them: the nodes, and its own node

abbrev pub intact_beside : IntactFolder → NodeTable
intact_beside f = f.nodes

abbrev pub intact_node : IntactFolder → Node
intact_node f = f.node

abbrev pub intact_roots : IntactFolder → Roots
intact_roots f = roots_of f.node

-- ---- iterators

-- the folders that are left, and the nodes that they are among
abbrev pub intact_folders_left : IntactFolders → List Roots
intact_folders_left f = of_kind is_folder (roots_left f.rest)

abbrev pub folders_beside : IntactFolders → NodeTable
folders_beside f = f.nodes

abbrev pub TakesIntactFolder : IntactFolders → Option IntactFolder → IntactFolders → Type 0
TakesIntactFolder old found new =
    YieldsFirstBy intact_roots intact_folders_left old found new
    × (folders_beside new ≡ folders_beside old)
    × IfSome found (λ f. intact_beside f ≡ folders_beside old)

-- the messages that are left
abbrev pub intact_messages_left : IntactMessages → List Roots
intact_messages_left m = of_kind is_message (roots_left m.rest)

abbrev pub messages_beside : IntactMessages → NodeTable
messages_beside m = m.nodes

abbrev pub TakesIntactMessage : IntactMessages → Option Message → IntactMessages → Type 0
TakesIntactMessage old found new =
    YieldsFirstBy message_roots intact_messages_left old found new
    × (messages_beside new ≡ messages_beside old)
    × IfSome found (λ m. table_of_node (node_of_message m) ≡ table_of_nodes (messages_beside old))
    × IfSome found (λ m. image_of_node (node_of_message m) ≡ image_of_nodes (messages_beside old))
    × IfSome found (λ m. nid_of (node_of_message m) ≡ top_of (node_of_message m))
