-- What a contract sees of a store, and of an iterator over its folders or messages.
use Rattle.std.specs.Prelude.{◌≡◌, ℕ, Option, IfSome, List}
use Rattle.std.specs.Borrow.{Bor}
use Rattle.std.specs.Iterator.{YieldsFirstBy}
use Rattle.pst_bytes.specs.declared.Image.{Image}
use Rattle.pst_bytes.specs.Image.{memory_of, bytes_of}
use Rattle.pst_header.specs.declared.header.Header.{Header}
use Rattle.pst_page.specs.declared.entry.NodeEntry.{NodeEntry}
use Rattle.pst_block.specs.Table.{Table}
use Rattle.pst_ndb.specs.declared.ndb.Ndb.{Ndb}
use Rattle.pst_ndb.specs.Roots.{Roots}
use Rattle.pst_ndb.specs.Views.{image_of_ndb, header_of, table_of_ndb, nodes_of, image_of_node, table_of_node, nid_of, top_of, roots_left}
use Rattle.pst_msg.specs.pst_mail.declared.folder_view.Folder.{Folder}
use Rattle.pst_msg.specs.pst_mail.declared.message_view.Message.{Message}
use Rattle.pst_msg.specs.Values.{is_folder, is_message}
use Rattle.pst_msg.specs.View.{node_of_message, message_roots, ndb_of_folder, folder_roots}
use Rattle.pst_store.specs.declared.store.Store.{Store}
use Rattle.pst_store.specs.declared.folders.Folders.{Folders}
use Rattle.pst_store.specs.declared.messages.Messages.{Messages}
use Rattle.pst_store.specs.Kind.{of_kind}

-- its node database, and its bytes, in which memory they are too
abbrev pub ndb_of_store : Store → Ndb
ndb_of_store s = s.ndb

abbrev pub memory_of_store : Store → Bor (List ℕ)
memory_of_store s = memory_of (image_of_ndb s.ndb)

abbrev pub bytes_of_store : Store → List ℕ
bytes_of_store s = bytes_of (image_of_ndb s.ndb)

-- the file, its header, its blocks by their identifiers, and the entries of its nodes
abbrev pub image_of_store : Store → Image
image_of_store s = image_of_ndb s.ndb

abbrev pub header_of_store : Store → Header
header_of_store s = header_of s.ndb

abbrev pub table_of_store : Store → Table
table_of_store s = table_of_ndb s.ndb

abbrev pub nodes_of_store : Store → List NodeEntry
nodes_of_store s = nodes_of s.ndb

-- ---- iterators

-- the folders that an iterator has left, and the node database that they are of
abbrev pub folders_left : Folders → List Roots
folders_left f = of_kind is_folder (roots_left f.rest)

abbrev pub folders_ndb : Folders → Ndb
folders_ndb f = f.ndb

abbrev pub TakesFolder : Folders → Option Folder → Folders → Type 0
TakesFolder old found new =
    YieldsFirstBy folder_roots folders_left old found new
    × (folders_ndb new ≡ folders_ndb old)
    × IfSome found (λ f. ndb_of_folder f ≡ folders_ndb old)

-- the messages that an iterator has left
abbrev pub messages_left : Messages → List Roots
messages_left m = of_kind is_message (roots_left m.rest)

abbrev pub messages_ndb : Messages → Ndb
messages_ndb m = m.ndb

abbrev pub TakesMessage : Messages → Option Message → Messages → Type 0
TakesMessage old found new =
    YieldsFirstBy message_roots messages_left old found new
    × (messages_ndb new ≡ messages_ndb old)
    × IfSome found (λ m. table_of_node (node_of_message m) ≡ table_of_ndb (messages_ndb old))
    × IfSome found (λ m. image_of_node (node_of_message m) ≡ image_of_ndb (messages_ndb old))
    × IfSome found (λ m. nid_of (node_of_message m) ≡ top_of (node_of_message m))
