-- The clauses of the look-ups of a store, each as one fact of what a look-up answers.
use Rattle.std.specs.Prelude.{◌≡◌, ℕ, Option, Some, IfSome, option_map}
use Rattle.pst_ndb.specs.declared.node.Node.{Node}
use Rattle.pst_ndb.specs.Roots.{node_in, all_roots}
use Rattle.pst_ndb.specs.Views.{image_of_node, table_of_node, nid_of, top_of, roots_of}
use Rattle.pst_msg.specs.pst_mail.declared.folder_view.Folder.{Folder}
use Rattle.pst_msg.specs.pst_mail.declared.message_view.Message.{Message}
use Rattle.pst_msg.specs.pst_mail.declared.nid.TheConstants.{STORE, ROOT}
use Rattle.pst_msg.specs.pst_pc.declared.pc.Pc.{Pc}
use Rattle.pst_msg.specs.pst_pc.View.{node_of_pc}
use Rattle.pst_msg.specs.pst_names.declared.name.Name.{Name}
use Rattle.pst_msg.specs.pst_names.declared.name_map.NameMap.{NameMap}
use Rattle.pst_msg.specs.pst_names.declared.name_map.TheConstants.{NAME_MAP}
use Rattle.pst_msg.specs.pst_names.Name.{store_name}
use Rattle.pst_msg.specs.pst_names.View.{node_of_names, names_roots, name_parts, IsLentIn}
use Rattle.pst_msg.specs.Values.{is_folder, is_message}
use Rattle.pst_msg.specs.View.{ndb_of_folder, node_of_folder, folder_roots, node_of_message, message_roots}
use Rattle.pst_store.specs.declared.store.Store.{Store}
use Rattle.pst_store.specs.declared.folders.Folders.{Folders}
use Rattle.pst_store.specs.declared.messages.Messages.{Messages}
use Rattle.pst_store.specs.Kind.{of_kind, node_of_kind}
use Rattle.pst_store.specs.View.{ndb_of_store, image_of_store, table_of_store, nodes_of_store, folders_left, folders_ndb, messages_left, messages_ndb}

-- `node`
abbrev pub GivesNode : Store → ℕ → Option Node → Type 0
GivesNode store nid found =
    (option_map roots_of found ≡ node_in (nodes_of_store store) nid)
    × IfSome found (λ n. image_of_node n ≡ image_of_store store)
    × IfSome found (λ n. table_of_node n ≡ table_of_store store)
    × IfSome found (λ n. top_of n ≡ nid)
    × IfSome found (λ n. nid_of n ≡ nid)

-- `props`
abbrev pub GivesStoreProps : Store → Pc → Type 0
GivesStoreProps store pc =
    (Some (roots_of (node_of_pc pc)) ≡ node_in (nodes_of_store store) STORE)
    × (image_of_node (node_of_pc pc) ≡ image_of_store store)
    × (table_of_node (node_of_pc pc) ≡ table_of_store store)

-- `names` and `name`
abbrev pub GivesNames : Store → Option NameMap → Type 0
GivesNames store found =
    (option_map names_roots found ≡ node_in (nodes_of_store store) NAME_MAP)
    × IfSome found (λ m. image_of_node (node_of_names m) ≡ image_of_store store)
    × IfSome found (λ m. table_of_node (node_of_names m) ≡ table_of_store store)

abbrev pub GivesName : Store → ℕ → Option Name → Type 0
GivesName store id found =
    (option_map name_parts found ≡ store_name (table_of_store store) (nodes_of_store store) id)
    × IfSome found (IsLentIn (image_of_store store) (table_of_store store) (nodes_of_store store) id)

-- `root`, `folder` and `folders`
abbrev pub GivesRoot : Store → Folder → Type 0
GivesRoot store f = (Some (folder_roots f) ≡ node_in (nodes_of_store store) ROOT) × (ndb_of_folder f ≡ ndb_of_store store)

abbrev pub GivesFolder : Store → ℕ → Option Folder → Type 0
GivesFolder store nid found =
    (option_map folder_roots found ≡ node_of_kind is_folder (nodes_of_store store) nid)
    × IfSome found (λ f. ndb_of_folder f ≡ ndb_of_store store)
    × IfSome found (λ f. nid_of (node_of_folder f) ≡ nid)

abbrev pub GivesFolders : Store → Folders → Type 0
GivesFolders store all =
    (folders_left all ≡ of_kind is_folder (all_roots (nodes_of_store store))) × (folders_ndb all ≡ ndb_of_store store)

-- `message` and `messages`
abbrev pub GivesMessage : Store → ℕ → Option Message → Type 0
GivesMessage store nid found =
    (option_map message_roots found ≡ node_of_kind is_message (nodes_of_store store) nid)
    × IfSome found (λ m. image_of_node (node_of_message m) ≡ image_of_store store)
    × IfSome found (λ m. table_of_node (node_of_message m) ≡ table_of_store store)
    × IfSome found (λ m. nid_of (node_of_message m) ≡ nid)

abbrev pub GivesMessages : Store → Messages → Type 0
GivesMessages store all =
    (messages_left all ≡ of_kind is_message (all_roots (nodes_of_store store))) × (messages_ndb all ≡ ndb_of_store store)
