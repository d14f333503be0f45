-- What each later look-up answers of bytes for which the check of a whole file said yes: the store's value, lent from the very
-- memory of these bytes, as one slice wherever it is contiguous. A look-up is known by its clauses (`GivesNode` has those of
-- `Store::node`, and so on): whatever it gives, no answer is a fault. Not gone through here, but by clauses at the calls: how a part
-- is named (`nid`, `Row::id`, `Row::at`), each column (`Columns::next`), the blocks and the list of a node (`spans`, `parts`, `leaf`,
-- `leaves`, `leaf_count`, `subs`, `sub_entry`, `child`), the same part with an index (`indexed`), and what a `Value` is asked.
use Rattle.std.specs.Prelude.{◌≡◌, ℕ, List, Option, Some, IfSome, option_map}
use Rattle.std.specs.Borrow.{Bor}
use Rattle.std.specs.Iterator.{YieldsFirstBy}
use Rattle.pst_bytes.specs.Image.{memory_of}
use Rattle.pst_page.specs.declared.entry.NodeEntry.{NodeEntry}
use Rattle.pst_block.specs.Table.{Table}
use Rattle.pst_ndb.specs.declared.node.Node.{Node}
use Rattle.pst_ndb.specs.Roots.{node_in, all_roots}
use Rattle.pst_ndb.specs.Views.{nid_of, roots_of}
use Rattle.pst_reach.specs.pst_store.pst_msg.pst_pc.declared.pc.Pc.{Pc}
use Rattle.pst_reach.specs.pst_store.pst_msg.pst_pc.View.{node_of_pc}
use Rattle.pst_reach.specs.pst_store.pst_msg.pst_pc.LookUps.{PcLookUps}
use Rattle.pst_reach.specs.pst_store.pst_msg.pst_names.declared.name.Name.{Name}
use Rattle.pst_reach.specs.pst_store.pst_msg.pst_names.declared.name_map.NameMap.{NameMap}
use Rattle.pst_reach.specs.pst_store.pst_msg.pst_names.declared.name_map.TheConstants.{NAME_MAP}
use Rattle.pst_reach.specs.pst_store.pst_msg.pst_names.LookUps.{NameMapLookUps}
use Rattle.pst_reach.specs.pst_store.pst_msg.pst_names.Name.{store_name}
use Rattle.pst_reach.specs.pst_store.pst_msg.pst_names.View.{names_roots, name_parts, IsLentIn}
use Rattle.pst_reach.specs.pst_store.pst_msg.pst_mail.declared.folder_view.Folder.{Folder}
use Rattle.pst_reach.specs.pst_store.pst_msg.pst_mail.declared.message_view.Message.{Message}
use Rattle.pst_reach.specs.pst_store.pst_msg.pst_mail.declared.nid.TheConstants.{STORE, ROOT}
use Rattle.pst_reach.specs.pst_store.pst_msg.NodeLookUps.{IsNodeOf, NodeLookUps}
use Rattle.pst_reach.specs.pst_store.pst_msg.LookUps.{FolderLookUps, MessageLookUps, ViewLookUps}
use Rattle.pst_reach.specs.pst_store.pst_msg.Values.{is_folder, is_message}
use Rattle.pst_reach.specs.pst_store.pst_msg.View.{node_of_folder, folder_roots, node_of_message, message_roots}
use Rattle.pst_reach.specs.pst_store.declared.store.Store.{Store}
use Rattle.pst_reach.specs.pst_store.declared.folders.Folders.{Folders}
use Rattle.pst_reach.specs.pst_store.declared.messages.Messages.{Messages}
use Rattle.pst_reach.specs.pst_store.Kind.{of_kind, node_of_kind}
use Rattle.pst_reach.specs.pst_store.LookUps.{GivesNode, GivesStoreProps, GivesNames, GivesName, GivesRoot, GivesFolder, GivesFolders, GivesMessage, GivesMessages}
use Rattle.pst_reach.specs.pst_store.Parts.{StoreParts, parts_table, parts_entries}
use Rattle.pst_reach.specs.pst_store.Values.{store_in}
use Rattle.pst_reach.specs.pst_store.View.{ndb_of_store, image_of_store, folders_left, folders_ndb, messages_left, messages_ndb, TakesFolder, TakesMessage}
use Rattle.pst_verify.specs.declared.verified.Verified.{Verified}
use Rattle.pst_verify.specs.Verified.{IsVerified}

-- a folder, and a message, of a store with these blocks and nodes
abbrev pub IsFolderIn : Table → List NodeEntry → Store → Folder → Type 0
IsFolderIn t nodes store f = FolderLookUps (image_of_store store) t nodes f × IsNodeOf (image_of_store store) t (node_of_folder f)

abbrev pub IsMessageIn : Table → Store → Message → Type 0
IsMessageIn t store m = MessageLookUps (image_of_store store) t m × IsNodeOf (image_of_store store) t (node_of_message m)

pub record StoreLookUps (bytes : Bor (List ℕ)) (t : Table) (nodes : List NodeEntry) (store : Store) : Type 0 where
  -- Its file is the memory of these bytes, and no copy of them.
  pub memory : memory_of (image_of_store store) ≡ bytes
  -- `node`: the node with an identifier; None exactly where the store has none
  pub node : (nid : ℕ) (found : Option Node) → GivesNode store nid found →
      (option_map roots_of found ≡ node_in nodes nid)
      × IfSome found (NodeLookUps (image_of_store store) t) × IfSome found (λ n. nid_of n ≡ nid)
  -- `props`: the properties of the store itself
  pub props : (pc : Pc) → GivesStoreProps store pc →
      (Some (roots_of (node_of_pc pc)) ≡ node_in nodes STORE)
      × PcLookUps (image_of_store store) t (roots_of (node_of_pc pc)) pc
  -- `names`: the name map; None exactly where the store has no node of it
  pub names : (found : Option NameMap) → GivesNames store found →
      (option_map names_roots found ≡ node_in nodes NAME_MAP)
      × IfSome found (λ m. NameMapLookUps (image_of_store store) t (names_roots m) m)
  -- `name`: what the property with an identifier is called, a string lent from where its entry says that it stands; None exactly
  -- where no entry names it
  pub name : (id : ℕ) (found : Option Name) → GivesName store id found →
      (option_map name_parts found ≡ store_name t nodes id) × IfSome found (IsLentIn (image_of_store store) t nodes id)
  -- `root`: the root folder
  pub root : (f : Folder) → GivesRoot store f →
      (Some (folder_roots f) ≡ node_in nodes ROOT) × IsFolderIn t nodes store f
  -- `folder`: the folder or search folder with an identifier; None exactly where the store has no such node
  pub folder : (nid : ℕ) (found : Option Folder) → GivesFolder store nid found →
      (option_map folder_roots found ≡ node_of_kind is_folder nodes nid)
      × IfSome found (IsFolderIn t nodes store) × IfSome found (λ f. nid_of (node_of_folder f) ≡ nid)
  -- `folders`: all of them, in order; and each that the iterator yields
  pub folders : (all : Folders) → GivesFolders store all →
      (folders_left all ≡ of_kind is_folder (all_roots nodes)) × (folders_ndb all ≡ ndb_of_store store)
  pub next_folder : (old new : Folders) (taken : Option Folder) → folders_ndb old ≡ ndb_of_store store → TakesFolder old taken new →
      YieldsFirstBy folder_roots folders_left old taken new × (folders_ndb new ≡ ndb_of_store store)
      × IfSome taken (IsFolderIn t nodes store)
  -- `message`: the message with an identifier; None exactly where the store has no such node
  pub message : (nid : ℕ) (found : Option Message) → GivesMessage store nid found →
      (option_map message_roots found ≡ node_of_kind is_message nodes nid)
      × IfSome found (IsMessageIn t store) × IfSome found (λ m. nid_of (node_of_message m) ≡ nid)
  -- `messages`: all of them, in order; and each that the iterator yields
  pub messages : (all : Messages) → GivesMessages store all →
      (messages_left all ≡ of_kind is_message (all_roots nodes)) × (messages_ndb all ≡ ndb_of_store store)
  pub next_message : (old new : Messages) (taken : Option Message) → messages_ndb old ≡ ndb_of_store store → TakesMessage old taken new →
      YieldsFirstBy message_roots messages_left old taken new × (messages_ndb new ≡ ndb_of_store store)
      × IfSome taken (IsMessageIn t store)
  -- What is reached from there answers so, too: each node, property context, table, name map, message and attachment of the file.
  pub views : ViewLookUps (image_of_store store) t

-- of the store that bytes are
abbrev pub LookUps : Bor (List ℕ) → StoreParts → Store → Type 0
LookUps bytes s store = StoreLookUps bytes (parts_table bytes.now s) (parts_entries bytes.now s) store

-- Of whatever bytes the check said yes, each later look-up is of the store that they are.
abbrev pub LookUpsLaw : Type 0
LookUpsLaw = (bytes : Bor (List ℕ)) (v : Verified) → IsVerified bytes v → LookUps bytes (store_in bytes.now) v.store
