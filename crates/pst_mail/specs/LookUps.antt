-- What the look-ups of folders, messages and attachments answer, in the words of the file that they are of: its grammar, its
-- blocks and nodes, its memory.
use Rattle.std.specs.Prelude.{◌≡◌, ℕ, List, Option, IfSome, option_map, map}
use Rattle.std.specs.Iterator.{YieldsFirstBy}
use Rattle.pst_bytes.specs.declared.Image.{Image}
use Rattle.pst_page.specs.declared.entry.NodeEntry.{NodeEntry}
use Rattle.pst_block.specs.Table.{Table}
use Rattle.pst_btree.specs.Entries.{first_with}
use Rattle.pst_ndb.specs.declared.node.Node.{Node}
use Rattle.pst_ndb.specs.Roots.{Roots, subnode_of}
use Rattle.pst_ndb.specs.Views.{image_of_node, image_of_ndb, table_of_node, table_of_ndb, nodes_of, top_of, roots_of}
use Rattle.pst_pc.specs.declared.pc.Pc.{Pc}
use Rattle.pst_pc.specs.View.{node_of_pc}
use Rattle.pst_pc.specs.LookUps.{PcLookUps}
use Rattle.pst_tc.specs.declared.tc.Tc.{Tc}
use Rattle.pst_tc.specs.Values.{row_id_of}
use Rattle.pst_tc.specs.Tc.{node_of_tc}
use Rattle.pst_tc.specs.LookUps.{TcLookUps}
use Rattle.pst_names.specs.declared.name_map.NameMap.{NameMap}
use Rattle.pst_names.specs.LookUps.{NameMapLookUps}
use Rattle.pst_names.specs.View.{node_of_names, names_roots}
use Rattle.pst_mail.specs.declared.attachment_view.Attachment.{Attachment}
use Rattle.pst_mail.specs.declared.attachments.Attachments.{Attachments}
use Rattle.pst_mail.specs.declared.folder_view.Folder.{Folder}
use Rattle.pst_mail.specs.declared.items.Items.{Items}
use Rattle.pst_mail.specs.declared.items.Items.TheVariants.{Subfolders, Messages, Associated}
use Rattle.pst_mail.specs.declared.message_view.Message.{Message}
use Rattle.pst_mail.specs.declared.nid.TheConstants.{RECIPIENTS, ATTACHMENTS}
use Rattle.pst_mail.specs.Grammar.{IsMessage, IsAttachment}
use Rattle.pst_mail.specs.NodeLaw.{IsAsTyped}
use Rattle.pst_mail.specs.NodeLookUps.{IsNodeOf, NodeLookUps}
use Rattle.pst_mail.specs.Shown.{folder_table, attachment_rows, row_shown, object_shown}
use Rattle.pst_mail.specs.Values.{embedded_of}
use Rattle.pst_mail.specs.View.{tc_roots, ndb_of_folder, node_of_folder, folder_roots, node_of_message, message_roots, message_shown}
use Rattle.pst_mail.specs.View.{node_of_attachment, attachment_shown, attachments_left, holder_left, TakesAttachment}

-- what a property context answers that has a node's data
abbrev pub PropertiesOf : Image → Table → Node → Type 0
PropertiesOf file t n = (pc : Pc) → node_of_pc pc ≡ n → PcLookUps file t (roots_of n) pc

-- what a table answers that is found, and what it is read from; none exactly where there is nothing to read it from
abbrev pub IsTableOf : Image → Table → Option Roots → Option Tc → Type 0
IsTableOf file t there found = (option_map tc_roots found ≡ there) × IfSome found (λ tc. TcLookUps file t (tc_roots tc) tc)

-- ---- of a folder: the clauses of `hierarchy`, `contents` and `associated`

abbrev pub GivesTable : Folder → Items → Option Tc → Type 0
GivesTable f items found =
    let ndb = ndb_of_folder f in
    (option_map tc_roots found ≡ folder_table (nodes_of ndb) items (top_of (node_of_folder f)))
    × IfSome found (λ tc. table_of_node (node_of_tc tc) ≡ table_of_ndb ndb)
    × IfSome found (λ tc. image_of_node (node_of_tc tc) ≡ image_of_ndb ndb)

-- and what they are then
pub record FolderLookUps (file : Image) (t : Table) (nodes : List NodeEntry) (f : Folder) : Type 0 where
  -- it is what its type says by the grammar: a folder, or a search folder
  pub folder : IsAsTyped t nodes (folder_roots f)
  -- `pc`: its properties
  pub pc : PropertiesOf file t (node_of_folder f)
  -- the tables of its subfolders and of its messages; None exactly for a search folder, and where the file has no such node
  pub hierarchy : (found : Option Tc) → GivesTable f Subfolders found →
      IsTableOf file t (folder_table nodes Subfolders (top_of (node_of_folder f))) found
  pub contents : (found : Option Tc) → GivesTable f Messages found →
      IsTableOf file t (folder_table nodes Messages (top_of (node_of_folder f))) found
  pub associated : (found : Option Tc) → GivesTable f Associated found →
      IsTableOf file t (folder_table nodes Associated (top_of (node_of_folder f))) found

-- ---- of a message: the clauses of `recipients`, `attachment_table`, `attachments` and `attachment`

-- the table that is the subnode with an identifier
abbrev pub GivesTableIn : Message → ℕ → Option Tc → Type 0
GivesTableIn m nid found =
    let node = node_of_message m in
    (option_map tc_roots found ≡ subnode_of (table_of_node node) (roots_of node) nid)
    × IfSome found (λ tc. table_of_node (node_of_tc tc) ≡ table_of_node node)
    × IfSome found (λ tc. image_of_node (node_of_tc tc) ≡ image_of_node node)

abbrev pub GivesRecipients : Message → Option Tc → Type 0
GivesRecipients m found = GivesTableIn m RECIPIENTS found

abbrev pub GivesAttachmentTable : Message → Option Tc → Type 0
GivesAttachmentTable m found = GivesTableIn m ATTACHMENTS found

abbrev pub GivesAttachments : Message → Attachments → Type 0
GivesAttachments m all =
    let t = table_of_node (node_of_message m) in
    let r = message_roots m in
    (attachments_left all ≡ map (row_shown t r) (attachment_rows t r)) × (holder_left all ≡ node_of_message m)

abbrev pub GivesAttachment : Message → ℕ → Option Attachment → Type 0
GivesAttachment m nid found =
    let t = table_of_node (node_of_message m) in
    let r = message_roots m in
    (option_map attachment_shown found ≡ option_map (row_shown t r) (first_with row_id_of nid (attachment_rows t r)))
    × IfSome found (λ a. table_of_node (node_of_attachment a) ≡ table_of_node (node_of_message m))
    × IfSome found (λ a. image_of_node (node_of_attachment a) ≡ image_of_node (node_of_message m))

-- and what they are then
pub record MessageLookUps (file : Image) (t : Table) (m : Message) : Type 0 where
  -- it is a message by the grammar
  pub message : IsMessage t (message_roots m)
  -- `pc`: its properties
  pub pc : PropertiesOf file t (node_of_message m)
  -- `recipients`: the table of its recipients; None exactly where it has none
  pub recipients : (found : Option Tc) → GivesRecipients m found →
      IsTableOf file t (subnode_of t (message_roots m) RECIPIENTS) found
  -- `attachment_table`: the table of its attachments; None exactly where it has none
  pub attachment_table : (found : Option Tc) → GivesAttachmentTable m found →
      IsTableOf file t (subnode_of t (message_roots m) ATTACHMENTS) found
  -- `attachments`: those that the rows of its attachment table name, in order; and each that the iterator yields
  pub attachments : (all : Attachments) → GivesAttachments m all →
      (attachments_left all ≡ map (row_shown t (message_roots m)) (attachment_rows t (message_roots m)))
      × (holder_left all ≡ node_of_message m)
  pub next : (old new : Attachments) (taken : Option Attachment) → holder_left old ≡ node_of_message m → TakesAttachment old taken new →
      YieldsFirstBy attachment_shown attachments_left old taken new × (holder_left new ≡ node_of_message m)
      × IfSome taken (λ a. IsNodeOf file t (node_of_attachment a))
  -- `attachment`: the one that the row with an identifier names; None exactly where no row has it
  pub attachment : (nid : ℕ) (found : Option Attachment) → GivesAttachment m nid found →
      (option_map attachment_shown found
      ≡ option_map (row_shown t (message_roots m)) (first_with row_id_of nid (attachment_rows t (message_roots m))))
      × IfSome found (λ a. IsNodeOf file t (node_of_attachment a))

-- ---- of an attachment: the clauses of `embedded`

abbrev pub GivesEmbedded : Attachment → Option Message → Type 0
GivesEmbedded a found =
    let node = node_of_attachment a in
    let t = table_of_node node in
    (option_map message_shown found ≡ option_map (object_shown t (roots_of node)) (embedded_of t (roots_of node)))
    × IfSome found (λ m. table_of_node (node_of_message m) ≡ t)
    × IfSome found (λ m. image_of_node (node_of_message m) ≡ image_of_node node)

-- and what they are then
pub record AttachmentLookUps (file : Image) (t : Table) (a : Attachment) : Type 0 where
  -- it is an attachment by the grammar
  pub attachment : IsAttachment t (roots_of (node_of_attachment a))
  -- `pc`: its properties
  pub pc : PropertiesOf file t (node_of_attachment a)
  -- `embedded`: the message that it embeds; None exactly where it embeds none
  pub embedded : (found : Option Message) → GivesEmbedded a found →
      (option_map message_shown found
      ≡ option_map (object_shown t (roots_of (node_of_attachment a))) (embedded_of t (roots_of (node_of_attachment a))))
      × IfSome found (λ m. IsNodeOf file t (node_of_message m))

-- ---- so it is of every node, property context, table and name map, every folder, message and attachment of a file

abbrev pub FolderLookUpsLaw : Type 0
FolderLookUpsLaw = (f : Folder) → let ndb = ndb_of_folder f in FolderLookUps (image_of_ndb ndb) (table_of_ndb ndb) (nodes_of ndb) f

pub record ViewLookUps (file : Image) (t : Table) : Type 0 where
  pub node : (n : Node) → IsNodeOf file t n → NodeLookUps file t n
  pub pc : (pc : Pc) → IsNodeOf file t (node_of_pc pc) → PcLookUps file t (roots_of (node_of_pc pc)) pc
  pub tc : (tc : Tc) → IsNodeOf file t (node_of_tc tc) → TcLookUps file t (tc_roots tc) tc
  pub names : (m : NameMap) → IsNodeOf file t (node_of_names m) → NameMapLookUps file t (names_roots m) m
  pub message : (m : Message) → IsNodeOf file t (node_of_message m) → MessageLookUps file t m
  pub attachment : (a : Attachment) → IsNodeOf file t (node_of_attachment a) → AttachmentLookUps file t a

abbrev pub ViewLookUpsLaw : Type 0
ViewLookUpsLaw = (file : Image) (t : Table) → ViewLookUps file t
