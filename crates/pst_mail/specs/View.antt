-- What a contract sees of the views of folders, messages and attachments.
use Rattle.std.specs.Prelude.{◌≡◌, Option, IfSome, List, map}
use Rattle.std.specs.Iterator.{YieldsFirstBy}
use Rattle.pst_ndb.specs.declared.ndb.Ndb.{Ndb}
use Rattle.pst_ndb.specs.declared.node.Node.{Node}
use Rattle.pst_ndb.specs.Roots.{Roots}
use Rattle.pst_ndb.specs.Views.{image_of_node, table_of_node, roots_of}
use Rattle.pst_tc.specs.declared.tc.Tc.{Tc}
use Rattle.pst_tc.specs.Tc.{node_of_tc}
use Rattle.pst_mail.specs.declared.attachment_view.Attachment.{Attachment}
use Rattle.pst_mail.specs.declared.attachments.Attachments.{Attachments}
use Rattle.pst_mail.specs.declared.folder_view.Folder.{Folder}
use Rattle.pst_mail.specs.declared.message_view.Message.{Message}
use Rattle.pst_mail.specs.Left.{rows_of_rest}
use Rattle.pst_mail.specs.Shown.{Shown, shown_of, row_shown}

-- what a table is read from
abbrev pub tc_roots : Tc → Roots
tc_roots tc = roots_of (node_of_tc tc)

-- ---- of a folder: the node database that it is of, and its node

abbrev pub ndb_of_folder : Folder → Ndb
ndb_of_folder f = f.ndb

abbrev pub node_of_folder : Folder → Node
node_of_folder f = f.node

abbrev pub folder_roots : Folder → Roots
folder_roots f = roots_of f.node

-- ---- of a message, and of an attachment: its node

abbrev pub node_of_message : Message → Node
node_of_message m = m.node

abbrev pub message_roots : Message → Roots
message_roots m = roots_of m.node

abbrev pub message_shown : Message → Shown
message_shown m = shown_of m.node

abbrev pub node_of_attachment : Attachment → Node
node_of_attachment a = a.node

abbrev pub attachment_shown : Attachment → Shown
attachment_shown a = shown_of a.node

-- ---- the attachments that an iterator has left, and the node of the message that they are of

abbrev pub holder_left : Attachments → Node
holder_left a = a.node

abbrev pub attachments_left : Attachments → List Shown
attachments_left a = map (row_shown (table_of_node a.node) (roots_of a.node)) (rows_of_rest a.rest)

abbrev pub TakesAttachment : Attachments → Option Attachment → Attachments → Type 0
TakesAttachment old found new =
    YieldsFirstBy attachment_shown attachments_left old found new
    × (holder_left new ≡ holder_left old)
    × IfSome found (λ a. table_of_node (node_of_attachment a) ≡ table_of_node (holder_left old))
    × IfSome found (λ a. image_of_node (node_of_attachment a) ≡ image_of_node (holder_left old))
