-- What is shown of a message's attachments, and of the message that an attachment embeds.
use Rattle.std.specs.Prelude.{ℕ, Option, Some, None, List, [], if◌then◌else◌}
use Rattle.pst_page.specs.declared.entry.NodeEntry.{NodeEntry}
use Rattle.pst_block.specs.Table.{Table}
use Rattle.pst_ndb.specs.declared.node.Node.{Node}
use Rattle.pst_ndb.specs.Roots.{Roots, subnode_of}
use Rattle.pst_ndb.specs.Views.{nid_of, roots_of}
use Rattle.pst_tc.specs.Values.{RowParts, tc_rows}
use Rattle.pst_mail.specs.declared.items.Items.{Items}
use Rattle.pst_mail.specs.declared.nid.TheConstants.{FOLDER, ATTACHMENTS}
use Rattle.pst_mail.specs.declared.object.Object.{Object}
use Rattle.pst_mail.specs.Nid.{is_type}
use Rattle.pst_mail.specs.Values.{listing_of}

-- a subnode: its identifier, and what it is read from, where it is there
pub record Shown : Type 0 where
  pub nid : ℕ
  pub roots : Option Roots

abbrev pub shown_of : Node → Shown
shown_of node = record { nid = nid_of node; roots = Some (roots_of node) }

-- the subnode that a row names, and the one that a value names
abbrev pub row_shown : Table → Roots → RowParts → Shown
row_shown t r x = record { nid = x.id; roots = subnode_of t r x.id }

abbrev pub object_shown : Table → Roots → Object → Shown
object_shown t r o = record { nid = o.nid; roots = subnode_of t r o.nid }

-- the rows of a table, where it is there
abbrev pub rows_there : Table → Option Roots → List RowParts
rows_there t None = []
rows_there t (Some table) = tc_rows t table

-- the rows of the attachment table of a message
unfoldable pub attachment_rows : Table → Roots → List RowParts
attachment_rows t r = rows_there t (subnode_of t r ATTACHMENTS)

-- a table of a folder, where it is there; a search folder has none
unfoldable pub folder_table : List NodeEntry → Items → ℕ → Option Roots
folder_table nodes items nid = if is_type FOLDER nid then listing_of nodes items nid else None
