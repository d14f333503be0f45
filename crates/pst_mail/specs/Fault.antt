-- The first fault of a store's messaging ([MS-PST] 2.4), once its node database has none.
use Rattle.std.specs.Prelude.{ℕ, zero, suc, Option, Some, None, List, if◌then◌else◌}
use Rattle.pst_fault.specs.declared.fault.Fault.{Fault}
use Rattle.pst_fault.specs.declared.kind.Kind.TheVariants.{NodeMissing, NodeKind}
use Rattle.pst_fault.specs.Each.{first_of, if_there, there_or}
use Rattle.pst_fault.specs.First.{◌then◌, holds_or}
use Rattle.pst_page.specs.declared.entry.NodeEntry.{NodeEntry}
use Rattle.pst_block.specs.Table.{Table}
use Rattle.pst_subnode.specs.Tree.{nesting}
use Rattle.pst_subnode.specs.declared.check.TheConstants.{LISTS}
use Rattle.pst_ndb.specs.Roots.{Roots, subnode_of, node_in, all_roots}
use Rattle.pst_pc.specs.Fault.{pc_fault}
use Rattle.pst_tc.specs.Fault.{tc_fault}
use Rattle.pst_tc.specs.Values.{RowParts, tc_rows}
use Rattle.pst_names.specs.declared.name_map.TheConstants.{NAME_MAP}
use Rattle.pst_names.specs.Fault.{names_fault}
use Rattle.pst_mail.specs.declared.items.Items.{Items}
use Rattle.pst_mail.specs.declared.items.Items.TheVariants.{Subfolders, Messages, Associated}
use Rattle.pst_mail.specs.declared.nid.TheConstants.{STORE, ROOT, FOLDER, SEARCH_FOLDER, ATTACHMENT, ATTACHMENTS, RECIPIENTS}
use Rattle.pst_mail.specs.declared.object.Object.{Object}
use Rattle.pst_mail.specs.Nid.{is_type, named}
use Rattle.pst_mail.specs.Values.{is_message, may_list, listing_of, embedded_of}

-- ---- messages and attachments ([MS-PST] 2.4.5, 2.4.6)
--
-- A message names its attachments, and an attachment may embed a message; each lies in a list of subnodes below the one before,
-- so as many of them nest as lists do. First a message, where the first fault of each of its attachments is told.

-- A row of the attachment table, whose data has this block identifier: it names a subnode of the message, of the type of
-- attachments, and that has no fault.
unfoldable pub attachment_row_fault : Table → (Roots → Option Fault) → Roots → ℕ → RowParts → Option Fault
attachment_row_fault t below r bid x =
    there_or (named NodeMissing x.at bid x.id) (λ s. holds_or (is_type ATTACHMENT x.id) (named NodeKind x.at bid x.id) then below s)
    (subnode_of t r x.id)

-- the attachment table: its context, then row by row
unfoldable pub attachments_fault : Table → (Roots → Option Fault) → Roots → Roots → Option Fault
attachments_fault t below r table = tc_fault t table then first_of (attachment_row_fault t below r table.bid_data) (tc_rows t table)

-- what a message holds in its list of subnodes: its recipient table, then its attachment table, where they are there
unfoldable pub held_fault : Table → (Roots → Option Fault) → Roots → Option Fault
held_fault t below r =
    if_there (tc_fault t) (subnode_of t r RECIPIENTS) then if_there (attachments_fault t below r) (subnode_of t r ATTACHMENTS)

-- a message: its properties, then what it holds
unfoldable pub message_part : Table → (Roots → Option Fault) → Roots → Option Fault
message_part t below r = pc_fault t r then held_fault t below r

-- Then an attachment, where the first fault of the message that it embeds is told.

-- what it embeds is a subnode of it, and that has no fault
unfoldable pub embedded_fault : Table → (Roots → Option Fault) → Roots → Object → Option Fault
embedded_fault t below r o = there_or (named NodeMissing o.at r.bid_data o.nid) below (subnode_of t r o.nid)

-- an attachment: its properties, then the message that it embeds, if it does
unfoldable pub attachment_part : Table → (Roots → Option Fault) → Roots → Option Fault
attachment_part t below r = pc_fault t r then if_there (embedded_fault t below r) (embedded_of t r)

-- Both, where so many lists of subnodes nest.

-- there is nothing below the last list
abbrev pub nothing_below : Roots → Option Fault
nothing_below r = Some nesting

unfoldable mutual
  pub message_at : Table → ℕ → Roots → Option Fault
  message_at t zero r = message_part t nothing_below r
  message_at t (suc n) r = message_part t (attachment_at t n) r

  pub attachment_at : Table → ℕ → Roots → Option Fault
  attachment_at t zero r = attachment_part t nothing_below r
  attachment_at t (suc n) r = attachment_part t (message_at t n) r

-- what is told below a message, and below an attachment
abbrev pub below_message : Table → ℕ → Roots → Option Fault
below_message t zero = nothing_below
below_message t (suc n) = attachment_at t n

abbrev pub below_attachment : Table → ℕ → Roots → Option Fault
below_attachment t zero = nothing_below
below_attachment t (suc n) = message_at t n

-- a message, and an attachment, of a checked file
abbrev pub message_fault : Table → Roots → Option Fault
message_fault t r = message_at t LISTS r

abbrev pub attachment_fault : Table → Roots → Option Fault
attachment_fault t r = attachment_at t LISTS r

-- ---- folders ([MS-PST] 2.4.4), which are nodes of the node B-tree

-- a row of a table, whose data has this block identifier: it names a node, of a type that belongs there
unfoldable pub listed_item_fault : List NodeEntry → Items → ℕ → RowParts → Option Fault
listed_item_fault nodes items bid x =
    there_or (named NodeMissing x.at bid x.id) (λ _. holds_or (may_list items x.id) (named NodeKind x.at bid x.id)) (node_in nodes x.id)

-- a table: its context, then row by row
unfoldable pub items_fault : Table → List NodeEntry → Items → Roots → Option Fault
items_fault t nodes items table = tc_fault t table then first_of (listed_item_fault nodes items table.bid_data) (tc_rows t table)

-- a table of a folder, where it is there
unfoldable pub table_fault : Table → List NodeEntry → Items → ℕ → Option Fault
table_fault t nodes items nid = if_there (items_fault t nodes items) (listing_of nodes items nid)

-- a folder: its properties, then its three tables
unfoldable pub folder_fault : Table → List NodeEntry → Roots → Option Fault
folder_fault t nodes r =
    pc_fault t r then table_fault t nodes Subfolders r.top then table_fault t nodes Messages r.top
    then table_fault t nodes Associated r.top

-- ---- all nodes

-- a node that every store has: it is there, and has properties
unfoldable pub required_fault : Table → List NodeEntry → ℕ → Option Fault
required_fault t nodes nid = there_or (named NodeMissing 0 0 nid) (pc_fault t) (node_in nodes nid)

-- the name map ([MS-PST] 2.4.7): the properties of its node, then what they say
unfoldable pub name_map_fault : Table → Roots → Option Fault
name_map_fault t r = pc_fault t r then names_fault t r

-- a node, by its type: a folder, a search folder, a message; of another type there is none
unfoldable pub typed_node_fault : Table → List NodeEntry → Roots → Option Fault
typed_node_fault t nodes r =
    if is_type FOLDER r.top then folder_fault t nodes r
    else (if is_type SEARCH_FOLDER r.top then pc_fault t r
    else (if is_message r.top then message_fault t r
    else None))

-- all: the store's node and the root folder's, then the name map, where its node is there, then the nodes in order of their
-- identifiers
unfoldable pub messaging_fault : Table → List NodeEntry → Option Fault
messaging_fault t nodes =
    required_fault t nodes STORE then required_fault t nodes ROOT then if_there (name_map_fault t) (node_in nodes NAME_MAP)
    then first_of (typed_node_fault t nodes) (all_roots nodes)
