-- What is known of the parts of messages: only what is true. A part is remembered once it was found without fault, so a part
-- that is passed over is one whose first fault is none: it hides nothing. And all that lies one step below what is remembered
-- is remembered too. Of a part with a fault that fault is, told of each node that leads to it.
use Rattle.std.specs.Prelude.{◌≡◌, true, None, Some, List}
use Rattle.pst_fault.specs.Each.{first_of}
use Rattle.pst_fault.specs.Fault.{at_node}
use Rattle.pst_page.specs.declared.entry.NodeEntry.{NodeEntry}
use Rattle.pst_block.specs.Table.{Table}
use Rattle.pst_subnode.specs.declared.check.TheConstants.{LISTS}
use Rattle.pst_subnode.specs.Tree.{sub_fault}
use Rattle.pst_ndb.specs.NodeIndexes.{AreNodeIndexes}
use Rattle.pst_ndb.specs.Roots.{Roots, subnode_of}
use Rattle.pst_pc.specs.pst_heap.PageMaps.{AreMapsTrue}
use Rattle.pst_tc.specs.Values.{RowParts, tc_rows}
use Rattle.pst_mail.specs.declared.items.Items.{Items}
use Rattle.pst_remembered.specs.declared.keys.NodeSet.{NodeSet}
use Rattle.pst_msg.specs.declared.known.KnownParts.{KnownParts}
use Rattle.pst_mail.specs.declared.nid.TheConstants.{ATTACHMENTS, RECIPIENTS}
use Rattle.pst_mail.specs.declared.object.Object.{Object}
use Rattle.pst_remembered.specs.declared.role.Role.{Role}
use Rattle.pst_remembered.specs.declared.role.Role.TheVariants.{Properties, Listed, Recipients, Attachments}
use Rattle.pst_remembered.specs.Asked.{AreAskedTrue}
use Rattle.pst_remembered.specs.Broken.{context_part, held_part, retold}
use Rattle.pst_remembered.specs.Faults.{AreFaultsOf}
use Rattle.pst_remembered.specs.Keys.{holds, has, data_key, list_key}
use Rattle.pst_msg.specs.Indexes.{AreIndexes}
use Rattle.pst_remembered.specs.Roles.{role_number, role_fault}
use Rattle.pst_remembered.specs.RowCounts.{AreRowCounts}
use Rattle.pst_remembered.specs.RowNames.{AreRowNames}
use Rattle.pst_mail.specs.Values.{embedded_of}
use Rattle.pst_mail.specs.Fault.{held_fault, below_message, message_fault, attachment_fault, listed_item_fault}
use Rattle.pst_mail.specs.Grammar.{IsAttachmentRow}

-- a context is remembered in a role; a message, an attachment is remembered, whole; what a message holds is, by its list alone
abbrev pub ContextIn : KnownParts → Role → Roots → Type 0
ContextIn k role s = has k.contexts (role_number role) s ≡ true

abbrev pub WholeIn : NodeSet → Roots → Type 0
WholeIn keys s = has keys 0 s ≡ true

abbrev pub ListIn : NodeSet → Roots → Type 0
ListIn keys s = holds keys (list_key s) ≡ true

abbrev pub ContextsAreTrue : Table → KnownParts → Type 0
ContextsAreTrue t k = (role : Role) (s : Roots) → ContextIn k role s → role_fault t role s ≡ None

abbrev pub MessagesAreTrue : Table → NodeSet → Type 0
MessagesAreTrue t keys = (s : Roots) → WholeIn keys s → sub_fault t LISTS s.bid_sub ≡ None → message_fault t s ≡ None

abbrev pub AttachmentsAreTrue : Table → NodeSet → Type 0
AttachmentsAreTrue t keys = (s : Roots) → WholeIn keys s → sub_fault t LISTS s.bid_sub ≡ None → attachment_fault t s ≡ None

abbrev pub ListsAreTrue : Table → NodeSet → Type 0
ListsAreTrue t keys =
    (s : Roots) → ListIn keys s → sub_fault t LISTS s.bid_sub ≡ None → held_fault t (below_message t LISTS) s ≡ None

-- Of the tables of folders, the rows: all of them name nodes that belong there. They are remembered apart, since this depends on
-- the nodes of the file; and by the data of the table alone, in which all that the rows name stands.
abbrev pub ListingsAreTrue : Table → List NodeEntry → NodeSet → Type 0
ListingsAreTrue t nodes keys =
    (items : Items) (s : Roots) → holds keys (data_key (role_number (Listed items)) s) ≡ true →
    first_of (listed_item_fault nodes items s.bid_data) (tc_rows t s) ≡ None

-- ---- all that lies one step below a message, and below an attachment

-- the subnode that a row, or a value, names is remembered
abbrev pub NamedIn : Table → NodeSet → Roots → RowParts → Type 0
NamedIn t keys r x = (s : Roots) → subnode_of t r x.id ≡ Some s → WholeIn keys s

abbrev pub ObjectIn : Table → NodeSet → Roots → Object → Type 0
ObjectIn t keys r o = (s : Roots) → subnode_of t r o.nid ≡ Some s → WholeIn keys s

pub record HeldIn (t : Table) (k : KnownParts) (r : Roots) : Type 0 where
  pub recipients : (s : Roots) → subnode_of t r RECIPIENTS ≡ Some s → ContextIn k Recipients s
  pub tables : (s : Roots) → subnode_of t r ATTACHMENTS ≡ Some s → ContextIn k Attachments s
  pub attachments : (x : RowParts) → IsAttachmentRow t r x → NamedIn t k.attachments r x

pub record MessageIn (t : Table) (k : KnownParts) (r : Roots) : Type 0 where
  pub properties : ContextIn k Properties r
  pub held : HeldIn t k r

pub record AttachmentIn (t : Table) (k : KnownParts) (r : Roots) : Type 0 where
  pub properties : ContextIn k Properties r
  pub messages : (o : Object) → embedded_of t r ≡ Some o → ObjectIn t k.messages r o

pub record IsTrueOf (t : Table) (k : KnownParts) : Type 0 where
  pub contexts : ContextsAreTrue t k
  pub messages : MessagesAreTrue t k.messages
  pub attachments : AttachmentsAreTrue t k.attachments
  pub lists : ListsAreTrue t k.lists
  pub index : AreNodeIndexes t k.index
  pub indexes : AreIndexes t k.indexes
  pub maps : AreMapsTrue t k.maps
  pub asked : AreAskedTrue t k.asked
  pub row_names : AreRowNames t k.row_names
  pub row_counts : AreRowCounts t k.row_counts
  -- each fault that is remembered is that of its context, or of what a message holds in its list
  pub broken : AreFaultsOf at_node (context_part t) k.broken
  pub broken_lists : AreFaultsOf retold (held_part t) k.broken_lists
  -- it is closed
  pub messages_in : (r : Roots) → WholeIn k.messages r → MessageIn t k r
  pub attachments_in : (r : Roots) → WholeIn k.attachments r → AttachmentIn t k r
  pub lists_in : (r : Roots) → ListIn k.lists r → HeldIn t k r
