-- The stack of the messages that are being gone through: what is left of them, and what is known of each.
use Rattle.std.specs.Prelude.{◌≡◌, ℕ, ◌+◌, ◌<◌, ◌≤◌, ◌⊎◌, Option, Some, None, IfSome, IfNone, Result, IfOk, IfErr, option_map, List, [], ◌∷◌}
use Rattle.std.specs.List.{Contains}
use Rattle.pst_fault.specs.declared.fault.Fault.{Fault}
use Rattle.pst_fault.specs.Each.{first_of}
use Rattle.pst_fault.specs.First.{◌then◌, IsFirst}
use Rattle.pst_page.specs.declared.entry.NodeEntry.{NodeEntry}
use Rattle.pst_block.specs.Table.{Table}
use Rattle.pst_subnode.specs.declared.check.TheConstants.{LISTS}
use Rattle.pst_subnode.specs.Tree.{sub_fault}
use Rattle.pst_ndb.specs.declared.node.Node.{Node}
use Rattle.pst_ndb.specs.Roots.{Roots, subnode_of}
use Rattle.pst_ndb.specs.Views.{table_of_node, sub_bid_of, roots_of}
use Rattle.pst_msg.specs.declared.rest.Rest.{Rest}
use Rattle.pst_msg.specs.Rest.{rows_of_table_left, table_of_rest}
use Rattle.pst_remembered.specs.declared.row_names.RowName.{RowName}
use Rattle.pst_tc.specs.Values.{RowParts}
use Rattle.pst_msg.specs.declared.frame.Frame.{Frame}
use Rattle.pst_msg.specs.declared.known.KnownParts.{KnownParts}
use Rattle.pst_mail.specs.declared.nid.TheConstants.{ATTACHMENTS, RECIPIENTS}
use Rattle.pst_mail.specs.declared.object.Object.{Object}
use Rattle.pst_remembered.specs.declared.role.Role.TheVariants.{Properties, Recipients, Attachments}
use Rattle.pst_msg.specs.Counts.{HasMessage, HasAttachment}
use Rattle.pst_mail.specs.Fault.{attachment_row_fault, held_fault, message_at, attachment_at, below_message}
use Rattle.pst_mail.specs.Grammar.{IsAttachmentRow}
use Rattle.pst_msg.specs.Growth.{Grows}
use Rattle.pst_msg.specs.Known.{ContextIn, WholeIn, NamedIn, IsTrueOf}
use Rattle.pst_msg.specs.Steps.{frame_steps, message_steps, attachment_steps, row_steps, steps_below_message}
use Rattle.pst_mail.specs.Values.{embedded_of}

-- ---- one message on the stack

-- the first fault of the rows that are left
abbrev pub left_of : Table → Frame → Option Fault
left_of t f = first_of (attachment_row_fault t (below_message t f.limit) (roots_of f.node) f.bid) (rows_of_table_left f.rest)

-- the attachment that embeds it, where one does
abbrev pub holder_of : Frame → Option Roots
holder_of f = option_map roots_of f.holder

-- the attachment that a row names is waited for
abbrev pub IsWaited : Option Roots → Table → Roots → RowParts → Type 0
IsWaited None t r x = ⊥
IsWaited (Some a) t r x = subnode_of t r x.id ≡ Some a

-- What is known of a message on the stack, below what has this first fault, and that is in an attachment which is waited for;
-- nothing has where the message is the last.
pub record IsFrame (t : Table) (k : KnownParts) (now : Option Fault) (waits : Option Roots) (f : Frame) : Type 0 where
  pub table : table_of_node f.node ≡ t
  pub sound : sub_fault t f.limit (sub_bid_of f.node) ≡ None
  pub rows : table_of_rest f.rest ≡ t
  -- the first fault of what it holds is that of what is above it, and else of its rows that are left
  pub first : held_fault t (below_message t f.limit) (roots_of f.node) ≡ (now then left_of t f)
  pub within : (x : RowParts) → Contains (rows_of_table_left f.rest) x → IsAttachmentRow t (roots_of f.node) x
  -- what it names is remembered, but for the rows that are left
  pub properties : ContextIn k Properties (roots_of f.node)
  pub recipients : (s : Roots) → subnode_of t (roots_of f.node) RECIPIENTS ≡ Some s → ContextIn k Recipients s
  pub tables : (s : Roots) → subnode_of t (roots_of f.node) ATTACHMENTS ≡ Some s → ContextIn k Attachments s
  pub attachments : (x : RowParts) → IsAttachmentRow t (roots_of f.node) x →
      NamedIn t k.attachments (roots_of f.node) x ⊎ (IsWaited waits t (roots_of f.node) x ⊎ Contains (rows_of_table_left f.rest) x)

-- an attachment embeds this message, and its own properties are remembered
pub record IsHolder (t : Table) (k : KnownParts) (r : Roots) (a : Node) : Type 0 where
  pub table : table_of_node a ≡ t
  pub properties : ContextIn k Properties (roots_of a)
  pub object : Object
  pub embeds : embedded_of t (roots_of a) ≡ Some object
  pub found : subnode_of t (roots_of a) object.nid ≡ Some r

abbrev pub HasHolder : Table → KnownParts → Frame → Type 0
HasHolder t k f = IfSome f.holder (IsHolder t k (roots_of f.node))

-- the attachment that embeds a message is remembered
abbrev pub HolderIn : KnownParts → Frame → Type 0
HolderIn k f = IfSome f.holder (λ a. WholeIn k.attachments (roots_of a))

-- where a store has the one message, it has the other
abbrev pub ComesWith : Table → Roots → Roots → Type 0
ComesWith t root r = (nodes : List NodeEntry) → HasMessage t nodes root → HasMessage t nodes r

-- ---- all of them, the last one first

-- those below a message of these roots, of this limit and in this attachment
unfoldable pub IsBelowMessage : Table → Roots → KnownParts → Roots → ℕ → Option Roots → List Frame → Type 0
IsBelowMessage t root k r limit waits [] = (r ≡ root) × (limit ≡ LISTS)
IsBelowMessage t root k r limit waits (f ∷ below) =
    IsFrame t k (message_at t limit r) waits f
    × HasHolder t k f
    × ComesWith t root (roots_of f.node)
    × IsBelowMessage t root k (roots_of f.node) f.limit (holder_of f) below

-- Where none is left, the message at the bottom is remembered.
unfoldable pub IsStack : Table → Roots → KnownParts → List Frame → Type 0
IsStack t root k [] = WholeIn k.messages root
IsStack t root k (f ∷ below) =
    IsFrame t k None None f
    × HasHolder t k f
    × ComesWith t root (roots_of f.node)
    × IsBelowMessage t root k (roots_of f.node) f.limit (holder_of f) below

-- what a message holds, and what those hold that wait for it, have this fault
abbrev pub IsBrokenBy : Table → Fault → Frame → Type 0
IsBrokenBy t e f = (table_of_node f.node ≡ t) × IsFirst (held_fault t (below_message t LISTS) (roots_of f.node)) e

abbrev pub AreBrokenBy : Table → Fault → List Frame → Type 0
AreBrokenBy t e stack = (f : Frame) → Contains stack f → IsBrokenBy t e f

-- they have, where it has
abbrev pub WaitFor : Table → Frame → List Frame → Type 0
WaitFor t last stack = (e : Fault) → IsFirst (message_at t last.limit (roots_of last.node)) e → AreBrokenBy t e stack

-- ---- what the steps give

-- What opening a message, an attachment or a row answers: what is known stays true, and grows by what counts; a fault is the first
-- one; and where nothing is left to go through, it is whole, else what is opened is put on the stack.
pub record IsOpening (t : Table) (old new : KnownParts) (Counted : List NodeEntry → Type 0) (first : Option Fault) (Whole : Type 0)
    (Opened : Frame → Type 0) (result : Result (Option Frame) Fault) : Type 0 where
  pub known : IsTrueOf t new
  pub grows : Grows t Counted old new
  pub refused : IfErr result (IsFirst first)
  pub done : IfOk result (λ o. IfNone o Whole)
  pub opened : IfOk result (λ o. IfSome o Opened)

-- a message is put on the stack: its first fault is that of the rows of its attachment table
pub record IsMessageOpened (t : Table) (k : KnownParts) (r : Roots) (limit : ℕ) (holder : Option Node) (f : Frame) : Type 0 where
  pub roots : roots_of f.node ≡ r
  pub nests : f.limit ≡ limit
  pub in_holder : f.holder ≡ holder
  pub frame : IsFrame t k None None f
  pub steps : frame_steps t f ≤ message_steps t limit r

-- the message that an attachment embeds is remembered
abbrev pub EmbedsKnown : Table → KnownParts → Roots → Object → Type 0
EmbedsKnown t k r o = (s : Roots) × (subnode_of t r o.nid ≡ Some s) × WholeIn k.messages s

-- the message that an object names is put on the stack
pub record IsObjectOpened (t : Table) (k : KnownParts) (a : Node) (limit : ℕ) (o : Object) (f : Frame) : Type 0 where
  pub found : subnode_of t (roots_of a) o.nid ≡ Some (roots_of f.node)
  pub nests : f.limit + 1 ≡ limit
  pub holder : f.holder ≡ Some a
  pub frame : IsFrame t k None None f
  pub steps : frame_steps t f ≤ message_steps t f.limit (roots_of f.node)

-- an attachment whose properties are remembered has no more than that, or embeds a message that is remembered
pub record AttachmentKnown (t : Table) (k : KnownParts) (r : Roots) : Type 0 where
  pub properties : ContextIn k Properties r
  pub messages : (o : Object) → embedded_of t r ≡ Some o → EmbedsKnown t k r o

-- the message that an attachment embeds is: its first fault is that of the attachment
pub record IsAttachmentOpened (t : Table) (k : KnownParts) (a : Node) (limit : ℕ) (f : Frame) : Type 0 where
  pub first : attachment_at t limit (roots_of a) ≡ message_at t f.limit (roots_of f.node)
  pub holder : f.holder ≡ Some a
  pub held : IsHolder t k (roots_of f.node) a
  pub frame : IsFrame t k None None f
  pub steps : frame_steps t f ≤ attachment_steps t limit (roots_of a)
  pub reached : (nodes : List NodeEntry) → HasAttachment t nodes (roots_of a) → HasMessage t nodes (roots_of f.node)

-- a row of which no more is told than what it names
abbrev pub row_named : RowName → RowParts
row_named name = record { id = name.id; at = name.at; place = record { at = 0; len = 0 } }

-- the subnode with an identifier, where it is there, is an attachment of a store
abbrev pub HoldsAttachment : Table → List NodeEntry → Roots → ℕ → Type 0
HoldsAttachment t nodes r nid = (s : Roots) → subnode_of t r nid ≡ Some s → HasAttachment t nodes s

-- the attachment that a row names is remembered, and has no fault
pub record IsRowKnown (t : Table) (k : KnownParts) (r : Roots) (limit : ℕ) (bid : ℕ) (x : RowParts) : Type 0 where
  pub first : attachment_row_fault t (below_message t limit) r bid x ≡ None
  pub there : NamedIn t k.attachments r x

-- the message in the attachment that a row names is: its first fault is that of the row
pub record IsRowOpened (t : Table) (k : KnownParts) (r : Roots) (limit : ℕ) (bid : ℕ) (x : RowParts) (f : Frame) : Type 0 where
  pub first : attachment_row_fault t (below_message t limit) r bid x ≡ message_at t f.limit (roots_of f.node)
  pub attachment : Roots
  pub found : subnode_of t r x.id ≡ Some attachment
  pub holder : holder_of f ≡ Some attachment
  pub held : HasHolder t k f
  pub frame : IsFrame t k None None f
  pub steps : frame_steps t f < row_steps t (steps_below_message t limit) r x
  pub reached : (nodes : List NodeEntry) → HoldsAttachment t nodes r x.id → HasMessage t nodes (roots_of f.node)

-- a message with these rows left
abbrev pub with_rest : Frame → Rest → Frame
with_rest f rest = record f { rest = rest }

-- A message is gone on with, up to one in it that is put above it: what was left of it is what is left of both.
pub record IsWentOn (t : Table) (k : KnownParts) (old f above : Frame) : Type 0 where
  pub roots : roots_of f.node ≡ roots_of old.node
  pub limit : f.limit ≡ old.limit
  pub holder : f.holder ≡ old.holder
  pub frame : IsFrame t k (message_at t above.limit (roots_of above.node)) (holder_of above) f
  pub upper : IsFrame t k None None above
  pub held : HasHolder t k above
  pub reached : ComesWith t (roots_of old.node) (roots_of above.node)
  pub steps : frame_steps t f + frame_steps t above < frame_steps t old
