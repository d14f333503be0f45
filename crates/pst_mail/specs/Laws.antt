-- Laws of messages, attachments and of what messaging is.
use Rattle.std.specs.Prelude.{◌≡◌, ℕ, ◌↔◌, None, List}
use Rattle.pst_page.specs.declared.entry.NodeEntry.{NodeEntry}
use Rattle.pst_block.specs.Table.{Table}
use Rattle.pst_subnode.specs.declared.check.TheConstants.{LISTS}
use Rattle.pst_subnode.specs.Tree.{sub_fault}
use Rattle.pst_ndb.specs.Fault.{nodes_fault}
use Rattle.pst_ndb.specs.Roots.{Roots}
use Rattle.pst_ndb.specs.Alike.{Alike}
use Rattle.pst_mail.specs.Fault.{message_at, attachment_at, message_fault, attachment_fault, messaging_fault}
use Rattle.pst_mail.specs.Grammar.{IsMessage, IsAttachment, Contents}

-- A node whose subnodes have no fault is a message, or an attachment, exactly where it has no first fault as one.
abbrev pub MessageLaw : Type 0
MessageLaw = (t : Table) (r : Roots) → sub_fault t LISTS r.bid_sub ≡ None → IsMessage t r ↔ (message_fault t r ≡ None)

abbrev pub AttachmentLaw : Type 0
AttachmentLaw = (t : Table) (r : Roots) → sub_fault t LISTS r.bid_sub ≡ None → IsAttachment t r ↔ (attachment_fault t r ≡ None)

-- Where the nodes' trees have no fault, nodes have contents exactly where messaging has no first fault.
abbrev pub ContentsLaw : Type 0
ContentsLaw =
    (t : Table) (nodes : List NodeEntry) → nodes_fault t nodes ≡ None → Contents t nodes ↔ (messaging_fault t nodes ≡ None)

-- A message, or an attachment, says the same under each number of lists that may nest, where its subnodes have no fault.
abbrev pub LimitLaw : Type 0
LimitLaw =
    (t : Table) (n m : ℕ) (r : Roots) → sub_fault t n r.bid_sub ≡ None → sub_fault t m r.bid_sub ≡ None →
    (message_at t n r ≡ message_at t m r) × (attachment_at t n r ≡ attachment_at t m r)

-- Roots that are alike are messages, or attachments, together: bit 0 of a block identifier says nothing, and the node of which
-- faults are told decides none.
abbrev pub AlikeLaw : Type 0
AlikeLaw =
    (t : Table) (r s : Roots) → Alike r s → sub_fault t LISTS r.bid_sub ≡ None → sub_fault t LISTS s.bid_sub ≡ None →
    (message_fault t r ≡ None → message_fault t s ≡ None) × (attachment_fault t r ≡ None → attachment_fault t s ≡ None)
