-- The plain facts of messaging, and its first fault, say the same.
use Rattle.std.proofs.Common.{◌≡◌, ℕ, zero, suc, Option, Some, None, refl, sym, ◌∙◌, eq-eqb}
use Rattle.std.specs.Prelude.{◌↔◌}
use Rattle.std.specs.List.{Contains}
use Rattle.std.proofs.lemmas.Bool.{eqb-true}
use Rattle.pst_fault.specs.declared.fault.Fault.{Fault}
use Rattle.pst_fault.specs.declared.kind.Kind.TheVariants.{NodeMissing, NodeKind}
use Rattle.pst_fault.specs.First.{◌then◌, holds_or}
use Rattle.pst_fault.proofs.FirstLemmas.{none_then, both_none, holds_or_none, holds_or_true}
use Rattle.pst_block.specs.Table.{Table}
use Rattle.pst_subnode.specs.declared.check.TheConstants.{LISTS}
use Rattle.pst_subnode.specs.Tree.{sub_fault}
use Rattle.pst_mail.specs.declared.object.Object.{Object}
use Rattle.pst_tc.specs.Values.{RowParts, tc_rows}
use Rattle.pst_ndb.specs.Roots.{Roots, subnode_of}
use Rattle.pst_fault.specs.Each.{first_of, if_there, there_or}
use Rattle.pst_pc.specs.Fault.{pc_fault}
use Rattle.pst_tc.specs.Fault.{tc_fault}
use Rattle.pst_mail.specs.Values.{embedded_of}
use Rattle.pst_mail.specs.declared.nid.TheConstants.{ATTACHMENT, ATTACHMENTS, RECIPIENTS}
use Rattle.pst_mail.specs.Nid.{type_of, is_type, named}
use Rattle.pst_mail.specs.Fault.{attachment_row_fault, attachments_fault, held_fault, message_part, embedded_fault, attachment_part, message_at, attachment_at, nothing_below, below_message}
use Rattle.pst_pc.specs.Grammar.{IsPc}
use Rattle.pst_tc.specs.Grammar.{IsTc}
use Rattle.pst_mail.specs.Grammar.{IsAttachmentRow, HasSubnode, MayHaveTable, IsMessage, message, IsAttachment, attachment}
use Rattle.pst_mail.specs.Laws.{MessageLaw, AttachmentLaw}
use Rattle.pst_mail.proofs.MessageLemmas.{message_is, attachment_is}
use Rattle.pst_mail.proofs.SubnodeLemmas.{no_subnode, subnode_suc}
use Rattle.pst_fault.proofs.EachLemmas.{of_none, none_of}
use Rattle.pst_pc.proofs.PcLaws.{none_pc, pc_none}
use Rattle.pst_tc.proofs.TcLaws.{none_tc, tc_none}

-- ---- a part that may be missing

pub there_none : {X : Type 0} (part : X → Option Fault) (o : Option X) → ((x : X) → o ≡ Some x → part x ≡ None) → if_there part o ≡ None
there_none part None h = refl
there_none part (Some x) h = h x refl

pub none_there : {X : Type 0} (part : X → Option Fault) (o : Option X) (x : X) → if_there part o ≡ None → o ≡ Some x → part x ≡ None
none_there part None x h e = cc
none_there part (Some y) x h e = let same : y ≡ x = cc in rw (← same) h

-- ---- a row of an attachment table

pub row_none : (t : Table) (below : Roots → Option Fault) (r : Roots) (bid : ℕ) (x : RowParts) → HasSubnode t r x.id → type_of x.id ≡ ATTACHMENT → ((s : Roots) → subnode_of t r x.id ≡ Some s → below s ≡ None) → attachment_row_fault t below r bid x ≡ None
unfolding attachment_row_fault
row_none t below r bid x found kind each = rw found.1 (both_none (holds_or (is_type ATTACHMENT x.id) (named NodeKind x.at bid x.id)) (below found.0) (holds_or_true _ _ (eq-eqb (type_of x.id) ATTACHMENT kind)) (each found.0 found.1))

pub record RowFacts (t : Table) (below : Roots → Option Fault) (r : Roots) (x : RowParts) : Type 0 where
  pub found : HasSubnode t r x.id
  pub kind : type_of x.id ≡ ATTACHMENT
  pub each : (s : Roots) → subnode_of t r x.id ≡ Some s → below s ≡ None

pub none_row : (t : Table) (below : Roots → Option Fault) (r : Roots) (bid : ℕ) (x : RowParts) → attachment_row_fault t below r bid x ≡ None → RowFacts t below r x
unfolding attachment_row_fault
none_row t below r bid x none = by_found (subnode_of t r x.id) refl none
  where
    by_found : (o : Option Roots) → subnode_of t r x.id ≡ o → there_or (named NodeMissing x.at bid x.id) (λ s. holds_or (is_type ATTACHMENT x.id) (named NodeKind x.at bid x.id) then below s) o ≡ None → RowFacts t below r x
    by_found None e h = cc
    by_found (Some s) e h =
        let both = none_then (holds_or (is_type ATTACHMENT x.id) (named NodeKind x.at bid x.id)) (below s) h in record {
          found = (s, e);
          kind = eqb-true (type_of x.id) ATTACHMENT (holds_or_none _ _ both.0);
          each = λ other is. let same : s ≡ other = cc in rw (← same) both.1;
        }

-- ---- a message, where of each of its attachments something is known

-- what it holds in its list of subnodes
pub record HeldFacts (t : Table) (Each : Roots → Type 0) (r : Roots) : Type 0 where
  pub recipients : MayHaveTable t r RECIPIENTS
  pub attachments : MayHaveTable t r ATTACHMENTS
  pub names : (x : RowParts) → IsAttachmentRow t r x → HasSubnode t r x.id × (type_of x.id ≡ ATTACHMENT)
  pub each : (x : RowParts) (s : Roots) → IsAttachmentRow t r x → subnode_of t r x.id ≡ Some s → Each s

pub record MessageFacts (t : Table) (Each : Roots → Type 0) (r : Roots) : Type 0 where
  pub properties : IsPc t r
  pub held : HeldFacts t Each r

table_none : (t : Table) (below : Roots → Option Fault) (r table : Roots) → subnode_of t r ATTACHMENTS ≡ Some table → HeldFacts t (λ s. below s ≡ None) r → attachments_fault t below r table ≡ None
unfolding attachments_fault
table_none t below r table e facts =
    both_none (tc_fault t table) (first_of (attachment_row_fault t below r table.bid_data) (tc_rows t table)) (tc_none t table (facts.attachments table e))
    (of_none (attachment_row_fault t below r table.bid_data) (tc_rows t table)
    (λ x w. let row : IsAttachmentRow t r x = (table, e, w) in let names = facts.names x row in row_none t below r table.bid_data x names.0 names.1 (λ s is. facts.each x s row is)))

pub held_none : (t : Table) (below : Roots → Option Fault) (r : Roots) → HeldFacts t (λ s. below s ≡ None) r → held_fault t below r ≡ None
unfolding held_fault
held_none t below r facts =
    both_none (if_there (tc_fault t) (subnode_of t r RECIPIENTS)) (if_there (attachments_fault t below r) (subnode_of t r ATTACHMENTS)) (there_none (tc_fault t) (subnode_of t r RECIPIENTS) (λ s e. tc_none t s (facts.recipients s e)))
    (there_none (attachments_fault t below r) (subnode_of t r ATTACHMENTS) (λ table e. table_none t below r table e facts))

pub message_part_none : (t : Table) (below : Roots → Option Fault) (r : Roots) → MessageFacts t (λ s. below s ≡ None) r → message_part t below r ≡ None
unfolding message_part
message_part_none t below r facts = both_none (pc_fault t r) (held_fault t below r) (pc_none t r facts.properties) (held_none t below r facts.held)

none_table : (t : Table) (below : Roots → Option Fault) (r table : Roots) → attachments_fault t below r table ≡ None → IsTc t table × ((x : RowParts) → Contains (tc_rows t table) x → RowFacts t below r x)
unfolding attachments_fault
none_table t below r table h =
    let both = none_then (tc_fault t table) (first_of (attachment_row_fault t below r table.bid_data) (tc_rows t table)) h in
    (none_tc t table both.0, λ x w. none_row t below r table.bid_data x (none_of (attachment_row_fault t below r table.bid_data) (tc_rows t table) x both.1 w))

pub none_held : (t : Table) (below : Roots → Option Fault) (r : Roots) → held_fault t below r ≡ None → HeldFacts t (λ s. below s ≡ None) r
unfolding held_fault
none_held t below r h =
    let q = none_then (if_there (tc_fault t) (subnode_of t r RECIPIENTS)) (if_there (attachments_fault t below r) (subnode_of t r ATTACHMENTS)) h in
    let table : (a : Roots) → subnode_of t r ATTACHMENTS ≡ Some a → IsTc t a × ((x : RowParts) → Contains (tc_rows t a) x → RowFacts t below r x) = λ a e. none_table t below r a (none_there (attachments_fault t below r) (subnode_of t r ATTACHMENTS) a q.1 e) in record {
      recipients = λ s e. none_tc t s (none_there (tc_fault t) (subnode_of t r RECIPIENTS) s q.0 e);
      attachments = λ s e. (table s e).0;
      names = λ x row. let facts = (table row.0 row.1).1 x row.2 in (facts.found, facts.kind);
      each = λ x s row e. ((table row.0 row.1).1 x row.2).each s e;
    }

pub none_message_part : (t : Table) (below : Roots → Option Fault) (r : Roots) → message_part t below r ≡ None → MessageFacts t (λ s. below s ≡ None) r
unfolding message_part
none_message_part t below r h =
    let p = none_then (pc_fault t r) (held_fault t below r) h in
    record { properties = none_pc t r p.0; held = none_held t below r p.1 }

-- ---- an attachment, where of what it embeds something is known

pub record AttachmentFacts (t : Table) (Each : Roots → Type 0) (r : Roots) : Type 0 where
  pub properties : IsPc t r
  pub names : (o : Object) → embedded_of t r ≡ Some o → HasSubnode t r o.nid
  pub each : (o : Object) (s : Roots) → embedded_of t r ≡ Some o → subnode_of t r o.nid ≡ Some s → Each s

embedded_none : (t : Table) (below : Roots → Option Fault) (r : Roots) (o : Object) → embedded_of t r ≡ Some o → AttachmentFacts t (λ s. below s ≡ None) r → embedded_fault t below r o ≡ None
unfolding embedded_fault
embedded_none t below r o e facts = let found = facts.names o e in rw found.1 (facts.each o found.0 e found.1)

pub attachment_part_none : (t : Table) (below : Roots → Option Fault) (r : Roots) → AttachmentFacts t (λ s. below s ≡ None) r → attachment_part t below r ≡ None
unfolding attachment_part
attachment_part_none t below r facts = both_none (pc_fault t r) (if_there (embedded_fault t below r) (embedded_of t r)) (pc_none t r facts.properties) (there_none (embedded_fault t below r) (embedded_of t r) (λ o e. embedded_none t below r o e facts))

none_embedded : (t : Table) (below : Roots → Option Fault) (r : Roots) (o : Object) → embedded_fault t below r o ≡ None → HasSubnode t r o.nid × ((s : Roots) → subnode_of t r o.nid ≡ Some s → below s ≡ None)
unfolding embedded_fault
none_embedded t below r o h = by_found (subnode_of t r o.nid) refl h
  where
    by_found : (found : Option Roots) → subnode_of t r o.nid ≡ found → there_or (named NodeMissing o.at r.bid_data o.nid) below found ≡ None → HasSubnode t r o.nid × ((s : Roots) → subnode_of t r o.nid ≡ Some s → below s ≡ None)
    by_found None e h = cc
    by_found (Some s) e h = ((s, e), λ other is. let same : s ≡ other = cc in rw (← same) h)

pub none_attachment_part : (t : Table) (below : Roots → Option Fault) (r : Roots) → attachment_part t below r ≡ None → AttachmentFacts t (λ s. below s ≡ None) r
unfolding attachment_part
none_attachment_part t below r h =
    let p = none_then (pc_fault t r) (if_there (embedded_fault t below r) (embedded_of t r)) h in
    let object : (o : Object) → embedded_of t r ≡ Some o → HasSubnode t r o.nid × ((s : Roots) → subnode_of t r o.nid ≡ Some s → below s ≡ None) = λ o e. none_embedded t below r o (none_there (embedded_fault t below r) (embedded_of t r) o p.1 e) in record {
      properties = none_pc t r p.0;
      names = λ o e. (object o e).0;
      each = λ o s e is. (object o e).1 s is;
    }

-- ---- the facts of the grammar

pub message_facts : (t : Table) (r : Roots) → IsMessage t r → MessageFacts t (IsAttachment t) r
message_facts t r (message _ properties recipients attachments names each) =
    record { properties = properties; held = record { recipients = recipients; attachments = attachments; names = names; each = each } }

pub attachment_facts : (t : Table) (r : Roots) → IsAttachment t r → AttachmentFacts t (IsMessage t) r
attachment_facts t r (attachment _ properties names each) = record { properties = properties; names = names; each = each }

message_of : (t : Table) (r : Roots) → MessageFacts t (IsAttachment t) r → IsMessage t r
message_of t r facts = message r facts.properties facts.held.recipients facts.held.attachments facts.held.names facts.held.each

attachment_of : (t : Table) (r : Roots) → AttachmentFacts t (IsMessage t) r → IsAttachment t r
attachment_of t r facts = attachment r facts.properties facts.names facts.each

-- something else is known of each
held_each : (t : Table) (Each Other : Roots → Type 0) (r : Roots) → HeldFacts t Each r → ((nid : ℕ) (s : Roots) → subnode_of t r nid ≡ Some s → Each s → Other s) → HeldFacts t Other r
held_each t Each Other r facts more = record { recipients = facts.recipients; attachments = facts.attachments; names = facts.names; each = λ x s row e. more x.id s e (facts.each x s row e) }

message_each : (t : Table) (Each Other : Roots → Type 0) (r : Roots) → MessageFacts t Each r → ((nid : ℕ) (s : Roots) → subnode_of t r nid ≡ Some s → Each s → Other s) → MessageFacts t Other r
message_each t Each Other r facts more = record { properties = facts.properties; held = held_each t Each Other r facts.held more }

attachment_each : (t : Table) (Each Other : Roots → Type 0) (r : Roots) → AttachmentFacts t Each r → ((nid : ℕ) (s : Roots) → subnode_of t r nid ≡ Some s → Each s → Other s) → AttachmentFacts t Other r
attachment_each t Each Other r facts more = record { properties = facts.properties; names = facts.names; each = λ o s e is. more o.nid s is (facts.each o s e is) }

-- ---- from the grammar

mutual
  pub message_none : (t : Table) (n : ℕ) (r : Roots) → sub_fault t n r.bid_sub ≡ None → IsMessage t r → message_at t n r ≡ None
  message_none t zero r h is =
      message_is t 0 r ∙ message_part_none t nothing_below r (message_each t (IsAttachment t) (λ s. nothing_below s ≡ None) r (message_facts t r is) (λ nid s e w. no_subnode t nid r s h e))
  message_none t (suc n) r h is =
      message_is t (suc n) r
      ∙ message_part_none t (attachment_at t n) r (message_each t (IsAttachment t) (λ s. attachment_at t n s ≡ None) r (message_facts t r is) (λ nid s e w. attachment_none t n s (subnode_suc t n nid r s h e) w))

  pub attachment_none : (t : Table) (n : ℕ) (r : Roots) → sub_fault t n r.bid_sub ≡ None → IsAttachment t r → attachment_at t n r ≡ None
  attachment_none t zero r h is =
      attachment_is t 0 r ∙ attachment_part_none t nothing_below r (attachment_each t (IsMessage t) (λ s. nothing_below s ≡ None) r (attachment_facts t r is) (λ nid s e w. no_subnode t nid r s h e))
  attachment_none t (suc n) r h is =
      attachment_is t (suc n) r
      ∙ attachment_part_none t (message_at t n) r (attachment_each t (IsMessage t) (λ s. message_at t n s ≡ None) r (attachment_facts t r is) (λ nid s e w. message_none t n s (subnode_suc t n nid r s h e) w))

-- ---- from the first fault

mutual
  pub none_message : (t : Table) (n : ℕ) (r : Roots) → message_at t n r ≡ None → IsMessage t r
  none_message t zero r h =
      message_of t r (message_each t (λ s. nothing_below s ≡ None) (IsAttachment t) r (none_message_part t nothing_below r (sym (message_is t 0 r) ∙ h)) (λ nid s e w. absurd cc))
  none_message t (suc n) r h =
      message_of t r (message_each t (λ s. attachment_at t n s ≡ None) (IsAttachment t) r (none_message_part t (attachment_at t n) r (sym (message_is t (suc n) r) ∙ h)) (λ nid s e w. none_attachment t n s w))

  pub none_attachment : (t : Table) (n : ℕ) (r : Roots) → attachment_at t n r ≡ None → IsAttachment t r
  none_attachment t zero r h =
      attachment_of t r (attachment_each t (λ s. nothing_below s ≡ None) (IsMessage t) r (none_attachment_part t nothing_below r (sym (attachment_is t 0 r) ∙ h)) (λ nid s e w. absurd cc))
  none_attachment t (suc n) r h =
      attachment_of t r (attachment_each t (λ s. message_at t n s ≡ None) (IsMessage t) r (none_attachment_part t (message_at t n) r (sym (attachment_is t (suc n) r) ∙ h)) (λ nid s e w. none_message t n s w))

-- ---- laws

pub message_law : MessageLaw
message_law t r h = (λ is. message_none t LISTS r h is, λ none. none_message t LISTS r none)

pub attachment_law : AttachmentLaw
attachment_law t r h = (λ is. attachment_none t LISTS r h is, λ none. none_attachment t LISTS r none)

-- ---- what a message holds

pub held_law : (t : Table) (r : Roots) → sub_fault t LISTS r.bid_sub ≡ None → HeldFacts t (IsAttachment t) r ↔ (held_fault t (below_message t LISTS) r ≡ None)
held_law t r h = (
  λ facts. held_none t (below_message t LISTS) r (held_each t (IsAttachment t) (λ s. below_message t LISTS s ≡ None) r facts (λ nid s e w. below_none LISTS h nid s e w)),
  λ none. held_each t (λ s. below_message t LISTS s ≡ None) (IsAttachment t) r (none_held t (below_message t LISTS) r none) (λ nid s e w. none_below LISTS s w),
)
  where
    below_none : (n : ℕ) → sub_fault t n r.bid_sub ≡ None → (nid : ℕ) (s : Roots) → subnode_of t r nid ≡ Some s → IsAttachment t s → below_message t n s ≡ None
    below_none zero h nid s e w = no_subnode t nid r s h e
    below_none (suc n) h nid s e w = attachment_none t n s (subnode_suc t n nid r s h e) w

    none_below : (n : ℕ) (s : Roots) → below_message t n s ≡ None → IsAttachment t s
    none_below zero s w = absurd cc
    none_below (suc n) s w = none_attachment t n s w
