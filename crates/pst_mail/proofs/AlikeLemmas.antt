-- What has no fault has none where its block identifiers differ in bit 0 alone, and where it is reached from another node.
use Rattle.std.proofs.Common.{◌≡◌, ℕ, Option, Some, None, refl, sym, ap, ◌∙◌}
use Rattle.std.specs.Prelude.{option_map}
use Rattle.pst_block.specs.Table.{Table}
use Rattle.pst_block.specs.Block.{bid_key}
use Rattle.pst_btree.specs.Entries.{first_with}
use Rattle.pst_subnode.specs.declared.check.TheConstants.{LISTS}
use Rattle.pst_subnode.specs.declared.sub.Sub.{Sub}
use Rattle.pst_subnode.specs.List.{sub_nid, subs_of}
use Rattle.pst_subnode.specs.Tree.{sub_fault}
use Rattle.pst_subnode.proofs.HeightLaws.{subs_same}
use Rattle.pst_ndb.specs.Roots.{Roots, sub_roots, subnode_of}
use Rattle.pst_ndb.specs.Alike.{Alike}
use Rattle.pst_pc.specs.Fault.{pc_fault}
use Rattle.pst_pc.specs.Grammar.{IsPc}
use Rattle.pst_pc.proofs.AlikeLaws.{alike_pc_law}
use Rattle.pst_pc.proofs.PcLaws.{none_pc, pc_none}
use Rattle.pst_tc.specs.Fault.{tc_fault}
use Rattle.pst_tc.specs.Grammar.{IsTc}
use Rattle.pst_tc.specs.Values.{RowParts}
use Rattle.pst_tc.proofs.AlikeLaws.{alike_tc_law, rows_alike}
use Rattle.pst_tc.proofs.TcLaws.{none_tc, tc_none}
use Rattle.pst_mail.specs.declared.nid.TheConstants.{ATTACHMENTS, RECIPIENTS}
use Rattle.pst_mail.specs.Values.{embedded_of}
use Rattle.pst_mail.specs.Fault.{held_fault, below_message}
use Rattle.pst_mail.specs.Grammar.{IsAttachmentRow, HasSubnode, MayHaveTable, IsMessage, message, IsAttachment, attachment}
use Rattle.pst_mail.specs.Laws.{AlikeLaw}
use Rattle.pst_mail.proofs.MessageLaws.{HeldFacts, message_law, attachment_law, held_law}

-- ---- contexts

pub pc_alike : (t : Table) (r s : Roots) → Alike r s → pc_fault t r ≡ None → pc_fault t s ≡ None
pc_alike t r s e none = (alike_pc_law t r s e).2.0 none

pub tc_alike : (t : Table) (r s : Roots) → Alike r s → tc_fault t r ≡ None → tc_fault t s ≡ None
tc_alike t r s e none = (alike_tc_law t r s e).4.0 none

is_pc_alike : (t : Table) (r s : Roots) → Alike r s → IsPc t r → IsPc t s
is_pc_alike t r s e is = none_pc t s (pc_alike t r s e (pc_none t r is))

is_tc_alike : (t : Table) (r s : Roots) → Alike r s → IsTc t r → IsTc t s
is_tc_alike t r s e is = none_tc t s (tc_alike t r s e (tc_none t r is))

pub embedded_alike : (t : Table) (r s : Roots) → Alike r s → embedded_of t r ≡ embedded_of t s
unfolding embedded_of
embedded_alike t r s e = rw ((alike_pc_law t r s e).0) refl

-- ---- subnodes: where two name the same list

abbrev pub SameList : Roots → Roots → Type 0
SameList r s = bid_key r.bid_sub ≡ bid_key s.bid_sub

abbrev AlikeSubnode : Table → Roots → ℕ → Roots → Type 0
AlikeSubnode t r nid y = (x : Roots) × (subnode_of t r nid ≡ Some x) × Alike x y

mapped_alike : (r s y : Roots) (found : Option Sub) → option_map (sub_roots s) found ≡ Some y → (x : Roots) × (option_map (sub_roots r) found ≡ Some x) × Alike x y
mapped_alike r s y None e = absurd cc
mapped_alike r s y (Some x) e = let same : sub_roots s x ≡ y = cc in (sub_roots r x, refl, (ap (λ (z : Roots). bid_key z.bid_data) same, ap (λ (z : Roots). bid_key z.bid_sub) same))

pub subnode_alike : (t : Table) (r s : Roots) (nid : ℕ) (y : Roots) → SameList r s → subnode_of t s nid ≡ Some y → AlikeSubnode t r nid y
unfolding subnode_of
subnode_alike t r s nid y e is = mapped_alike r s y (first_with sub_nid nid (subs_of t r.bid_sub)) (rw (subs_same t r.bid_sub s.bid_sub e) is)

has_alike : (t : Table) (r s : Roots) (nid : ℕ) → SameList r s → HasSubnode t r nid → HasSubnode t s nid
has_alike t r s nid e has = let found = subnode_alike t s r nid has.0 (sym e) has.1 in (found.0, found.1)

may_alike : (t : Table) (r s : Roots) (nid : ℕ) → SameList r s → MayHaveTable t r nid → MayHaveTable t s nid
may_alike t r s nid e may y is = let found = subnode_alike t r s nid y e is in is_tc_alike t found.0 y found.2 (may found.0 found.1)

pub row_alike : (t : Table) (r s : Roots) (x : RowParts) → SameList r s → IsAttachmentRow t s x → IsAttachmentRow t r x
row_alike t r s x e row = let found = subnode_alike t r s ATTACHMENTS row.0 e row.1 in (found.0, found.1, rw (rows_alike t found.0 row.0 found.2) row.2)

-- ---- messages and attachments

mutual
  pub message_alike : (t : Table) (r : Roots) → IsMessage t r → (s : Roots) → Alike r s → IsMessage t s
  message_alike t r (message _ properties recipients attachments names each) s e =
      message s (is_pc_alike t r s e properties) (may_alike t r s RECIPIENTS e.1 recipients) (may_alike t r s ATTACHMENTS e.1 attachments)
      (λ x row. let named = names x (row_alike t r s x e.1 row) in (has_alike t r s x.id e.1 named.0, named.1))
      (λ x y row is. let found = subnode_alike t r s x.id y e.1 is in attachment_alike t found.0 (each x found.0 (row_alike t r s x e.1 row) found.1) y found.2)

  pub attachment_alike : (t : Table) (r : Roots) → IsAttachment t r → (s : Roots) → Alike r s → IsAttachment t s
  attachment_alike t r (attachment _ properties names each) s e =
      attachment s (is_pc_alike t r s e properties)
      (λ o embeds. has_alike t r s o.nid e.1 (names o (embedded_alike t r s e ∙ embeds)))
      (λ o y embeds is. let found = subnode_alike t r s o.nid y e.1 is in message_alike t found.0 (each o found.0 (embedded_alike t r s e ∙ embeds) found.1) y found.2)

pub alike_law : AlikeLaw
alike_law t r s e h g = (
  λ none. (message_law t s g).0 (message_alike t r ((message_law t r h).1 none) s e),
  λ none. (attachment_law t s g).0 (attachment_alike t r ((attachment_law t r h).1 none) s e),
)

-- ---- what a message holds: the same list, the same

held_facts_alike : (t : Table) (r s : Roots) → SameList r s → HeldFacts t (IsAttachment t) r → HeldFacts t (IsAttachment t) s
held_facts_alike t r s e facts = record {
  recipients = may_alike t r s RECIPIENTS e facts.recipients;
  attachments = may_alike t r s ATTACHMENTS e facts.attachments;
  names = λ x row. let named = facts.names x (row_alike t r s x e row) in (has_alike t r s x.id e named.0, named.1);
  each = λ x y row is. let found = subnode_alike t r s x.id y e is in attachment_alike t found.0 (facts.each x found.0 (row_alike t r s x e row) found.1) y found.2;
}

pub held_alike : (t : Table) (r s : Roots) → SameList r s → sub_fault t LISTS r.bid_sub ≡ None → sub_fault t LISTS s.bid_sub ≡ None → held_fault t (below_message t LISTS) r ≡ None → held_fault t (below_message t LISTS) s ≡ None
held_alike t r s e h g none = (held_law t s g).0 (held_facts_alike t r s e ((held_law t r h).1 none))
