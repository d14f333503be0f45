-- A message says the same under each number of lists that may nest, as long as its subnodes have no fault there.
use Rattle.std.proofs.Common.{◌≡◌, ℕ, zero, suc, Option, Some, None, refl, sym, ap, ◌∙◌}
use Rattle.pst_fault.specs.declared.fault.Fault.{Fault}
use Rattle.pst_fault.specs.declared.kind.Kind.TheVariants.{NodeMissing, NodeKind}
use Rattle.pst_fault.specs.First.{◌then◌, holds_or}
use Rattle.pst_block.specs.Table.{Table}
use Rattle.pst_subnode.specs.Tree.{sub_fault}
use Rattle.pst_mail.specs.declared.object.Object.{Object}
use Rattle.pst_tc.specs.Values.{RowParts, tc_rows}
use Rattle.pst_ndb.specs.Roots.{Roots, subnode_of}
use Rattle.pst_fault.specs.Each.{if_there, there_or}
use Rattle.pst_fault.proofs.EachLemmas.{first_of_same}
use Rattle.pst_pc.specs.Fault.{pc_fault}
use Rattle.pst_tc.specs.Fault.{tc_fault}
use Rattle.pst_mail.specs.Values.{embedded_of}
use Rattle.pst_mail.specs.declared.nid.TheConstants.{ATTACHMENT, ATTACHMENTS, RECIPIENTS}
use Rattle.pst_mail.specs.Nid.{is_type, named}
use Rattle.pst_mail.specs.Fault.{attachment_row_fault, attachments_fault, held_fault, message_part, embedded_fault, attachment_part, message_at, attachment_at, below_message, below_attachment, nothing_below}
use Rattle.pst_mail.specs.Laws.{LimitLaw}
use Rattle.pst_mail.proofs.SubnodeLemmas.{no_subnode, subnode_suc}
use Rattle.pst_mail.proofs.MessageLemmas.{message_is, attachment_is}

-- two say the same of each subnode
abbrev pub AgreeBelow : Table → Roots → (Roots → Option Fault) → (Roots → Option Fault) → Type 0
AgreeBelow t r below other = (nid : ℕ) (s : Roots) → subnode_of t r nid ≡ Some s → below s ≡ other s

row_same : (t : Table) (below other : Roots → Option Fault) (r : Roots) (bid : ℕ) (x : RowParts) → AgreeBelow t r below other → attachment_row_fault t below r bid x ≡ attachment_row_fault t other r bid x
unfolding attachment_row_fault
row_same t below other r bid x h = by_found (subnode_of t r x.id) refl
  where
    by_found : (o : Option Roots) → subnode_of t r x.id ≡ o →
        there_or (named NodeMissing x.at bid x.id) (λ s. holds_or (is_type ATTACHMENT x.id) (named NodeKind x.at bid x.id) then below s) o
        ≡ there_or (named NodeMissing x.at bid x.id) (λ s. holds_or (is_type ATTACHMENT x.id) (named NodeKind x.at bid x.id) then other s) o
    by_found None e = refl
    by_found (Some s) e = ap (λ f. holds_or (is_type ATTACHMENT x.id) (named NodeKind x.at bid x.id) then f) (h x.id s e)

attachments_same : (t : Table) (below other : Roots → Option Fault) (r : Roots) (table : Roots) → AgreeBelow t r below other → attachments_fault t below r table ≡ attachments_fault t other r table
unfolding attachments_fault
attachments_same t below other r table h =
    ap (λ f. tc_fault t table then f) (first_of_same (attachment_row_fault t below r table.bid_data) (attachment_row_fault t other r table.bid_data) (λ x. row_same t below other r table.bid_data x h) (tc_rows t table))

if_there_same : {X : Type 0} (part other : X → Option Fault) (o : Option X) → ((x : X) → part x ≡ other x) → if_there part o ≡ if_there other o
if_there_same part other None h = refl
if_there_same part other (Some x) h = h x

pub held_same : (t : Table) (below other : Roots → Option Fault) (r : Roots) → AgreeBelow t r below other → held_fault t below r ≡ held_fault t other r
unfolding held_fault
held_same t below other r h =
    ap (λ f. if_there (tc_fault t) (subnode_of t r RECIPIENTS) then f) (if_there_same (attachments_fault t below r) (attachments_fault t other r) (subnode_of t r ATTACHMENTS) (λ table. attachments_same t below other r table h))

pub message_part_same : (t : Table) (below other : Roots → Option Fault) (r : Roots) → AgreeBelow t r below other → message_part t below r ≡ message_part t other r
unfolding message_part
message_part_same t below other r h = ap (λ f. pc_fault t r then f) (held_same t below other r h)

embedded_same : (t : Table) (below other : Roots → Option Fault) (r : Roots) (o : Object) → AgreeBelow t r below other → embedded_fault t below r o ≡ embedded_fault t other r o
unfolding embedded_fault
embedded_same t below other r o h = by_found (subnode_of t r o.nid) refl
  where
    by_found : (found : Option Roots) → subnode_of t r o.nid ≡ found → there_or (named NodeMissing o.at r.bid_data o.nid) below found ≡ there_or (named NodeMissing o.at r.bid_data o.nid) other found
    by_found None e = refl
    by_found (Some s) e = h o.nid s e

pub attachment_part_same : (t : Table) (below other : Roots → Option Fault) (r : Roots) → AgreeBelow t r below other → attachment_part t below r ≡ attachment_part t other r
unfolding attachment_part
attachment_part_same t below other r h =
    ap (λ f. pc_fault t r then f) (if_there_same (embedded_fault t below r) (embedded_fault t other r) (embedded_of t r) (λ o. embedded_same t below other r o h))

-- ---- under two limits

mutual
  pub message_limit : (t : Table) (n m : ℕ) (r : Roots) → sub_fault t n r.bid_sub ≡ None → sub_fault t m r.bid_sub ≡ None → message_at t n r ≡ message_at t m r
  message_limit t zero m r h g = message_is t 0 r ∙ message_part_same t nothing_below (below_message t m) r (λ nid s e. no_subnode t nid r s h e) ∙ sym (message_is t m r)
  message_limit t (suc n) zero r h g = message_is t (suc n) r ∙ message_part_same t (attachment_at t n) nothing_below r (λ nid s e. no_subnode t nid r s g e) ∙ sym (message_is t 0 r)
  message_limit t (suc n) (suc m) r h g =
      message_is t (suc n) r
      ∙ message_part_same t (attachment_at t n) (attachment_at t m) r (λ nid s e. attachment_limit t n m s (subnode_suc t n nid r s h e) (subnode_suc t m nid r s g e))
      ∙ sym (message_is t (suc m) r)

  pub attachment_limit : (t : Table) (n m : ℕ) (r : Roots) → sub_fault t n r.bid_sub ≡ None → sub_fault t m r.bid_sub ≡ None → attachment_at t n r ≡ attachment_at t m r
  attachment_limit t zero m r h g = attachment_is t 0 r ∙ attachment_part_same t nothing_below (below_attachment t m) r (λ nid s e. no_subnode t nid r s h e) ∙ sym (attachment_is t m r)
  attachment_limit t (suc n) zero r h g = attachment_is t (suc n) r ∙ attachment_part_same t (message_at t n) nothing_below r (λ nid s e. no_subnode t nid r s g e) ∙ sym (attachment_is t 0 r)
  attachment_limit t (suc n) (suc m) r h g =
      attachment_is t (suc n) r
      ∙ attachment_part_same t (message_at t n) (message_at t m) r (λ nid s e. message_limit t n m s (subnode_suc t n nid r s h e) (subnode_suc t m nid r s g e))
      ∙ sym (attachment_is t (suc m) r)

-- ---- what a message holds

pub held_limit : (t : Table) (n m : ℕ) (r : Roots) → sub_fault t n r.bid_sub ≡ None → sub_fault t m r.bid_sub ≡ None → held_fault t (below_message t n) r ≡ held_fault t (below_message t m) r
held_limit t n m r h g = held_same t (below_message t n) (below_message t m) r (λ nid s e. by_limits n m h g nid s e)
  where
    by_limits : (n m : ℕ) → sub_fault t n r.bid_sub ≡ None → sub_fault t m r.bid_sub ≡ None → (nid : ℕ) (s : Roots) → subnode_of t r nid ≡ Some s → below_message t n s ≡ below_message t m s
    by_limits zero m h g nid s e = no_subnode t nid r s h e
    by_limits (suc n) zero h g nid s e = no_subnode t nid r s g e
    by_limits (suc n) (suc m) h g nid s e = attachment_limit t n m s (subnode_suc t n nid r s h e) (subnode_suc t m nid r s g e)

pub limit_law : LimitLaw
limit_law t n m r h g = (message_limit t n m r h g, attachment_limit t n m r h g)
