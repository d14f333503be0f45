-- A fault of what a message holds, told of another node that leads to the same list.
use Rattle.std.proofs.Common.{◌≡◌, ℕ, zero, suc, Bool, true, false, Option, Some, None, List, [], ◌∷◌, refl, sym, ap, ◌∙◌, inl, inr}
use Rattle.std.specs.Prelude.{option_map}
use Rattle.pst_fault.specs.declared.fault.Fault.{Fault}
use Rattle.pst_fault.specs.declared.kind.Kind.TheVariants.{NodeMissing, NodeKind}
use Rattle.pst_fault.specs.Each.{first_of, if_there, there_or}
use Rattle.pst_fault.specs.Fault.{at_node}
use Rattle.pst_fault.specs.First.{◌then◌, holds_or, IsFirst}
use Rattle.pst_fault.proofs.FirstLemmas.{then_some}
use Rattle.pst_block.specs.Table.{Table}
use Rattle.pst_btree.specs.Entries.{first_with}
use Rattle.pst_subnode.specs.declared.check.TheConstants.{LISTS}
use Rattle.pst_subnode.specs.declared.sub.Sub.{Sub}
use Rattle.pst_subnode.specs.List.{sub_nid, subs_of}
use Rattle.pst_subnode.specs.Tree.{nesting, sub_fault}
use Rattle.pst_ndb.specs.declared.node.Node.{Node}
use Rattle.pst_ndb.specs.Roots.{Roots, sub_roots, subnode_of}
use Rattle.pst_ndb.specs.Views.{table_of_node, roots_of}
use Rattle.pst_pc.specs.Fault.{pc_fault}
use Rattle.pst_pc.proofs.AlikeLaws.{alike_pc_law}
use Rattle.pst_tc.specs.Fault.{tc_fault}
use Rattle.pst_tc.specs.Values.{RowParts, tc_rows}
use Rattle.pst_tc.proofs.AlikeLaws.{alike_tc_law, rows_alike}
use Rattle.pst_remembered.specs.declared.faults.Faults.{Faults}
use Rattle.pst_mail.specs.declared.object.Object.{Object}
use Rattle.pst_mail.specs.Fault.{attachment_row_fault, attachments_fault, held_fault, message_part, embedded_fault, attachment_part, message_at, attachment_at, nothing_below, below_message}
use Rattle.pst_remembered.specs.Broken.{roots_at, list_part, held_part, is_of_a_context, retold, IsAlike}
use Rattle.pst_remembered.specs.Faults.{IsFaultOf, fault_kept, AreFaultsOf, IsTold}
use Rattle.pst_remembered.specs.Keys.{Key}
use Rattle.pst_mail.specs.Nid.{named}
use Rattle.pst_mail.specs.Values.{embedded_of}
use Rattle.pst_mail.proofs.AlikeLemmas.{embedded_alike}
use Rattle.pst_remembered.proofs.FaultsLemmas.{properties_retold, table_retold, told_kept}
use Rattle.pst_mail.proofs.LimitLemmas.{held_limit}

-- the same blocks, reached from another node
abbrev under : ℕ → Roots → Roots
under n r = record { top = n; bid_data = r.bid_data; bid_sub = r.bid_sub }

abbrev key_of : Roots → Key
key_of r = ((r.bid_data, r.bid_sub), 0)

-- What has no fault has none; a fault is told of the other node, where it is of a context, or names another node than this one.
record Retold (n top : ℕ) (a b : Option Fault) : Type 0 where
  none : a ≡ None → b ≡ None
  some : (f : Fault) → a ≡ Some f → IsAlike top f → b ≡ Some (retold n f)

abbrev IsRetold : ℕ → ℕ → (Roots → Option Fault) → Type 0
IsRetold n top part = (r : Roots) → r.top ≡ top → Retold n top (part r) (part (under n r))

-- ---- conditions, parts, and parts of lists

nothing_retold : (n top : ℕ) → Retold n top None None
nothing_retold n top = record { none = λ e. refl; some = λ f e alike. absurd cc }

-- one that names another node is told as it is
as_it_is : (n : ℕ) (g : Fault) → is_of_a_context g.kind ≡ false → g ≡ retold n g
as_it_is n g other = rw other refl

other_retold : (n top : ℕ) (g : Fault) → is_of_a_context g.kind ≡ false → Retold n top (Some g) (Some g)
other_retold n top g other = record { none = λ e. absurd cc; some = λ f e alike. by f (let same : g ≡ f = cc in same) }
  where
    by : (f : Fault) → g ≡ f → Some g ≡ Some (retold n f)
    by f same = ap Some (as_it_is n g other ∙ ap (retold n) same)

holds_retold : (n top : ℕ) (b : Bool) (g : Fault) → is_of_a_context g.kind ≡ false → Retold n top (holds_or b g) (holds_or b g)
holds_retold n top true g other = nothing_retold n top
holds_retold n top false g other = other_retold n top g other

then_retold : (n top : ℕ) (a b c d : Option Fault) → Retold n top a b → Retold n top c d → Retold n top (a then c) (b then d)
then_retold n top None b c d h k = rw (h.none refl) k
then_retold n top (Some f) b c d h k = record { none = λ e. absurd cc; some = λ g e alike. then_some b d (retold n g) (h.some g e alike) }

each_retold : {X : Type 0} (n top : ℕ) (part other : X → Option Fault) → ((x : X) → Retold n top (part x) (other x)) → (xs : List X) → Retold n top (first_of part xs) (first_of other xs)
unfolding first_of
each_retold n top part other h [] = nothing_retold n top
each_retold n top part other h (x ∷ rest) = then_retold n top (part x) (other x) (first_of part rest) (first_of other rest) (h x) (each_retold n top part other h rest)

-- ---- subnodes, which are reached from the same node

there_retold : (t : Table) (n top : ℕ) (part other : Roots → Option Fault) (r : Roots) (nid : ℕ) → r.top ≡ top → ((s : Roots) → s.top ≡ top → Retold n top (part s) (other (under n s)))
    → Retold n top (if_there part (subnode_of t r nid)) (if_there other (subnode_of t (under n r) nid))
unfolding subnode_of
there_retold t n top part other r nid here h = by (first_with sub_nid nid (subs_of t r.bid_sub))
  where
    by : (o : Option Sub) → Retold n top (if_there part (option_map (sub_roots r) o)) (if_there other (option_map (sub_roots (under n r)) o))
    by None = nothing_retold n top
    by (Some s) = h (sub_roots r s) here

must_retold : (t : Table) (n top : ℕ) (missing : Fault) (part other : Roots → Option Fault) (r : Roots) (nid : ℕ) → is_of_a_context missing.kind ≡ false → r.top ≡ top → ((s : Roots) → s.top ≡ top → Retold n top (part s) (other (under n s)))
    → Retold n top (there_or missing part (subnode_of t r nid)) (there_or missing other (subnode_of t (under n r) nid))
unfolding subnode_of
must_retold t n top missing part other r nid kind here h = by (first_with sub_nid nid (subs_of t r.bid_sub))
  where
    by : (o : Option Sub) → Retold n top (there_or missing part (option_map (sub_roots r) o)) (there_or missing other (option_map (sub_roots (under n r)) o))
    by None = other_retold n top missing kind
    by (Some s) = h (sub_roots r s) here

-- ---- contexts, whose faults are told of the node from which they are reached

context_retold : (n : ℕ) (r : Roots) (part : ℕ → Option Fault) (f : Fault) → ((m : ℕ) → part m ≡ Some (at_node m f)) → part r.top ≡ Some f → IsAlike r.top f → part n ≡ Some (retold n f)
context_retold n r part f told is alike = by (is_of_a_context f.kind) refl
  where
    by : (b : Bool) → is_of_a_context f.kind ≡ b → part n ≡ Some (retold n f)
    by true kind = rw kind (told n)
    by false kind =
        let both : Some f ≡ Some (at_node r.top f) = sym is ∙ told r.top in
        let same : f ≡ at_node r.top f = cc in
        absurd (alike kind (ap (λ (h : Fault). h.place.nid) same))

pc_retold : (t : Table) (n top : ℕ) → IsRetold n top (pc_fault t)
pc_retold t n top r here = record {
  none = λ e. (alike_pc_law t r (under n r) (refl, refl)).2.0 e;
  some = λ f e alike. context_retold n r (λ m. pc_fault t (roots_at (key_of r) m)) f (properties_retold t (key_of r) r.top f e) e (λ kind at. alike kind (at ∙ here));
}

tc_retold : (t : Table) (n top : ℕ) → IsRetold n top (tc_fault t)
tc_retold t n top r here = record {
  none = λ e. (alike_tc_law t r (under n r) (refl, refl)).4.0 e;
  some = λ f e alike. context_retold n r (λ m. tc_fault t (roots_at (key_of r) m)) f (table_retold t (key_of r) r.top f e) e (λ kind at. alike kind (at ∙ here));
}

-- ---- messages and attachments

row_retold : (t : Table) (n top : ℕ) (below : Roots → Option Fault) → IsRetold n top below → (r : Roots) (bid : ℕ) (x : RowParts) → r.top ≡ top → Retold n top (attachment_row_fault t below r bid x) (attachment_row_fault t below (under n r) bid x)
unfolding attachment_row_fault
row_retold t n top below h r bid x here =
    must_retold t n top (named NodeMissing x.at bid x.id) _ _ r x.id refl here (λ s at. then_retold n top _ _ (below s) (below (under n s)) (holds_retold n top _ (named NodeKind x.at bid x.id) refl) (h s at))

table_of_attachments : (t : Table) (n top : ℕ) (below : Roots → Option Fault) → IsRetold n top below → (r : Roots) → r.top ≡ top → (s : Roots) → s.top ≡ top → Retold n top (attachments_fault t below r s) (attachments_fault t below (under n r) (under n s))
unfolding attachments_fault
table_of_attachments t n top below h r here s at =
    let part = attachment_row_fault t below r s.bid_data in
    let other = attachment_row_fault t below (under n r) s.bid_data in
    then_retold n top (tc_fault t s) (tc_fault t (under n s)) (first_of part (tc_rows t s)) (first_of other (tc_rows t (under n s))) (tc_retold t n top s at)
    (rw (← (rows_alike t s (under n s) (refl, refl))) (each_retold n top part other (λ x. row_retold t n top below h r s.bid_data x here) (tc_rows t s)))

held_retold : (t : Table) (n top : ℕ) (below : Roots → Option Fault) → IsRetold n top below → IsRetold n top (held_fault t below)
unfolding held_fault
held_retold t n top below h r here =
    then_retold n top _ _ _ _ (there_retold t n top (tc_fault t) (tc_fault t) r _ here (tc_retold t n top))
    (there_retold t n top (attachments_fault t below r) (attachments_fault t below (under n r)) r _ here (table_of_attachments t n top below h r here))

message_retold : (t : Table) (n top : ℕ) (below : Roots → Option Fault) → IsRetold n top below → IsRetold n top (message_part t below)
unfolding message_part
message_retold t n top below h r here = then_retold n top _ _ _ _ (pc_retold t n top r here) (held_retold t n top below h r here)

embedded_retold : (t : Table) (n top : ℕ) (below : Roots → Option Fault) → IsRetold n top below → (r : Roots) (o : Object) → r.top ≡ top → Retold n top (embedded_fault t below r o) (embedded_fault t below (under n r) o)
unfolding embedded_fault
embedded_retold t n top below h r o here = must_retold t n top (named NodeMissing o.at r.bid_data o.nid) below below r o.nid refl here h

object_retold : (t : Table) (n top : ℕ) (below : Roots → Option Fault) → IsRetold n top below → (r : Roots) (o : Option Object) → r.top ≡ top → Retold n top (if_there (embedded_fault t below r) o) (if_there (embedded_fault t below (under n r)) o)
object_retold t n top below h r None here = nothing_retold n top
object_retold t n top below h r (Some o) here = embedded_retold t n top below h r o here

attachment_retold : (t : Table) (n top : ℕ) (below : Roots → Option Fault) → IsRetold n top below → IsRetold n top (attachment_part t below)
unfolding attachment_part
attachment_retold t n top below h r here =
    then_retold n top (pc_fault t r) (pc_fault t (under n r)) (if_there (embedded_fault t below r) (embedded_of t r)) (if_there (embedded_fault t below (under n r)) (embedded_of t (under n r)))
    (pc_retold t n top r here) (rw (← (embedded_alike t r (under n r) (refl, refl))) (object_retold t n top below h r (embedded_of t r) here))

nesting_retold : (n top : ℕ) → IsRetold n top nothing_below
nesting_retold n top r here = other_retold n top nesting refl

mutual
  unfolding message_at attachment_at

  messages_retold : (t : Table) (n top k : ℕ) → IsRetold n top (message_at t k)
  messages_retold t n top zero = message_retold t n top nothing_below (nesting_retold n top)
  messages_retold t n top (suc k) = message_retold t n top (attachment_at t k) (attachments_retold t n top k)

  attachments_retold : (t : Table) (n top k : ℕ) → IsRetold n top (attachment_at t k)
  attachments_retold t n top zero = attachment_retold t n top nothing_below (nesting_retold n top)
  attachments_retold t n top (suc k) = attachment_retold t n top (message_at t k) (messages_retold t n top k)

-- ---- what a message holds

below_retold : (t : Table) (n top k : ℕ) → IsRetold n top (below_message t k)
below_retold t n top zero = nesting_retold n top
below_retold t n top (suc k) = attachments_retold t n top k

-- it is what its list says, whatever its data
held_of_list : (t : Table) (below : Roots → Option Fault) (n content other sub : ℕ) → held_fault t below (record { top = n; bid_data = content; bid_sub = sub }) ≡ held_fault t below (record { top = n; bid_data = other; bid_sub = sub })
unfolding held_fault attachments_fault attachment_row_fault subnode_of
held_of_list t below n content other sub = refl

-- a fault that is the same in each, told of each node that leads to the list
pub held_again : (t : Table) (r : Roots) (f : Fault) → held_fault t (below_message t LISTS) r ≡ Some f → IsAlike r.top f → IsFaultOf retold (held_part t) (list_part r) f
held_again t r f is alike other =
    held_of_list t (below_message t LISTS) other 0 r.bid_data r.bid_sub ∙ (held_retold t other r.top (below_message t LISTS) (below_retold t other r.top LISTS) r refl).some f is alike

first_told : (first : Option Fault) (f : Fault) → IsFirst first f → IsTold f → first ≡ Some f
first_told first f (inl memory) told = absurd (told (ap (λ (h : Fault). h.kind) memory))
first_told first f (inr is) told = is

pub held_keep : (t : Table) (r : Roots) (q : Key) (f : Fault) (nid : ℕ) → q ≡ list_part r → IsFirst (held_fault t (below_message t LISTS) r) f → nid ≡ r.top → IsAlike nid f → IsTold f → IsFaultOf retold (held_part t) q f
held_keep t r q f nid part first top alike told = rw part (held_again t r f (first_told (held_fault t (below_message t LISTS) r) f first told) (λ kind at. alike kind (at ∙ sym top)))

-- under any limit under which the lists below have no fault
pub held_told : (t : Table) (limit : ℕ) (node : Node) (faults : Faults) (q : Key) (nid : ℕ) (f g : Fault) → table_of_node node ≡ t → sub_fault t limit (roots_of node).bid_sub ≡ None → AreFaultsOf retold (held_part t) faults → q ≡ list_part (roots_of node) → Some f ≡ fault_kept faults q
    → nid ≡ (roots_of node).top → g ≡ retold nid f → held_fault t (below_message t limit) (roots_of node) ≡ Some g
held_told t limit node faults q nid f g same sound are part is top told =
    let r : Roots = roots_of node in
    let all : sub_fault t LISTS r.bid_sub ≡ None = rw (← same) node.subs in
    let kept : Some f ≡ fault_kept faults (list_part r) = rw part at is in
    held_limit t limit LISTS r sound all
    ∙ held_of_list t (below_message t LISTS) r.top r.bid_data 0 r.bid_sub
    ∙ told_kept retold (held_part t) faults (list_part r) f r.top are kept
    ∙ ap Some (ap (λ (n : ℕ). retold n f) (sym top) ∙ sym told)
