-- What is opened: a message, an attachment and a row, as far as they are gone through before they stand on the stack.
use Rattle.std.proofs.Common.{◌≡◌, ℕ, ◌-◌, ◌<◌, true, List, Option, Some, None, Result, Ok, Err, refl, sym, ap, ◌∙◌, inr, arith}
use Rattle.std.specs.Prelude.{option_map, IfSome, IfNone, IfOk, IfErr, IsErrAnd}
use Rattle.std.specs.List.{Contains}
use Rattle.pst_fault.specs.declared.fault.Fault.{Fault}
use Rattle.pst_fault.specs.declared.kind.Kind.TheVariants.{NodeMissing}
use Rattle.pst_fault.specs.Each.{first_of, if_there, there_or}
use Rattle.pst_fault.specs.First.{IsFirst}
use Rattle.pst_fault.proofs.FirstLemmas.{then_none, is_first_then}
use Rattle.pst_page.specs.declared.entry.NodeEntry.{NodeEntry}
use Rattle.pst_block.specs.Table.{Table}
use Rattle.pst_subnode.specs.declared.check.TheConstants.{LISTS}
use Rattle.pst_subnode.specs.Tree.{sub_fault}
use Rattle.pst_ndb.specs.declared.node.Node.{Node}
use Rattle.pst_ndb.specs.Roots.{Roots, subnode_of}
use Rattle.pst_ndb.specs.Views.{table_of_node, sub_bid_of, roots_of}
use Rattle.pst_pc.specs.Fault.{pc_fault}
use Rattle.pst_tc.specs.Fault.{tc_fault}
use Rattle.pst_msg.specs.Rest.{rows_of_table_left, table_of_rest}
use Rattle.pst_tc.specs.Values.{RowParts, tc_rows}
use Rattle.pst_msg.specs.declared.frame.Frame.{Frame}
use Rattle.pst_msg.specs.declared.known.KnownParts.{KnownParts}
use Rattle.pst_mail.specs.declared.nid.TheConstants.{ATTACHMENT, ATTACHMENTS, RECIPIENTS}
use Rattle.pst_mail.specs.declared.object.Object.{Object}
use Rattle.pst_remembered.specs.declared.role.Role.TheVariants.{Properties, Recipients, Attachments}
use Rattle.pst_mail.specs.Nid.{is_type, named}
use Rattle.pst_msg.specs.Counts.{HasMessage, HasAttachment, embedded}
use Rattle.pst_mail.specs.Fault.{attachment_row_fault, attachments_fault, held_fault, message_part, embedded_fault, attachment_part, message_at, attachment_at, below_message, below_attachment, message_fault, attachment_fault}
use Rattle.pst_msg.specs.Growth.{Grows}
use Rattle.pst_msg.specs.Known.{ContextIn, WholeIn, IsTrueOf}
use Rattle.pst_mail.specs.Values.{embedded_of}
use Rattle.pst_msg.specs.Steps.{message_steps}
use Rattle.pst_msg.specs.Frames.{IsOpening, IsMessageOpened, EmbedsKnown, IsObjectOpened, AttachmentKnown, IsAttachmentOpened, HoldsAttachment, IsRowKnown, IsRowOpened}
use Rattle.pst_msg.proofs.CountLemmas.{grows_then, grows_of}
use Rattle.pst_msg.proofs.GrowLemmas.{row_grows, object_grows, embedded_grows}
use Rattle.pst_msg.proofs.KnownLemmas.{known_attachment}
use Rattle.pst_mail.proofs.LimitLemmas.{message_limit, held_limit}
use Rattle.pst_mail.proofs.MessageLemmas.{message_is, attachment_is, below_message_is, below_attachment_is}
use Rattle.pst_mail.proofs.SubnodeLemmas.{subnode_below}
use Rattle.pst_msg.proofs.StepLemmas.{opened_steps, embedded_steps, row_steps_is}
use Rattle.pst_mail.proofs.ViewLemmas.{subnode_sound}

-- ---- under the limit of a file

-- what a message holds has no fault under any limit under which its subnodes have none
pub whole_held : (t : Table) (limit : ℕ) (node : Node) → table_of_node node ≡ t → sub_fault t limit (roots_of node).bid_sub ≡ None → held_fault t (below_message t limit) (roots_of node) ≡ None → held_fault t (below_message t LISTS) (roots_of node) ≡ None
whole_held t limit node same sound none =
    let all : sub_fault t LISTS (roots_of node).bid_sub ≡ None = rw (← same) node.subs in
    sym (held_limit t limit LISTS (roots_of node) sound all) ∙ none

-- where the properties of a message have no fault, its first fault is that of what it holds
pub message_held : (t : Table) (limit : ℕ) (r : Roots) → pc_fault t r ≡ None → message_at t limit r ≡ held_fault t (below_message t limit) r
unfolding message_part
message_held t limit r none = message_is t limit r ∙ then_none (pc_fault t r) (held_fault t (below_message t limit) r) none

-- a fault of the properties of a message is its first one, and so is that of an attachment's
pub message_refused : (t : Table) (limit : ℕ) (r : Roots) (e : Fault) → IsFirst (pc_fault t r) e → IsFirst (message_at t limit r) e
unfolding message_part
message_refused t limit r e is = rw (message_is t limit r) (is_first_then (pc_fault t r) (held_fault t (below_message t limit) r) e is)

pub attachment_refused : (t : Table) (limit : ℕ) (r : Roots) (e : Fault) → IsFirst (pc_fault t r) e → IsFirst (attachment_at t limit r) e
unfolding attachment_part
attachment_refused t limit r e is = rw (attachment_is t limit r) (is_first_then (pc_fault t r) (if_there (embedded_fault t (below_attachment t limit) r) (embedded_of t r)) e is)

pub whole_message : (t : Table) (r : Roots) → pc_fault t r ≡ None → held_fault t (below_message t LISTS) r ≡ None → message_fault t r ≡ None
whole_message t r properties none = message_held t LISTS r properties ∙ none

-- ---- growth

-- what adds no context adds only what is named, whatever holds
pub grows_any : (t : Table) (H : List NodeEntry → Type 0) (a b : KnownParts) → Grows t (λ nodes. Unit {0}) a b → Grows t H a b
grows_any t H a b g = grows_of t (λ nodes. Unit {0}) H a b (λ nodes held. tt) g

-- so does a step that adds something, and one behind it that adds no context
pub grown : (t : Table) (H : List NodeEntry → Type 0) (a b c : KnownParts) → Grows t H a b → Grows t (λ nodes. Unit {0}) b c → Grows t H a c
grown t H a b c g h = grows_then t H a b c g (grows_any t H b c h)

-- ---- what opening a node answers

module _ {t : Table} {a b : KnownParts} {H : List NodeEntry → Type 0} {first : Option Fault} {W : Type 0} {O : Frame → Type 0} where
  -- a fault
  pub opening_refused : {e : Fault} → IsTrueOf t b → Grows t H a b → IsFirst first e → IsOpening t a b H first W O (Err e)
  opening_refused known grows is = record { known = known; grows = grows; refused = is; done = tt; opened = tt }

  -- a fault that a `?` hands on
  pub opening_handed : (result : Result (Option Frame) Fault) (e : Fault) → IsErrAnd result (λ f. f ≡ e) → IsTrueOf t b → Grows t H a b → IsFirst first e → IsOpening t a b H first W O result
  opening_handed (Ok o) e handed known grows is = absurd handed
  opening_handed (Err f) e handed known grows is = rw handed (opening_refused known grows is)

  -- that nothing is left to go through
  pub opening_done : IsTrueOf t b → Grows t H a b → W → IsOpening t a b H first W O (Ok None)
  opening_done known grows is = record { known = known; grows = grows; refused = tt; done = is; opened = tt }

  -- a message for the stack
  pub opening_frame : {f : Frame} → IsTrueOf t b → Grows t H a b → O f → IsOpening t a b H first W O (Ok (Some f))
  opening_frame known grows is = record { known = known; grows = grows; refused = tt; done = tt; opened = is }

  -- what another step answers, behind one that adds what is named
  pub opening_after : {c : KnownParts} {result : Result (Option Frame) Fault} → Grows t H a b → IsOpening t b c H first W O result → IsOpening t a c H first W O result
  opening_after {c} before is = record { known = is.known; grows = grows_then t H a b c before is.grows; refused = is.refused; done = is.done; opened = is.opened }

-- what is said of a fault, of none and of a message for the stack, where it says another
err_map : (result : Result (Option Frame) Fault) (P Q : Fault → Type 0) → ((e : Fault) → P e → Q e) → IfErr result P → IfErr result Q
err_map (Ok o) P Q h is = tt
err_map (Err e) P Q h is = h e is

none_map : (result : Result (Option Frame) Fault) (P Q : Type 0) → (P → Q) → IfOk result (λ o. IfNone o P) → IfOk result (λ o. IfNone o Q)
none_map (Ok None) P Q h is = h is
none_map (Ok (Some f)) P Q h is = tt
none_map (Err e) P Q h is = tt

some_map : (result : Result (Option Frame) Fault) (P Q : Frame → Type 0) → ((f : Frame) → P f → Q f) → IfOk result (λ o. IfSome o P) → IfOk result (λ o. IfSome o Q)
some_map (Ok None) P Q h is = tt
some_map (Ok (Some f)) P Q h is = h f is
some_map (Err e) P Q h is = tt

-- what opening another node answers, which says this of the node
opening_of : (t u : Table) (a b : KnownParts) (H K : List NodeEntry → Type 0) (first second : Option Fault) (V W : Type 0) (O P : Frame → Type 0) (result : Result (Option Frame) Fault) →
    u ≡ t → (Grows u H a b → Grows t K a b) → ((e : Fault) → IsFirst first e → IsFirst second e) → (V → W) → ((f : Frame) → O f → P f) →
    IsOpening u a b H first V O result → IsOpening t a b K second W P result
opening_of t u a b H K first second V W O P result same grows refused done opened is = record {
  known = rw same at is.known;
  grows = grows is.grows;
  refused = err_map result (IsFirst first) (IsFirst second) refused is.refused;
  done = none_map result V W done is.done;
  opened = some_map result O P opened is.opened;
}

-- ---- a message whose rows are all left

held_is : (t : Table) (below : Roots → Option Fault) (r table : Roots) → if_there (tc_fault t) (subnode_of t r RECIPIENTS) ≡ None → subnode_of t r ATTACHMENTS ≡ Some table → tc_fault t table ≡ None → held_fault t below r ≡ first_of (attachment_row_fault t below r table.bid_data) (tc_rows t table)
unfolding held_fault attachments_fault
held_is t below r table recipients is none =
    then_none (if_there (tc_fault t) (subnode_of t r RECIPIENTS)) (if_there (attachments_fault t below r) (subnode_of t r ATTACHMENTS)) recipients
    ∙ ap (λ o. if_there (attachments_fault t below r) o) is
    ∙ then_none (tc_fault t table) (first_of (attachment_row_fault t below r table.bid_data) (tc_rows t table)) none

-- a message without an attachment table
pub held_without : (t : Table) (below : Roots → Option Fault) (r : Roots) → if_there (tc_fault t) (subnode_of t r RECIPIENTS) ≡ None → None ≡ subnode_of t r ATTACHMENTS → held_fault t below r ≡ None
unfolding held_fault
held_without t below r recipients is =
    then_none (if_there (tc_fault t) (subnode_of t r RECIPIENTS)) (if_there (attachments_fault t below r) (subnode_of t r ATTACHMENTS)) recipients
    ∙ ap (λ o. if_there (attachments_fault t below r) o) (sym is)

pub opened : (t : Table) (k : KnownParts) (f : Frame) (table : Roots) → table_of_node f.node ≡ t → sub_fault t f.limit (sub_bid_of f.node) ≡ None → if_there (tc_fault t) (subnode_of t (roots_of f.node) RECIPIENTS) ≡ None → subnode_of t (roots_of f.node) ATTACHMENTS ≡ Some table → tc_fault t table ≡ None → f.bid ≡ table.bid_data → table_of_rest f.rest ≡ t → rows_of_table_left f.rest ≡ tc_rows t table → ContextIn k Properties (roots_of f.node) → ((s : Roots) → subnode_of t (roots_of f.node) RECIPIENTS ≡ Some s → ContextIn k Recipients s) → ContextIn k Attachments table → IsMessageOpened t k (roots_of f.node) f.limit f.holder f
opened t k f table same sound recipients is none bid made rows properties recipients_in there =
    let part = λ (b : ℕ). attachment_row_fault t (below_message t f.limit) (roots_of f.node) b in
    record {
      roots = refl;
      nests = refl;
      in_holder = refl;
      frame = record {
        table = same;
        sound = sound;
        rows = made;
        first = held_is t (below_message t f.limit) (roots_of f.node) table recipients is none ∙ ap (λ b. first_of (part b) (tc_rows t table)) (sym bid) ∙ ap (λ xs. first_of (part f.bid) xs) (sym rows);
        within = λ x w. (table, is, rw (← rows) w);
        properties = properties;
        recipients = recipients_in;
        tables = λ s e. let one : table ≡ s = cc in rw (← one) there;
        attachments = λ x row. let one : row.0 ≡ table = cc in let w : Contains (tc_rows t table) x = (rw one at row.2) in inr (inr (rw rows w));
      };
      steps = opened_steps t f table is rows;
    }

-- ---- an attachment

-- one whose properties are remembered, and the message that it embeds, has no fault
pub attachment_known : (t : Table) (k : KnownParts) (node : Node) → table_of_node node ≡ t → IsTrueOf t k → AttachmentKnown t k (roots_of node) → attachment_fault t (roots_of node) ≡ None
unfolding attachment_part embedded_fault
attachment_known t k node same known is =
    let a : Roots = roots_of node in
    let all : sub_fault t LISTS a.bid_sub ≡ None = rw (← same) node.subs in
    attachment_is t LISTS a ∙ then_none (pc_fault t a) (if_there (embedded_fault t (below_attachment t LISTS) a) (embedded_of t a)) (known.contexts Properties a is.properties)
    ∙ by_object (embedded_of t a) refl all
  where
    by_object : (o : Option Object) → embedded_of t (roots_of node) ≡ o → sub_fault t LISTS (roots_of node).bid_sub ≡ None → if_there (embedded_fault t (below_attachment t LISTS) (roots_of node)) o ≡ None
    by_object None e all = refl
    by_object (Some o) e all =
        let m = is.messages o e in
        let below = subnode_below t LISTS o.nid (roots_of node) m.0 all m.1 in
        ap (λ found. there_or (named NodeMissing o.at (roots_of node).bid_data o.nid) (below_attachment t LISTS) found) m.1
        ∙ below_attachment_is t LISTS m.0 below.some
        ∙ message_limit t (LISTS - 1) LISTS m.0 below.sound (subnode_sound t LISTS o.nid (roots_of node) m.0 all m.1)
        ∙ known.messages m.0 m.2 (subnode_sound t LISTS o.nid (roots_of node) m.0 all m.1)

-- what is refused of the message that an object names is refused of the object
object_refused : (t u : Table) (limit : ℕ) (r : Roots) (o : Object) (s : Roots) (e : Fault) → u ≡ t → 0 < limit → Some s ≡ subnode_of t r o.nid → IsFirst (message_at u (limit - 1) s) e → IsFirst (embedded_fault t (below_attachment t limit) r o) e
unfolding embedded_fault
object_refused t u limit r o s e same some found is = rw (← found, below_attachment_is t limit s some, ← same) is

-- the message that an object names is put on the stack
object_opened : (t u : Table) (k : KnownParts) (a sub : Node) (limit : ℕ) (o : Object) (f : Frame) → u ≡ t → 0 < limit → Some (roots_of sub) ≡ subnode_of t (roots_of a) o.nid → IsMessageOpened u k (roots_of sub) (limit - 1) (Some a) f → IsObjectOpened t k a limit o f
object_opened t u k a sub limit o f same some found of_u =
    let is : IsMessageOpened t k (roots_of sub) (limit - 1) (Some a) f = rw (← same) of_u in
    let steps : message_steps t f.limit (roots_of f.node) ≡ message_steps t (limit - 1) (roots_of sub) = rw (is.nests, is.roots) refl in
    record {
      found = sym found ∙ ap (λ r. Some r) (sym is.roots);
      nests = omega (arith, is.nests);
      holder = is.in_holder;
      frame = is.frame;
      steps = omega (arith, is.steps, steps);
    }

-- what opening the message answers that an object names is answered of the object
pub object_opening : (t : Table) (a b : KnownParts) (node sub : Node) (limit : ℕ) (o : Object) (result : Result (Option Frame) Fault) →
    table_of_node sub ≡ t → sub_fault t limit (sub_bid_of node) ≡ None → Some (roots_of sub) ≡ subnode_of t (roots_of node) o.nid →
    IsOpening (table_of_node sub) a b (λ nodes. HasMessage (table_of_node sub) nodes (roots_of sub)) (message_at (table_of_node sub) (limit - 1) (roots_of sub))
    (WholeIn b.messages (roots_of sub)) (IsMessageOpened (table_of_node sub) b (roots_of sub) (limit - 1) (Some node)) result →
    IsOpening t a b (λ nodes. HasAttachment t nodes (roots_of node) × (embedded_of t (roots_of node) ≡ Some o))
    (embedded_fault t (below_attachment t limit) (roots_of node) o) (EmbedsKnown t b (roots_of node) o) (IsObjectOpened t b node limit o) result
object_opening t a b node sub limit o result same sound found is =
    let u = table_of_node sub in
    let below = subnode_below t limit o.nid (roots_of node) (roots_of sub) sound (sym found) in
    opening_of t u a b _ _ _ _ _ _ _ _ result same
    (λ g. object_grows t u (roots_of node) o sub a b same found g)
    (λ e one. object_refused t u limit (roots_of node) o (roots_of sub) e same below.some found one)
    (λ whole. (roots_of sub, sym found, whole))
    (λ f one. object_opened t u b node sub limit o f same below.some found one)
    is

-- where the properties of an attachment have no fault, its first fault is that of the object that it embeds
attachment_object : (t : Table) (limit : ℕ) (a : Roots) (o : Object) → pc_fault t a ≡ None → embedded_of t a ≡ Some o → attachment_at t limit a ≡ embedded_fault t (below_attachment t limit) a o
unfolding attachment_part
attachment_object t limit a o properties embeds =
    attachment_is t limit a ∙ then_none (pc_fault t a) (if_there (embedded_fault t (below_attachment t limit) a) (embedded_of t a)) properties
    ∙ ap (λ e. if_there (embedded_fault t (below_attachment t limit) a) e) embeds

attachment_first : (t : Table) (limit : ℕ) (a s : Roots) (o : Object) → pc_fault t a ≡ None → 0 < limit → embedded_of t a ≡ Some o → subnode_of t a o.nid ≡ Some s → attachment_at t limit a ≡ message_at t (limit - 1) s
unfolding embedded_fault
attachment_first t limit a s o properties some embeds found =
    attachment_object t limit a o properties embeds
    ∙ ap (λ e. there_or (named NodeMissing o.at a.bid_data o.nid) (below_attachment t limit) e) found
    ∙ below_attachment_is t limit s some

attachment_opened : (t : Table) (k : KnownParts) (a : Node) (limit : ℕ) (o : Object) (f : Frame) → table_of_node a ≡ t → IsTrueOf t k → ContextIn k Properties (roots_of a) → embedded_of t (roots_of a) ≡ Some o → IsObjectOpened t k a limit o f → IsAttachmentOpened t k a limit f
attachment_opened t k a limit o f same known properties embeds is =
    let less : limit - 1 ≡ f.limit = omega (arith, is.nests) in
    let some : 0 < limit = omega (arith, is.nests) in
    record {
      first = attachment_first t limit (roots_of a) (roots_of f.node) o (known.contexts Properties (roots_of a) properties) some embeds is.found ∙ ap (λ n. message_at t n (roots_of f.node)) less;
      holder = is.holder;
      held = record { table = same; properties = properties; object = o; embeds = embeds; found = is.found };
      frame = is.frame;
      steps = rw (embedded_steps t limit (roots_of a) (roots_of f.node) o some embeds is.found, less) is.steps;
      reached = λ nodes h. embedded (roots_of a) (roots_of f.node) o h embeds is.found;
    }

-- an attachment that embeds no message, and one whose message is remembered
pub attachment_alone : (t : Table) (k : KnownParts) (r : Roots) → ContextIn k Properties r → embedded_of t r ≡ None → AttachmentKnown t k r
attachment_alone t k r properties none = record { properties = properties; messages = λ o e. let both : None ≡ Some o = sym none ∙ e in cc }

attachment_whole : (t : Table) (k : KnownParts) (r : Roots) (o : Object) → ContextIn k Properties r → embedded_of t r ≡ Some o → EmbedsKnown t k r o → AttachmentKnown t k r
attachment_whole t k r o properties embeds is = record { properties = properties; messages = λ p e. let one : o ≡ p = cc in rw (← one) is }

-- what opening the object that it embeds answers, once its properties are remembered, is answered of the attachment
pub part_opening : (t : Table) (a b c : KnownParts) (node : Node) (limit : ℕ) (o : Object) (result : Result (Option Frame) Fault) →
    table_of_node node ≡ t → ContextIn b Properties (roots_of node) → embedded_of t (roots_of node) ≡ Some o →
    Grows t (λ nodes. HasAttachment t nodes (roots_of node)) a b →
    IsOpening t b c (λ nodes. HasAttachment t nodes (roots_of node) × (embedded_of t (roots_of node) ≡ Some o))
    (embedded_fault t (below_attachment t limit) (roots_of node) o) (EmbedsKnown t c (roots_of node) o) (IsObjectOpened t c node limit o) result →
    IsOpening t a c (λ nodes. HasAttachment t nodes (roots_of node)) (attachment_at t limit (roots_of node))
    (AttachmentKnown t c (roots_of node)) (IsAttachmentOpened t c node limit) result
part_opening t a b c node limit o result same there embeds before is =
    let r = roots_of node in
    let properties = is.grows.contexts _ there in
    let none = is.known.contexts Properties r properties in
    opening_after before
    (opening_of t t b c _ _ _ _ _ _ _ _ result refl
    (λ g. embedded_grows t r o b c embeds g)
    (λ e one. rw (attachment_object t limit r o none embeds) one)
    (λ whole. attachment_whole t c r o properties embeds whole)
    (λ f one. attachment_opened t c node limit o f same is.known properties embeds one)
    is)

-- ---- a row

row_is : (t : Table) (limit bid : ℕ) (r : Roots) (x : RowParts) (s : Roots) → 0 < limit → Some s ≡ subnode_of t r x.id → is_type ATTACHMENT x.id ≡ true → attachment_row_fault t (below_message t limit) r bid x ≡ attachment_at t (limit - 1) s
unfolding attachment_row_fault
row_is t limit bid r x s some found kind = rw (← found, kind) (below_message_is t limit s some)

row_refused : (t u : Table) (limit bid : ℕ) (r : Roots) (x : RowParts) (s : Roots) (e : Fault) → u ≡ t → 0 < limit → Some s ≡ subnode_of t r x.id → is_type ATTACHMENT x.id ≡ true → IsFirst (attachment_at u (limit - 1) s) e → IsFirst (attachment_row_fault t (below_message t limit) r bid x) e
row_refused t u limit bid r x s e same some found kind is = rw (row_is t limit bid r x s some found kind, ← same) is

row_known : (t u : Table) (k : KnownParts) (limit bid : ℕ) (r : Roots) (x : RowParts) (s : Node) → u ≡ t → table_of_node s ≡ t → IsTrueOf u k → 0 < limit → sub_fault t (limit - 1) (sub_bid_of s) ≡ None → Some (roots_of s) ≡ subnode_of t r x.id → is_type ATTACHMENT x.id ≡ true → WholeIn k.attachments (roots_of s) → IsRowKnown t k r limit bid x
row_known t u k limit bid r x s same table known some sound found kind is =
    record {
      first = row_is t limit bid r x (roots_of s) some found kind ∙ known_attachment t k.attachments (limit - 1) s table (rw same at known).attachments is sound;
      there = λ y e. let one : roots_of s ≡ y = cc in rw (← one) is;
    }

row_opened : (t u : Table) (k : KnownParts) (limit bid : ℕ) (r : Roots) (x : RowParts) (s : Node) (f : Frame) → u ≡ t → 0 < limit → Some (roots_of s) ≡ subnode_of t r x.id → is_type ATTACHMENT x.id ≡ true → IsAttachmentOpened u k s (limit - 1) f → IsRowOpened t k r limit bid x f
row_opened t u k limit bid r x s f same some found kind of_u =
    let is : IsAttachmentOpened t k s (limit - 1) f = rw (← same) of_u in
    record {
      first = row_is t limit bid r x (roots_of s) some found kind ∙ is.first;
      attachment = roots_of s;
      found = sym found;
      holder = ap (λ o. option_map roots_of o) is.holder;
      held = rw is.holder is.held;
      frame = is.frame;
      steps = omega (arith, is.steps, row_steps_is t limit r x (roots_of s) some (sym found));
      reached = λ nodes h. is.reached nodes (h (roots_of s) (sym found));
    }

-- what opening the attachment answers that a row names is answered of the row
pub row_opening : (t : Table) (a b : KnownParts) (node sub : Node) (limit bid : ℕ) (x : RowParts) (result : Result (Option Frame) Fault) →
    table_of_node sub ≡ t → sub_fault t limit (sub_bid_of node) ≡ None → Some (roots_of sub) ≡ subnode_of t (roots_of node) x.id → is_type ATTACHMENT x.id ≡ true →
    IsOpening (table_of_node sub) a b (λ nodes. HasAttachment (table_of_node sub) nodes (roots_of sub)) (attachment_at (table_of_node sub) (limit - 1) (roots_of sub))
    (WholeIn b.attachments (roots_of sub)) (IsAttachmentOpened (table_of_node sub) b sub (limit - 1)) result →
    IsOpening t a b (λ nodes. HoldsAttachment t nodes (roots_of node) x.id)
    (attachment_row_fault t (below_message t limit) (roots_of node) bid x) (IsRowKnown t b (roots_of node) limit bid x) (IsRowOpened t b (roots_of node) limit bid x) result
row_opening t a b node sub limit bid x result same sound found kind is =
    let u = table_of_node sub in
    let r = roots_of node in
    let below = subnode_below t limit x.id r (roots_of sub) sound (sym found) in
    opening_of t u a b _ _ _ _ _ _ _ _ result same
    (λ g. row_grows t u r x.id sub a b same found g)
    (λ e one. row_refused t u limit bid r x (roots_of sub) e same below.some found kind one)
    (λ whole. row_known t u b limit bid r x sub same same is.known below.some below.sound found kind whole)
    (λ f one. row_opened t u b limit bid r x sub f same below.some found kind one)
    is
