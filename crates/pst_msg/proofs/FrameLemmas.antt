-- The messages on the stack.
use Rattle.std.proofs.Common.{◌≡◌, ℕ, ◌+◌, ◌<◌, ◌≤◌, List, [], ◌∷◌, ◌++◌, reverse, Option, Some, None, refl, sym, ap, ◌∙◌, ◌⊎◌, inl, inr, arith}
use Rattle.std.specs.Prelude.{option_map, IfSome, sum_by}
use Rattle.std.specs.List.{Contains}
use Rattle.std.proofs.lemmas.List.{reverse-append}
use Rattle.std.proofs.lemmas.List.Sums.{sum_by_push}
use Rattle.pst_fault.specs.declared.fault.Fault.{Fault}
use Rattle.pst_fault.specs.Each.{first_of}
use Rattle.pst_fault.specs.First.{◌then◌, IsFirst}
use Rattle.pst_fault.proofs.EachLemmas.{contains_here, contains_later}
use Rattle.pst_fault.proofs.FirstLemmas.{then_none, is_first_then}
use Rattle.pst_page.specs.declared.entry.NodeEntry.{NodeEntry}
use Rattle.pst_block.specs.Table.{Table}
use Rattle.pst_subnode.specs.declared.check.TheConstants.{LISTS}
use Rattle.pst_ndb.specs.declared.node.Node.{Node}
use Rattle.pst_ndb.specs.Roots.{Roots}
use Rattle.pst_ndb.specs.Views.{table_of_node, roots_of}
use Rattle.pst_msg.specs.declared.rest.Rest.{Rest}
use Rattle.pst_msg.specs.Rest.{rows_of_table_left, table_of_rest}
use Rattle.pst_tc.specs.Values.{RowParts}
use Rattle.pst_msg.specs.declared.frame.Frame.{Frame}
use Rattle.pst_msg.specs.declared.known.KnownParts.{KnownParts}
use Rattle.pst_remembered.specs.declared.role.Role.TheVariants.{Properties}
use Rattle.pst_remembered.specs.declared.row_names.RowName.{RowName}
use Rattle.pst_remembered.specs.RowNames.{name_of_row}
use Rattle.pst_msg.specs.Counts.{HasMessage, attached}
use Rattle.pst_mail.specs.Fault.{attachment_row_fault, held_fault, message_at, below_message, message_fault, attachment_fault}
use Rattle.pst_mail.specs.Grammar.{IsAttachmentRow}
use Rattle.pst_msg.specs.Growth.{Grows}
use Rattle.pst_msg.specs.Known.{WholeIn, NamedIn, HeldIn, IsTrueOf}
use Rattle.pst_msg.specs.Steps.{frame_steps, row_steps, steps_below_message}
use Rattle.pst_msg.specs.Frames.{left_of, holder_of, IsWaited, IsFrame, IsHolder, HasHolder, HolderIn, ComesWith, IsBelowMessage, IsStack, IsMessageOpened, AttachmentKnown, IsRowKnown, IsRowOpened, with_rest, IsWentOn, row_named, HoldsAttachment}
use Rattle.pst_msg.proofs.CountLemmas.{grows_of, grows_then}
use Rattle.pst_msg.proofs.GrowLemmas.{by_first}
use Rattle.pst_msg.proofs.KnownLemmas.{known_message}
use Rattle.pst_msg.proofs.StepLemmas.{fewer_steps}
use Rattle.pst_msg.proofs.OpenLemmas.{message_held, attachment_known}

-- ---- later

pub frame_later : (t : Table) (H : List NodeEntry → Type 0) (a b : KnownParts) (now : Option Fault) (waits : Option Roots) (f : Frame) → Grows t H a b → IsFrame t a now waits f → IsFrame t b now waits f
frame_later t H a b now waits f g is = record {
  table = is.table;
  sound = is.sound;
  rows = is.rows;
  first = is.first;
  within = is.within;
  properties = g.contexts _ is.properties;
  recipients = λ s e. g.contexts _ (is.recipients s e);
  tables = λ s e. g.contexts _ (is.tables s e);
  attachments = λ x row. elim (is.attachments x row) [ inl there ↦ inl (λ s e. g.attachments _ (there s e)) | inr left ↦ inr left ];
}

some_later : (t : Table) (H : List NodeEntry → Type 0) (a b : KnownParts) (r : Roots) (o : Option Node) → Grows t H a b → IfSome o (IsHolder t a r) → IfSome o (IsHolder t b r)
some_later t H a b r None g is = tt
some_later t H a b r (Some node) g is = record { table = is.table; properties = g.contexts _ is.properties; object = is.object; embeds = is.embeds; found = is.found }

pub holder_later : (t : Table) (H : List NodeEntry → Type 0) (a b : KnownParts) (f : Frame) → Grows t H a b → HasHolder t a f → HasHolder t b f
holder_later t H a b f g is = some_later t H a b (roots_of f.node) f.holder g is

pub below_later : (t : Table) (H : List NodeEntry → Type 0) (root : Roots) (a b : KnownParts) (r : Roots) (limit : ℕ) (waits : Option Roots) (below : List Frame) → Grows t H a b → IsBelowMessage t root a r limit waits below → IsBelowMessage t root b r limit waits below
unfolding IsBelowMessage
below_later t H root a b r limit waits [] g is = is
below_later t H root a b r limit waits (f ∷ below) g is = (frame_later t H a b (message_at t limit r) waits f g is.0, holder_later t H a b f g is.1, is.2, below_later t H root a b (roots_of f.node) f.limit (holder_of f) below g is.3)

-- ---- a fault

pub below_refused : (t : Table) (root : Roots) (k : KnownParts) (r : Roots) (limit : ℕ) (waits : Option Roots) (below : List Frame) (e : Fault) → IsTrueOf t k → IsFirst (message_at t limit r) e → IsBelowMessage t root k r limit waits below → IsFirst (message_fault t root) e
unfolding IsBelowMessage
below_refused t root k r limit waits [] e known refused is = let same : message_at t limit r ≡ message_fault t root = rw (is.0, is.1) refl in rw (← same) refused
below_refused t root k r limit waits (f ∷ below) e known refused is =
    let frame = is.0 in
    let held : IsFirst (held_fault t (below_message t f.limit) (roots_of f.node)) e = rw frame.first (is_first_then (message_at t limit r) (left_of t f) e refused) in
    let message : IsFirst (message_at t f.limit (roots_of f.node)) e = rw (message_held t f.limit (roots_of f.node) (known.contexts Properties (roots_of f.node) frame.properties)) held in
    below_refused t root k (roots_of f.node) f.limit (holder_of f) below e known message is.3

-- ---- a message is done

waited_there : (waits : Option Roots) (t : Table) (k : KnownParts) (r : Roots) (x : RowParts) → ((a : Roots) → waits ≡ Some a → WholeIn k.attachments a) → IsWaited waits t r x → NamedIn t k.attachments r x
waited_there None t k r x whole is = absurd is
waited_there (Some a) t k r x whole is = λ s e. let one : a ≡ s = cc in rw (← one) (whole a refl)

frame_done : (t : Table) (k : KnownParts) (now : Option Fault) (waits : Option Roots) (f : Frame) → now ≡ None → ((a : Roots) → waits ≡ Some a → WholeIn k.attachments a) → IsFrame t k now waits f → IsFrame t k None None f
frame_done t k now waits f none whole is = record {
  table = is.table;
  sound = is.sound;
  rows = is.rows;
  first = is.first ∙ then_none now (left_of t f) none;
  within = is.within;
  properties = is.properties;
  recipients = is.recipients;
  tables = is.tables;
  attachments = λ x row. elim (is.attachments x row) [
    | inl there ↦ inl there
    | inr (inl waited) ↦ inl (waited_there waits t k (roots_of f.node) x whole waited)
    | inr (inr left) ↦ inr (inr left)
  ];
}

below_done : (t : Table) (root : Roots) (k : KnownParts) (r : Roots) (limit : ℕ) (waits : Option Roots) (below : List Frame) → message_at t limit r ≡ None → WholeIn k.messages r → ((a : Roots) → waits ≡ Some a → WholeIn k.attachments a) → IsBelowMessage t root k r limit waits below → IsStack t root k below
unfolding IsBelowMessage IsStack
below_done t root k r limit waits [] none there whole is = rw (← is.0) there
below_done t root k r limit waits (f ∷ below) none there whole is = (frame_done t k (message_at t limit r) waits f none whole is.0, is.1, is.2, is.3)

holder_whole : (k : KnownParts) (o : Option Node) → IfSome o (λ a. WholeIn k.attachments (roots_of a)) → (a : Roots) → option_map roots_of o ≡ Some a → WholeIn k.attachments a
holder_whole k None is a e = cc
holder_whole k (Some node) is a e = let one : roots_of node ≡ a = cc in rw (← one) is

pub stack_popped : (t : Table) (H : List NodeEntry → Type 0) (root : Roots) (old k : KnownParts) (f : Frame) (below : List Frame) → IsStack t root old (f ∷ below) → Grows t H old k → IsTrueOf t k → WholeIn k.messages (roots_of f.node) → HolderIn k f → IsStack t root k below
unfolding IsStack
stack_popped t H root old k f below is g known there whole =
    below_done t root k (roots_of f.node) f.limit (holder_of f) below (known_message t k.messages f.limit f.node is.0.table known.messages there is.0.sound) there (holder_whole k f.holder whole) (below_later t H root old k (roots_of f.node) f.limit (holder_of f) below g is.3)

-- ---- a message is put above another

pub stack_pushed : (t : Table) (H : List NodeEntry → Type 0) (root : Roots) (old k : KnownParts) (f new above : Frame) (below : List Frame) → IsStack t root old (f ∷ below) → Grows t H old k → IsWentOn t k f new above → IsStack t root k (above ∷ new ∷ below)
unfolding IsStack IsBelowMessage
stack_pushed t H root old k f new above below is g on =
    let later : IsBelowMessage t root k (roots_of f.node) f.limit (holder_of f) below = below_later t H root old k (roots_of f.node) f.limit (holder_of f) below g is.3 in
    let held : HasHolder t k f = holder_later t H old k f g is.1 in
    (on.upper, on.held, λ nodes h. on.reached nodes (is.2 nodes h), (on.frame, rw (on.holder, on.roots) held, rw on.roots is.2, rw (on.roots, on.limit, on.holder) later))

pub stack_refused : (t : Table) (root : Roots) (k : KnownParts) (f : Frame) (below : List Frame) (e : Fault) → IsTrueOf t k → IsFirst (message_at t f.limit (roots_of f.node)) e → IsStack t root k (f ∷ below) → IsFirst (message_fault t root) e
unfolding IsStack
stack_refused t root k f below e known refused is = below_refused t root k (roots_of f.node) f.limit (holder_of f) below e known refused is.3

-- ---- what a row names says all that is told of it here

row_fault_named : (t : Table) (below : Roots → Option Fault) (r : Roots) (bid : ℕ) (x : RowParts) → attachment_row_fault t below r bid (row_named (name_of_row x)) ≡ attachment_row_fault t below r bid x
unfolding attachment_row_fault
row_fault_named t below r bid x = refl

row_steps_named : (t : Table) (below : Roots → ℕ) (r : Roots) (x : RowParts) → row_steps t below r (row_named (name_of_row x)) ≡ row_steps t below r x
unfolding row_steps
row_steps_named t below r x = refl

pub refused_by_name : (t : Table) (below : Roots → Option Fault) (r : Roots) (bid : ℕ) (name : RowName) (x : RowParts) (e : Fault) → name ≡ name_of_row x → IsFirst (attachment_row_fault t below r bid (row_named name)) e → IsFirst (attachment_row_fault t below r bid x) e
refused_by_name t below r bid name x e same is = rw (← row_fault_named t below r bid x) (rw same at is)

pub known_by_name : (t : Table) (k : KnownParts) (r : Roots) (limit bid : ℕ) (name : RowName) (x : RowParts) → name ≡ name_of_row x → IsRowKnown t k r limit bid (row_named name) → IsRowKnown t k r limit bid x
known_by_name t k r limit bid name x same of_name =
    let is : IsRowKnown t k r limit bid (row_named (name_of_row x)) = rw same at of_name in
    record { first = sym (row_fault_named t (below_message t limit) r bid x) ∙ is.first; there = is.there }

pub opened_by_name : (t : Table) (k : KnownParts) (r : Roots) (limit bid : ℕ) (name : RowName) (x : RowParts) (f : Frame) → name ≡ name_of_row x → IsRowOpened t k r limit bid (row_named name) f → IsRowOpened t k r limit bid x f
opened_by_name t k r limit bid name x f same of_name =
    let is : IsRowOpened t k r limit bid (row_named (name_of_row x)) f = rw same at of_name in
    record {
      first = sym (row_fault_named t (below_message t limit) r bid x) ∙ is.first;
      attachment = is.attachment;
      found = is.found;
      holder = is.holder;
      held = is.held;
      frame = is.frame;
      steps = omega (arith, is.steps, row_steps_named t (steps_below_message t limit) r x);
      reached = is.reached;
    }

-- ---- a row is gone through

row_contains : (x : RowParts) (xs rest : List RowParts) → xs ≡ x ∷ rest → Contains xs x
row_contains x xs rest is = rw is (contains_here x rest)

pub row_of_frame : (t : Table) (k : KnownParts) (f : Frame) (rest : Rest) (x : RowParts) → rows_of_table_left f.rest ≡ x ∷ rows_of_table_left rest → IsFrame t k None None f → IsAttachmentRow t (roots_of f.node) x
row_of_frame t k f rest x rows is = is.within x (row_contains x (rows_of_table_left f.rest) (rows_of_table_left rest) rows)

-- what is left is that of the row, and then of the rows after it
row_left : (t : Table) (f : Frame) (rest : Rest) (x : RowParts) → rows_of_table_left f.rest ≡ x ∷ rows_of_table_left rest → left_of t f ≡ (attachment_row_fault t (below_message t f.limit) (roots_of f.node) f.bid x then left_of t (with_rest f rest))
unfolding first_of
row_left t f rest x rows = ap (λ xs. first_of (attachment_row_fault t (below_message t f.limit) (roots_of f.node) f.bid) xs) rows

-- a row is left, or named, or the one that is gone through
rows_step : (t : Table) (k : KnownParts) (waits : Option Roots) (f : Frame) (rest : Rest) (x : RowParts) → rows_of_table_left f.rest ≡ x ∷ rows_of_table_left rest → IsFrame t k None None f → NamedIn t k.attachments (roots_of f.node) x ⊎ IsWaited waits t (roots_of f.node) x → (y : RowParts) → IsAttachmentRow t (roots_of f.node) y → NamedIn t k.attachments (roots_of f.node) y ⊎ (IsWaited waits t (roots_of f.node) y ⊎ Contains (rows_of_table_left rest) y)
rows_step t k waits f rest x rows is here y row =
    elim (is.attachments y row) [
      | inl there ↦ inl there
      | inr (inl never) ↦ absurd never
      | inr (inr left) ↦ elim (by_first (λ z. x ≡ z) x y (rows_of_table_left rest) refl (rw rows at left)) [
        | inl one ↦ elim here [ inl there ↦ inl (rw (← one) there) | inr waited ↦ inr (inl (rw (← one) waited)) ]
        | inr later ↦ inr (inr later)
      ]
    ]

with_row : (t : Table) (k : KnownParts) (now : Option Fault) (waits : Option Roots) (f : Frame) (rest : Rest) (x : RowParts) → table_of_rest rest ≡ t → rows_of_table_left f.rest ≡ x ∷ rows_of_table_left rest → IsFrame t k None None f → attachment_row_fault t (below_message t f.limit) (roots_of f.node) f.bid x ≡ now → NamedIn t k.attachments (roots_of f.node) x ⊎ IsWaited waits t (roots_of f.node) x → IsFrame t k now waits (with_rest f rest)
with_row t k now waits f rest x table rows is first here = record {
  table = is.table;
  sound = is.sound;
  rows = table;
  first = is.first ∙ row_left t f rest x rows ∙ ap (λ o. o then left_of t (with_rest f rest)) first;
  within = λ y w. is.within y (rw rows (contains_later x y (rows_of_table_left rest) w));
  properties = is.properties;
  recipients = is.recipients;
  tables = is.tables;
  attachments = rows_step t k waits f rest x rows is here;
}

-- one that is remembered
pub frame_step : (t : Table) (H : List NodeEntry → Type 0) (a b : KnownParts) (f : Frame) (rest : Rest) (x : RowParts) → Grows t H a b → IsFrame t a None None f → table_of_rest rest ≡ t → rows_of_table_left f.rest ≡ x ∷ rows_of_table_left rest → IsRowKnown t b (roots_of f.node) f.limit f.bid x → IsFrame t b None None (with_rest f rest)
frame_step t H a b f rest x g is table rows known = with_row t b None None f rest x table rows (frame_later t H a b None None f g is) known.first (inl known.there)

pub fewer_left : (t : Table) (f : Frame) (rest : Rest) (x : RowParts) (most : ℕ) → rows_of_table_left f.rest ≡ x ∷ rows_of_table_left rest → frame_steps t f ≤ most → frame_steps t (with_rest f rest) ≤ most
fewer_left t f rest x most rows h = omega (arith, h, fewer_steps t f rest x rows)

-- one with a fault
pub frame_refused : (t : Table) (k : KnownParts) (f : Frame) (rest : Rest) (x : RowParts) (e : Fault) → IsTrueOf t k → IsFrame t k None None f → rows_of_table_left f.rest ≡ x ∷ rows_of_table_left rest → IsFirst (attachment_row_fault t (below_message t f.limit) (roots_of f.node) f.bid x) e → IsFirst (message_at t f.limit (roots_of f.node)) e
frame_refused t k f rest x e known is rows refused =
    rw (message_held t f.limit (roots_of f.node) (known.contexts Properties (roots_of f.node) is.properties), is.first, row_left t f rest x rows)
    (is_first_then (attachment_row_fault t (below_message t f.limit) (roots_of f.node) f.bid x) (left_of t (with_rest f rest)) e refused)

-- one in whose attachment there is a message to be gone through first
pub frame_opened : (t : Table) (H : List NodeEntry → Type 0) (a b : KnownParts) (old f : Frame) (rest : Rest) (x : RowParts) (above : Frame) → Grows t H a b → IsFrame t a None None f → table_of_rest rest ≡ t → rows_of_table_left f.rest ≡ x ∷ rows_of_table_left rest → IsRowOpened t b (roots_of f.node) f.limit f.bid x above → roots_of f.node ≡ roots_of old.node → f.limit ≡ old.limit → f.holder ≡ old.holder → frame_steps t f ≤ frame_steps t old → IsWentOn t b old (with_rest f rest) above
frame_opened t H a b old f rest x above g is table rows one roots limit holder steps =
    let waited : IsWaited (holder_of above) t (roots_of f.node) x = rw one.holder one.found in
    let row : IsAttachmentRow t (roots_of f.node) x = row_of_frame t a f rest x rows is in
    record {
      roots = roots;
      limit = limit;
      holder = holder;
      frame = with_row t b (message_at t above.limit (roots_of above.node)) (holder_of above) f rest x table rows (frame_later t H a b None None f g is) one.first (inr waited);
      upper = one.frame;
      held = one.held;
      reached = λ nodes h. one.reached nodes (λ s e. attached (roots_of f.node) s x (rw roots h) row e);
      steps = omega (arith, one.steps, steps, fewer_steps t f rest x rows);
    }

-- a message of which no row is left
pub held_done : (t : Table) (k : KnownParts) (f : Frame) → IsFrame t k None None f → rows_of_table_left f.rest ≡ [] → held_fault t (below_message t f.limit) (roots_of f.node) ≡ None
unfolding first_of
held_done t k f is rows = is.first ∙ ap (λ xs. first_of (attachment_row_fault t (below_message t f.limit) (roots_of f.node) f.bid) xs) rows

pub held_in : (t : Table) (k : KnownParts) (f : Frame) → IsFrame t k None None f → rows_of_table_left f.rest ≡ [] → HeldIn t k (roots_of f.node)
held_in t k f is rows = record {
  recipients = is.recipients;
  tables = is.tables;
  attachments = λ x row. elim (is.attachments x row) [
    | inl there ↦ there
    | inr (inl never) ↦ absurd never
    | inr (inr left) ↦ let none : Contains [] x = (rw rows at left) in absurd (omega (arith, none.1))
  ];
}

-- the attachment that embeds it
pub holder_done : (t : Table) (k : KnownParts) (r : Roots) (a : Node) → IsHolder t k r a → WholeIn k.messages r → AttachmentKnown t k (roots_of a)
holder_done t k r a is whole = record {
  properties = is.properties;
  messages = λ o e. let one : is.object ≡ o = cc in (r, rw (← one) is.found, whole);
}

-- ---- the stack in memory, whose last message stands at the end

pub last_first : (all rest : List Frame) (f : Frame) → all ≡ rest ++ (f ∷ []) → reverse all ≡ f ∷ reverse rest
last_first all rest f is = ap (λ (xs : List Frame). reverse xs) is ∙ reverse-append rest (f ∷ [])

none_held : (t : Table) (k : KnownParts) (r : Roots) (o : Option Node) → o ≡ None → IfSome o (IsHolder t k r)
none_held t k r None e = tt
none_held t k r (Some a) e = cc

pub stack_begins : (t : Table) (k : KnownParts) (root : Roots) (f : Frame) → IsMessageOpened t k root LISTS None f → IsStack t root k (f ∷ [])
unfolding IsStack IsBelowMessage
stack_begins t k root f is = (is.frame, none_held t k (roots_of f.node) f.holder is.in_holder, rw is.roots (λ nodes h. h), (is.roots, is.nests))

-- ---- what the calls need

-- the attachment that waits for a message which is remembered now has no fault
pub holder_whole_now : (t : Table) (H : List NodeEntry → Type 0) (a b : KnownParts) (r : Roots) (node : Node) → IsHolder t a r node → Grows t H a b → IsTrueOf t b → WholeIn b.messages r → attachment_fault (table_of_node node) (roots_of node) ≡ None
holder_whole_now t H a b r node is g known whole =
    let later : IsHolder t b r node = some_later t H a b r (Some node) g is in
    rw is.table (attachment_known t b node is.table known (holder_done t b r node later whole))

pub row_of_message : (t : Table) (r : Roots) (name : RowName) (x : RowParts) (a b c : KnownParts) → name ≡ name_of_row x → IsAttachmentRow t r x → Grows t (λ nodes. HasMessage t nodes r) a b → Grows t (λ nodes. HoldsAttachment t nodes r name.id) b c → Grows t (λ nodes. HasMessage t nodes r) a c
row_of_message t r name x a b c same row g h = grows_then t (λ nodes. HasMessage t nodes r) a b c g (grows_of t (λ nodes. HoldsAttachment t nodes r name.id) (λ nodes. HasMessage t nodes r) b c (λ nodes held s e. attached r s x held row (rw same at e)) h)

-- the rows that are left, told by another iterator
pub frame_same : (t : Table) (k : KnownParts) (f : Frame) (rest : Rest) → table_of_rest rest ≡ t → rows_of_table_left rest ≡ rows_of_table_left f.rest → IsFrame t k None None f → IsFrame t k None None (with_rest f rest)
frame_same t k f rest table same is = record {
  table = is.table;
  sound = is.sound;
  rows = table;
  first = is.first ∙ ap (λ xs. first_of (attachment_row_fault t (below_message t f.limit) (roots_of f.node) f.bid) xs) (sym same);
  within = λ y w. is.within y (rw same at w);
  properties = is.properties;
  recipients = is.recipients;
  tables = is.tables;
  attachments = λ x row. elim (is.attachments x row) [
    | inl there ↦ inl there
    | inr (inl never) ↦ inr (inl never)
    | inr (inr left) ↦ inr (inr (rw same left))
  ];
}

-- the last message of a stack
pub record IsTop (t : Table) (root : Roots) (k : KnownParts) (f : Frame) : Type 0 where
  pub frame : IsFrame t k None None f
  pub holder : HasHolder t k f
  pub reached : ComesWith t root (roots_of f.node)

pub stack_top : (t : Table) (root : Roots) (k : KnownParts) (f : Frame) (below : List Frame) → IsStack t root k (f ∷ below) → IsTop t root k f
unfolding IsStack
stack_top t root k f below is = record { frame = is.0; holder = is.1; reached = is.2 }

pub turn_grows : (t : Table) (root r : Roots) (a b c : KnownParts) → ComesWith t root r → Grows t (λ nodes. HasMessage t nodes root) a b → Grows t (λ nodes. HasMessage t nodes r) b c → Grows t (λ nodes. HasMessage t nodes root) a c
turn_grows t root r a b c reached g h = grows_then t (λ nodes. HasMessage t nodes root) a b c g (grows_of t (λ nodes. HasMessage t nodes r) (λ nodes. HasMessage t nodes root) b c reached h)

pub stack_ends : (t : Table) (root : Roots) (k : KnownParts) → IsStack t root k [] → WholeIn k.messages root
unfolding IsStack
stack_ends t root k is = is

-- one is gone on with, and the others wait for it
pub stack_begun : (t : Table) (k : KnownParts) (root : Roots) (all : List Frame) (f : Frame) → all ≡ [] → IsMessageOpened t k root LISTS None f → IsStack t root k (f ∷ reverse all)
stack_begun t k root all f is opened = rw is (stack_begins t k root f opened)

pub one_pushed : (t : Table) (H : List NodeEntry → Type 0) (root : Roots) (old k : KnownParts) (all new : List Frame) (f below above : Frame) → new ≡ all ++ (below ∷ []) → IsStack t root old (f ∷ reverse all) → Grows t H old k → IsWentOn t k f below above → IsStack t root k (above ∷ reverse new)
one_pushed t H root old k all new f below above is stack g on = rw (last_first new all below is) (stack_pushed t H root old k f below above (reverse all) stack g on)

pub one_popped : (t : Table) (root : Roots) (k : KnownParts) (all rest : List Frame) (f : Frame) → all ≡ rest ++ (f ∷ []) → IsStack t root k (reverse all) → IsStack t root k (f ∷ reverse rest)
one_popped t root k all rest f is stack = rw (last_first all rest f is) at stack

pub none_waits : (t : Table) (root : Roots) (k : KnownParts) (all : List Frame) → all ≡ [] → IsStack t root k (reverse all) → WholeIn k.messages root
none_waits t root k all is stack = stack_ends t root k (rw is at stack)

-- how often they can be gone on with

pub fewer_pushed : (t : Table) (all new : List Frame) (last below above : Frame) → new ≡ all ++ (below ∷ []) → frame_steps t below + frame_steps t above < frame_steps t last → frame_steps t above + sum_by (frame_steps t) new < frame_steps t last + sum_by (frame_steps t) all
fewer_pushed t all new last below above is less =
    let after : sum_by (frame_steps t) new ≡ sum_by (frame_steps t) all + frame_steps t below = ap (λ xs. sum_by (frame_steps t) xs) is ∙ sum_by_push (frame_steps t) all below in
    omega (arith, after, less)
