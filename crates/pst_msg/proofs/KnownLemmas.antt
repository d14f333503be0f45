-- What is remembered is true, and closed.
use Rattle.std.proofs.Common.{◌≡◌, ℕ, true, false, None, sym, ◌∙◌, ◌⊎◌, inl, inr}
use Rattle.std.proofs.lemmas.Bool.{false≢true}
use Rattle.pst_fault.specs.Fault.{at_node}
use Rattle.pst_block.specs.Table.{Table}
use Rattle.pst_subnode.specs.declared.check.TheConstants.{LISTS}
use Rattle.pst_subnode.specs.Tree.{sub_fault}
use Rattle.pst_ndb.specs.declared.node.Node.{Node}
use Rattle.pst_ndb.specs.Views.{table_of_node, roots_of}
use Rattle.pst_ndb.specs.NodeIndexes.{AreNodeIndexes}
use Rattle.pst_ndb.specs.Roots.{Roots}
use Rattle.pst_pc.specs.pst_heap.PageMaps.{AreMapsTrue}
use Rattle.pst_remembered.specs.declared.faults.Faults.{Faults}
use Rattle.pst_remembered.specs.declared.keys.NodeSet.{NodeSet}
use Rattle.pst_msg.specs.declared.known.KnownParts.{KnownParts}
use Rattle.pst_msg.specs.Indexes.{AreIndexes}
use Rattle.pst_mail.specs.declared.nid.TheConstants.{ATTACHMENTS, RECIPIENTS}
use Rattle.pst_remembered.specs.declared.role.Role.{Role}
use Rattle.pst_remembered.specs.declared.role.Role.TheVariants.{Properties, Listed, Recipients, Attachments}
use Rattle.pst_ndb.specs.Alike.{Alike}
use Rattle.pst_remembered.specs.Asked.{AreAskedTrue}
use Rattle.pst_remembered.specs.Broken.{context_part, held_part, retold}
use Rattle.pst_remembered.specs.Faults.{AreFaultsOf}
use Rattle.pst_remembered.specs.Keys.{Key, key, list_key, holds, has}
use Rattle.pst_remembered.specs.Roles.{role_number, role_fault}
use Rattle.pst_remembered.proofs.RoleLemmas.{same_role}
use Rattle.pst_remembered.specs.RowCounts.{AreRowCounts}
use Rattle.pst_remembered.specs.RowNames.{AreRowNames}
use Rattle.pst_mail.specs.Fault.{held_fault, below_message, message_at, attachment_at, message_fault, attachment_fault}
use Rattle.pst_msg.specs.Known.{ListIn, MessagesAreTrue, AttachmentsAreTrue, ListsAreTrue, HeldIn, MessageIn, AttachmentIn, IsTrueOf}
use Rattle.pst_mail.proofs.AlikeLemmas.{SameList, pc_alike, tc_alike, alike_law, held_alike, subnode_alike, row_alike, embedded_alike}
use Rattle.pst_remembered.proofs.KeyLemmas.{alike_of_key, same_list, has_same}
use Rattle.pst_mail.proofs.LimitLemmas.{message_limit, attachment_limit, held_limit}

-- one more is in the set; and none is taken away
abbrev pub OneMore : NodeSet → NodeSet → Key → Type 0
OneMore old new k = (q : Key) → holds new q ≡ true → (holds old q ≡ true) ⊎ (k ≡ q)

abbrev pub Kept : NodeSet → NodeSet → Type 0
Kept old new = (q : Key) → holds old q ≡ true → holds new q ≡ true

-- ---- roles

context_alike : (t : Table) (role : Role) (r s : Roots) → Alike r s → role_fault t role r ≡ None → role_fault t role s ≡ None
context_alike t Properties r s e none = pc_alike t r s e none
context_alike t (Listed items) r s e none = tc_alike t r s e none
context_alike t Recipients r s e none = tc_alike t r s e none
context_alike t Attachments r s e none = tc_alike t r s e none

-- ---- what is one step below is remembered later, and of what is alike

pub held_later : (t : Table) (k l : KnownParts) (r : Roots) → Kept k.contexts l.contexts → Kept k.attachments l.attachments → HeldIn t k r → HeldIn t l r
held_later t k l r contexts attachments m = record {
  recipients = λ s is. contexts _ (m.recipients s is);
  tables = λ s is. contexts _ (m.tables s is);
  attachments = λ x row s is. attachments _ (m.attachments x row s is);
}

pub message_later : (t : Table) (k l : KnownParts) (r : Roots) → Kept k.contexts l.contexts → Kept k.attachments l.attachments → MessageIn t k r → MessageIn t l r
message_later t k l r contexts attachments m = record { properties = contexts _ m.properties; held = held_later t k l r contexts attachments m.held }

pub attachment_later : (t : Table) (k l : KnownParts) (r : Roots) → Kept k.contexts l.contexts → Kept k.messages l.messages → AttachmentIn t k r → AttachmentIn t l r
attachment_later t k l r contexts messages m = record {
  properties = contexts _ m.properties;
  messages = λ o embeds s is. messages _ (m.messages o embeds s is);
}

held_in_alike : (t : Table) (k : KnownParts) (r s : Roots) → SameList r s → HeldIn t k r → HeldIn t k s
held_in_alike t k r s e m = record {
  recipients = λ y is. let found = subnode_alike t r s RECIPIENTS y e is in has_same k.contexts 4 found.0 y found.2 (m.recipients found.0 found.1);
  tables = λ y is. let found = subnode_alike t r s ATTACHMENTS y e is in has_same k.contexts 5 found.0 y found.2 (m.tables found.0 found.1);
  attachments = λ x row y is. let found = subnode_alike t r s x.id y e is in has_same k.attachments 0 found.0 y found.2 (m.attachments x (row_alike t r s x e row) found.0 found.1);
}

message_in_alike : (t : Table) (k : KnownParts) (r s : Roots) → Alike r s → MessageIn t k r → MessageIn t k s
message_in_alike t k r s e m = record { properties = has_same k.contexts 0 r s e m.properties; held = held_in_alike t k r s e.1 m.held }

attachment_in_alike : (t : Table) (k : KnownParts) (r s : Roots) → Alike r s → AttachmentIn t k r → AttachmentIn t k s
attachment_in_alike t k r s e m = record {
  properties = has_same k.contexts 0 r s e m.properties;
  messages = λ o embeds y is. let found = subnode_alike t r s o.nid y e.1 is in has_same k.messages 0 found.0 y found.2 (m.messages o (embedded_alike t r s e ∙ embeds) found.0 found.1);
}

-- ---- a message that is remembered has no fault under any limit under which its subnodes have none

pub known_message : (t : Table) (keys : NodeSet) (limit : ℕ) (node : Node) → table_of_node node ≡ t → MessagesAreTrue t keys → has keys 0 (roots_of node) ≡ true → sub_fault t limit (roots_of node).bid_sub ≡ None → message_at t limit (roots_of node) ≡ None
known_message t keys limit node same holds is sound =
    let all : sub_fault t LISTS (roots_of node).bid_sub ≡ None = rw (← same) node.subs in
    message_limit t limit LISTS (roots_of node) sound all ∙ holds (roots_of node) is all

pub known_attachment : (t : Table) (keys : NodeSet) (limit : ℕ) (node : Node) → table_of_node node ≡ t → AttachmentsAreTrue t keys → has keys 0 (roots_of node) ≡ true → sub_fault t limit (roots_of node).bid_sub ≡ None → attachment_at t limit (roots_of node) ≡ None
known_attachment t keys limit node same holds is sound =
    let all : sub_fault t LISTS (roots_of node).bid_sub ≡ None = rw (← same) node.subs in
    attachment_limit t limit LISTS (roots_of node) sound all ∙ holds (roots_of node) is all

-- a list that is remembered, likewise
pub known_list : (t : Table) (keys : NodeSet) (limit : ℕ) (node : Node) → table_of_node node ≡ t → ListsAreTrue t keys → ListIn keys (roots_of node) → sub_fault t limit (roots_of node).bid_sub ≡ None → held_fault t (below_message t limit) (roots_of node) ≡ None
known_list t keys limit node same holds is sound =
    let all : sub_fault t LISTS (roots_of node).bid_sub ≡ None = rw (← same) node.subs in
    held_limit t limit LISTS (roots_of node) sound all ∙ holds (roots_of node) is all

-- ---- nothing yet

-- what a set that has nothing holds
from_none : (keys : NodeSet) (P : Type 0) (q : Key) → ((k : Key) → holds keys k ≡ false) → holds keys q ≡ true → P
from_none keys P q none there = absurd (false≢true (sym (none q) ∙ there))

pub nothing_known : (t : Table) (k : KnownParts) → ((q : Key) → holds k.contexts q ≡ false) → ((q : Key) → holds k.messages q ≡ false) → ((q : Key) → holds k.attachments q ≡ false) → ((q : Key) → holds k.lists q ≡ false) → AreNodeIndexes t k.index → AreIndexes t k.indexes → AreMapsTrue t k.maps → AreAskedTrue t k.asked → AreRowNames t k.row_names → AreRowCounts t k.row_counts → AreFaultsOf at_node (context_part t) k.broken → AreFaultsOf retold (held_part t) k.broken_lists → IsTrueOf t k
nothing_known t k contexts messages attachments lists index indexes maps asked row_names row_counts broken broken_lists = record {
  contexts = λ role s there. from_none k.contexts _ _ contexts there;
  messages = λ s there. from_none k.messages _ _ messages there;
  attachments = λ s there. from_none k.attachments _ _ attachments there;
  lists = λ s there. from_none k.lists _ _ lists there;
  index = index;
  indexes = indexes;
  maps = maps;
  asked = asked;
  row_names = row_names;
  row_counts = row_counts;
  broken = broken;
  broken_lists = broken_lists;
  messages_in = λ s there. from_none k.messages _ _ messages there;
  attachments_in = λ s there. from_none k.attachments _ _ attachments there;
  lists_in = λ s there. from_none k.lists _ _ lists there;
}

-- ---- one more is remembered

pub context_remembered : (t : Table) (role : Role) (r : Roots) (k : KnownParts) (new : NodeSet) (count : ℕ) → IsTrueOf t k → role_fault t role r ≡ None → OneMore k.contexts new (key (role_number role) r) → Kept k.contexts new → IsTrueOf t (record k { contexts = new; count = count })
context_remembered t role r k new count is none more kept = record {
  contexts = λ other s in_new. elim (more (key (role_number other) s) in_new) [
    | inl was ↦ is.contexts other s was
    | inr e ↦
        let both = alike_of_key (role_number role) (role_number other) r s e in
        let same : role ≡ other = same_role role other both.0 in
        rw (← same) (context_alike t role r s both.1 none)
  ];
  messages = is.messages;
  attachments = is.attachments;
  lists = is.lists;
  index = is.index;
  indexes = is.indexes;
  maps = is.maps;
  asked = is.asked;
  row_names = is.row_names;
  row_counts = is.row_counts;
  broken = is.broken;
  broken_lists = is.broken_lists;
  messages_in = λ s there. message_later t k _ s kept (λ q h. h) (is.messages_in s there);
  attachments_in = λ s there. attachment_later t k _ s kept (λ q h. h) (is.attachments_in s there);
  lists_in = λ s there. held_later t k _ s kept (λ q h. h) (is.lists_in s there);
}

pub message_remembered : (t : Table) (known : KnownParts) (new : NodeSet) (limit : ℕ) (node : Node) → table_of_node node ≡ t → IsTrueOf t known → sub_fault t limit (roots_of node).bid_sub ≡ None → message_at t limit (roots_of node) ≡ None → MessageIn t known (roots_of node) → OneMore known.messages new (key 0 (roots_of node)) → Kept known.messages new → IsTrueOf t (record known { messages = new })
message_remembered t known new limit node same is sound none inside more kept =
    let r : Roots = roots_of node in
    let all : sub_fault t LISTS r.bid_sub ≡ None = rw (← same) node.subs in
    let whole : message_fault t r ≡ None = sym (message_limit t limit LISTS r sound all) ∙ none in
    record {
      contexts = is.contexts;
      messages = λ s in_new subs. elim (more (key 0 s) in_new) [ inl was ↦ is.messages s was subs | inr e ↦ (alike_law t r s (alike_of_key 0 0 r s e).1 all subs).0 whole ];
      attachments = is.attachments;
      lists = is.lists;
      index = is.index;
      indexes = is.indexes;
      maps = is.maps;
      asked = is.asked;
      row_names = is.row_names;
      row_counts = is.row_counts;
      broken = is.broken;
      broken_lists = is.broken_lists;
      messages_in = λ s in_new. message_later t known _ s (λ q h. h) (λ q h. h) (elim (more (key 0 s) in_new) [ inl was ↦ is.messages_in s was | inr e ↦ message_in_alike t known r s (alike_of_key 0 0 r s e).1 inside ]);
      attachments_in = λ s there. attachment_later t known _ s (λ q h. h) kept (is.attachments_in s there);
      lists_in = λ s there. held_later t known _ s (λ q h. h) (λ q h. h) (is.lists_in s there);
    }

pub attachment_remembered : (t : Table) (known : KnownParts) (new : NodeSet) (limit : ℕ) (node : Node) → table_of_node node ≡ t → IsTrueOf t known → sub_fault t limit (roots_of node).bid_sub ≡ None → attachment_at t limit (roots_of node) ≡ None → AttachmentIn t known (roots_of node) → OneMore known.attachments new (key 0 (roots_of node)) → Kept known.attachments new → IsTrueOf t (record known { attachments = new })
attachment_remembered t known new limit node same is sound none inside more kept =
    let r : Roots = roots_of node in
    let all : sub_fault t LISTS r.bid_sub ≡ None = rw (← same) node.subs in
    let whole : attachment_fault t r ≡ None = sym (attachment_limit t limit LISTS r sound all) ∙ none in
    record {
      contexts = is.contexts;
      messages = is.messages;
      attachments = λ s in_new subs. elim (more (key 0 s) in_new) [ inl was ↦ is.attachments s was subs | inr e ↦ (alike_law t r s (alike_of_key 0 0 r s e).1 all subs).1 whole ];
      lists = is.lists;
      index = is.index;
      indexes = is.indexes;
      maps = is.maps;
      asked = is.asked;
      row_names = is.row_names;
      row_counts = is.row_counts;
      broken = is.broken;
      broken_lists = is.broken_lists;
      messages_in = λ s there. message_later t known _ s (λ q h. h) kept (is.messages_in s there);
      attachments_in = λ s in_new. attachment_later t known _ s (λ q h. h) (λ q h. h) (elim (more (key 0 s) in_new) [ inl was ↦ is.attachments_in s was | inr e ↦ attachment_in_alike t known r s (alike_of_key 0 0 r s e).1 inside ]);
      lists_in = λ s there. held_later t known _ s (λ q h. h) kept (is.lists_in s there);
    }

pub list_remembered : (t : Table) (known : KnownParts) (new : NodeSet) (limit : ℕ) (node : Node) → table_of_node node ≡ t → IsTrueOf t known → sub_fault t limit (roots_of node).bid_sub ≡ None → held_fault t (below_message t limit) (roots_of node) ≡ None → HeldIn t known (roots_of node) → OneMore known.lists new (list_key (roots_of node)) → Kept known.lists new → IsTrueOf t (record known { lists = new })
list_remembered t known new limit node same is sound none inside more kept =
    let r : Roots = roots_of node in
    let all : sub_fault t LISTS r.bid_sub ≡ None = rw (← same) node.subs in
    let whole : held_fault t (below_message t LISTS) r ≡ None = sym (held_limit t limit LISTS r sound all) ∙ none in
    record {
      contexts = is.contexts;
      messages = is.messages;
      attachments = is.attachments;
      lists = λ s in_new subs. elim (more (list_key s) in_new) [ inl was ↦ is.lists s was subs | inr e ↦ held_alike t r s (same_list r s e) all subs whole ];
      index = is.index;
      indexes = is.indexes;
      maps = is.maps;
      asked = is.asked;
      row_names = is.row_names;
      row_counts = is.row_counts;
      broken = is.broken;
      broken_lists = is.broken_lists;
      messages_in = λ s there. message_later t known _ s (λ q h. h) (λ q h. h) (is.messages_in s there);
      attachments_in = λ s there. attachment_later t known _ s (λ q h. h) (λ q h. h) (is.attachments_in s there);
      lists_in = λ s in_new. held_later t known _ s (λ q h. h) (λ q h. h) (elim (more (list_key s) in_new) [ inl was ↦ is.lists_in s was | inr e ↦ held_in_alike t known r s (same_list r s e) inside ]);
    }

-- ---- one more fault of what messages hold in a list

pub fault_remembered : (t : Table) (k : KnownParts) (broken_lists : Faults) → IsTrueOf t k → AreFaultsOf retold (held_part t) broken_lists → IsTrueOf t (record k { broken_lists = broken_lists })
fault_remembered t k broken_lists is faults = record {
  contexts = is.contexts;
  messages = is.messages;
  attachments = is.attachments;
  lists = is.lists;
  index = is.index;
  indexes = is.indexes;
  maps = is.maps;
  asked = is.asked;
  row_names = is.row_names;
  row_counts = is.row_counts;
  broken = is.broken;
  broken_lists = faults;
  messages_in = λ s there. message_later t k _ s (λ q h. h) (λ q h. h) (is.messages_in s there);
  attachments_in = λ s there. attachment_later t k _ s (λ q h. h) (λ q h. h) (is.attachments_in s there);
  lists_in = λ s there. held_later t k _ s (λ q h. h) (λ q h. h) (is.lists_in s there);
}
