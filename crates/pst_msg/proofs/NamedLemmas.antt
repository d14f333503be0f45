-- All contexts that a store names are remembered, and no others: so many are counted.
use Rattle.std.proofs.Common.{◌≡◌, ℕ, true, List, Result, Ok, Err, refl, arith}
use Rattle.std.specs.Prelude.{OnOk}
use Rattle.std.specs.List.Sorted.{IsStrictlySortedBy}
use Rattle.std.proofs.lemmas.Bool.Decides.{nat_tests}
use Rattle.pst_fault.specs.declared.fault.Fault.{Fault}
use Rattle.pst_page.specs.declared.entry.NodeEntry.{NodeEntry}
use Rattle.pst_block.specs.Table.{Table}
use Rattle.pst_ndb.specs.Roots.{Roots}
use Rattle.pst_msg.specs.declared.known.KnownParts.{KnownParts}
use Rattle.pst_mail.specs.declared.nid.TheConstants.{FOLDER, SEARCH_FOLDER}
use Rattle.pst_remembered.specs.declared.role.Role.{Role}
use Rattle.pst_mail.specs.Nid.{type_of, is_type}
use Rattle.pst_remembered.specs.Keys.{Key, key_cmp, keys_in, holds}
use Rattle.pst_msg.specs.Known.{ContextIn, WholeIn, IsTrueOf}
use Rattle.pst_msg.specs.Counts.{HasMessage, node, embedded, HasAttachment, attached, Names, of_store, of_root, of_names, of_folder, of_search, of_message, of_attachment, listed, recipients, attachments, IsNamed, IsRaised}
use Rattle.pst_msg.specs.Growth.{AreNamed, AreContextsCounted, Grows, AllIn}
use Rattle.pst_remembered.proofs.KeyLemmas.{holds_listed, listed_holds}

mutual
  message_in : (t : Table) (N : List NodeEntry) (k : KnownParts) → IsTrueOf t k → AllIn N k → (r : Roots) → HasMessage t N r → WholeIn k.messages r
  message_in t N k is all r (node _ there m) = (all.nodes r there).messages m
  message_in t N k is all r (embedded parent _ o held names found) = (is.attachments_in parent (attachment_in t N k is all parent held)).messages o names r found

  attachment_in : (t : Table) (N : List NodeEntry) (k : KnownParts) → IsTrueOf t k → AllIn N k → (r : Roots) → HasAttachment t N r → WholeIn k.attachments r
  attachment_in t N k is all r (attached parent _ x held row found) = (is.messages_in parent (message_in t N k is all parent held)).held.attachments x row r found

type_true : (kind nid : ℕ) → type_of nid ≡ kind → is_type kind nid ≡ true
type_true kind nid e = grind (arith, nat_tests)

-- all that are named are remembered
pub contexts_in : (t : Table) (N : List NodeEntry) (k : KnownParts) → IsTrueOf t k → AllIn N k → (role : Role) (r : Roots) → Names t N role r → ContextIn k role r
contexts_in t N k is all _ r (of_store _ e) = all.store r e
contexts_in t N k is all _ r (of_root _ e) = all.root r e
contexts_in t N k is all _ r (of_names _ e) = all.names r e
contexts_in t N k is all _ r (of_folder _ w) = ((all.nodes r w.0).folders (type_true FOLDER r.top w.1)).properties
contexts_in t N k is all _ r (of_search _ w) = (all.nodes r w.0).searches (type_true SEARCH_FOLDER r.top w.1)
contexts_in t N k is all _ r (of_message _ held) = (is.messages_in r (message_in t N k is all r held)).properties
contexts_in t N k is all _ r (of_attachment _ held) = (is.attachments_in r (attachment_in t N k is all r held)).properties
contexts_in t N k is all _ r (listed parent _ items w e) = ((all.nodes parent w.0).folders (type_true FOLDER parent.top w.1)).tables items r e
contexts_in t N k is all _ r (recipients parent _ held e) = (is.messages_in parent (message_in t N k is all parent held)).held.recipients r e
contexts_in t N k is all _ r (attachments parent _ held e) = (is.messages_in parent (message_in t N k is all parent held)).held.tables r e

-- the keys are those of the contexts that are named
pub raised : (t : Table) (N : List NodeEntry) (old k : KnownParts) (start : ℕ) → AreNamed t N old.contexts → AreContextsCounted start old → IsTrueOf t k → Grows t (λ nodes. nodes ≡ N) old k → AllIn N k → IsStrictlySortedBy key_cmp (keys_in k.contexts) → IsRaised t N start k.count
raised t N old k start named counted is g all sorted =
    let here : (q : Key) → IsNamed t N q → holds k.contexts q ≡ true = λ q n. rw (← n.3) (contexts_in t N k is all n.0 n.1 n.2) in
    (keys_in k.contexts, sorted, λ q. (λ w. g.named N refl named q (holds_listed k.contexts q w), λ n. listed_holds k.contexts q (here q n)), g.counted start counted)

pub raised_ok : (t : Table) (N : List NodeEntry) (old k : KnownParts) (start : ℕ) (result : Result (Unit {0}) Fault) → AreNamed t N old.contexts → AreContextsCounted start old → IsTrueOf t k → Grows t (λ nodes. nodes ≡ N) old k → OnOk result (AllIn N k) → IsStrictlySortedBy key_cmp (keys_in k.contexts) → OnOk result (IsRaised t N start k.count)
raised_ok t N old k start (Ok x) named counted is g all sorted = raised t N old k start named counted is g all sorted
raised_ok t N old k start (Err f) named counted is g all sorted = tt
