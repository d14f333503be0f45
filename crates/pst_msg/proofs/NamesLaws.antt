-- What a store's messaging names are contexts.
use Rattle.std.proofs.Common.{◌≡◌, ℕ, Bool, true, false, List, Some, None, refl, sym, ◌∙◌, ◌⊎◌, inl, inr}
use Rattle.std.specs.Prelude.{◌||◌}
use Rattle.std.proofs.lemmas.Bool.{eqb-true}
use Rattle.pst_page.specs.declared.entry.NodeEntry.{NodeEntry}
use Rattle.pst_block.specs.Table.{Table}
use Rattle.pst_ndb.specs.Roots.{Roots, node_in}
use Rattle.pst_pc.specs.Grammar.{IsPc}
use Rattle.pst_pc.proofs.PcLaws.{pc_none}
use Rattle.pst_tc.specs.Grammar.{IsTc}
use Rattle.pst_tc.proofs.TcLaws.{tc_none}
use Rattle.pst_mail.specs.declared.items.Items.{Items}
use Rattle.pst_mail.specs.declared.items.Items.TheVariants.{Subfolders, Messages, Associated}
use Rattle.pst_mail.specs.declared.nid.TheConstants.{MESSAGE, ASSOCIATED}
use Rattle.pst_remembered.specs.declared.role.Role.{Role}
use Rattle.pst_mail.specs.Nid.{type_of, is_type}
use Rattle.pst_mail.specs.Values.{is_message, listing_of}
use Rattle.pst_mail.specs.Grammar.{IsMessage, IsAttachment, IsFolder, HasProperties, Contents}
use Rattle.pst_msg.specs.Counts.{HasMessage, node, embedded, HasAttachment, attached, Names, of_store, of_root, of_names, of_folder, of_search, of_message, of_attachment, listed, recipients, attachments}
use Rattle.pst_msg.specs.Laws.{NamesLaw}
use Rattle.pst_remembered.specs.Roles.{role_fault}
use Rattle.pst_mail.proofs.MessageLaws.{message_facts, attachment_facts}

of_types : (nid : ℕ) → is_message nid ≡ true → (type_of nid ≡ MESSAGE) ⊎ (type_of nid ≡ ASSOCIATED)
of_types nid e = by_test (is_type MESSAGE nid) refl e
  where
    by_test : (v : Bool) → is_type MESSAGE nid ≡ v → v || is_type ASSOCIATED nid ≡ true → (type_of nid ≡ MESSAGE) ⊎ (type_of nid ≡ ASSOCIATED)
    by_test true p e = inl (eqb-true (type_of nid) MESSAGE p)
    by_test false p e = inr (eqb-true (type_of nid) ASSOCIATED e)

mutual
  has_message : (t : Table) (N : List NodeEntry) → Contents t N → (r : Roots) → HasMessage t N r → IsMessage t r
  has_message t N is r (node _ there m) = elim (of_types r.top m) [ inl e ↦ is.messages r there e | inr e ↦ is.associated r there e ]
  has_message t N is r (embedded parent _ o held names found) = (attachment_facts t parent (has_attachment t N is parent held)).each o r names found

  has_attachment : (t : Table) (N : List NodeEntry) → Contents t N → (r : Roots) → HasAttachment t N r → IsAttachment t r
  has_attachment t N is r (attached parent _ x held row found) = (message_facts t parent (has_message t N is parent held)).held.each x r row found

has_properties : (t : Table) (N : List NodeEntry) (nid : ℕ) (r : Roots) → HasProperties t N nid → node_in N nid ≡ Some r → IsPc t r
has_properties t N nid r has e = let same : Some has.0 ≡ Some r = sym has.1 ∙ e in let one : has.0 ≡ r = cc in rw (← one) has.2

listed_table : (t : Table) (N : List NodeEntry) (r s : Roots) (items : Items) → IsFolder t N r → listing_of N items r.top ≡ Some s → IsTc t s
listed_table t N r s Subfolders is e = (is.subfolders s e).0
listed_table t N r s Messages is e = (is.messages s e).0
listed_table t N r s Associated is e = (is.associated s e).0

named_fault : (t : Table) (N : List NodeEntry) → Contents t N → (role : Role) (r : Roots) → Names t N role r → role_fault t role r ≡ None
named_fault t N is _ r (of_store _ e) = pc_none t r (has_properties t N _ r is.store e)
named_fault t N is _ r (of_root _ e) = pc_none t r (has_properties t N _ r is.root e)
named_fault t N is _ r (of_names _ e) = pc_none t r (is.names r e).0
named_fault t N is _ r (of_folder _ w) = pc_none t r (is.folders r w.0 w.1).properties
named_fault t N is _ r (of_search _ w) = pc_none t r (is.searches r w.0 w.1)
named_fault t N is _ r (of_message _ held) = pc_none t r (message_facts t r (has_message t N is r held)).properties
named_fault t N is _ r (of_attachment _ held) = pc_none t r (attachment_facts t r (has_attachment t N is r held)).properties
named_fault t N is _ r (listed parent _ items w e) = tc_none t r (listed_table t N parent r items (is.folders parent w.0 w.1) e)
named_fault t N is _ r (recipients parent _ held e) = tc_none t r ((message_facts t parent (has_message t N is parent held)).held.recipients r e)
named_fault t N is _ r (attachments parent _ held e) = tc_none t r ((message_facts t parent (has_message t N is parent held)).held.attachments r e)

pub names_law : NamesLaw
names_law t N role r is names = named_fault t N is role r names
