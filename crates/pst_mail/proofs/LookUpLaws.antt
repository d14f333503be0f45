-- What the look-ups of folders, messages and attachments answer.
use Rattle.std.proofs.Common.{◌≡◌, Option, Some, None, refl, sym, ◌∙◌, subst}
use Rattle.std.specs.Prelude.{IfSome}
use Rattle.pst_bytes.specs.declared.Image.{Image}
use Rattle.pst_block.specs.Table.{Table}
use Rattle.pst_ndb.specs.declared.node.Node.{Node}
use Rattle.pst_datatree.specs.Data.{data_spans}
use Rattle.pst_datatree.proofs.RelationLemmas.{data_law}
use Rattle.pst_subnode.specs.declared.check.TheConstants.{LISTS}
use Rattle.pst_subnode.specs.List.{subs_of}
use Rattle.pst_subnode.specs.Tree.{sub_height}
use Rattle.pst_subnode.proofs.TreeLaws.{sub_law}
use Rattle.pst_ndb.specs.Views.{image_of_node, image_of_ndb, table_of_node, table_of_ndb, data_bid_of, sub_bid_of, roots_of}
use Rattle.pst_pc.specs.declared.pc.Pc.{Pc}
use Rattle.pst_pc.specs.View.{node_of_pc}
use Rattle.pst_pc.specs.LookUps.{PcLookUps}
use Rattle.pst_pc.proofs.LookUpLaws.{look_ups_law as pc_law}
use Rattle.pst_tc.specs.declared.tc.Tc.{Tc}
use Rattle.pst_tc.specs.Tc.{node_of_tc}
use Rattle.pst_tc.specs.LookUps.{TcLookUps}
use Rattle.pst_tc.proofs.LookUpLaws.{look_ups_law as tc_law}
use Rattle.pst_names.specs.declared.name_map.NameMap.{NameMap}
use Rattle.pst_names.specs.LookUps.{NameMapLookUps}
use Rattle.pst_names.specs.View.{node_of_names, names_roots}
use Rattle.pst_names.proofs.NameLaws.{look_ups_law as names_law}
use Rattle.pst_mail.specs.declared.attachment_view.Attachment.{Attachment}
use Rattle.pst_mail.specs.declared.message_view.Message.{Message}
use Rattle.pst_mail.specs.View.{tc_roots, ndb_of_folder, node_of_folder, node_of_message, node_of_attachment}
use Rattle.pst_mail.specs.NodeLookUps.{IsNodeOf, NodeLookUps}
use Rattle.pst_mail.specs.LookUps.{PropertiesOf, MessageLookUps, AttachmentLookUps, FolderLookUpsLaw, ViewLookUpsLaw}
use Rattle.pst_mail.proofs.FolderLemmas.{is_typed}
use Rattle.pst_mail.proofs.ViewLemmas.{is_message, is_attachment}

-- ---- nodes

node_found : (file : Image) (t : Table) (found : Option Node) → IfSome found (λ s. image_of_node s ≡ file) → IfSome found (λ s. table_of_node s ≡ t) → IfSome found (IsNodeOf file t)
node_found file t None image table = tt
node_found file t (Some s) image table = (image, table)

own_node : (n : Node) → NodeLookUps (image_of_node n) (table_of_node n) n
own_node n =
    let t = table_of_node n in
    let subs = subs_of t (sub_bid_of n) in
    let height = sub_height t LISTS (sub_bid_of n) in record {
      content = (data_law t (data_bid_of n) (data_spans t (data_bid_of n))).1 (n.content, refl);
      list = (height, ((sub_law t LISTS (sub_bid_of n) height subs).1 (n.subs, refl, refl)).0);
      bytes = λ v is. is;
      sub = λ nid found is. (is.0, node_found (image_of_node n) t found is.1 is.2, is.3);
    }

node_of_file : (file : Image) (t : Table) (n : Node) → IsNodeOf file t n → NodeLookUps file t n
node_of_file file t n own =
    subst (λ i. NodeLookUps i t n) own.0 (subst (λ u. NodeLookUps (image_of_node n) u n) own.1 (own_node n))

-- ---- contexts

pc_of : (file : Image) (t : Table) (pc : Pc) → IsNodeOf file t (node_of_pc pc) → PcLookUps file t (roots_of (node_of_pc pc)) pc
pc_of file t pc own =
    let r = roots_of (node_of_pc pc) in
    subst (λ i. PcLookUps i t r pc) own.0 (subst (λ u. PcLookUps (image_of_node (node_of_pc pc)) u r pc) own.1 (pc_law pc))

tc_of : (file : Image) (t : Table) (tc : Tc) → IsNodeOf file t (node_of_tc tc) → TcLookUps file t (tc_roots tc) tc
tc_of file t tc own =
    let r = tc_roots tc in
    subst (λ i. TcLookUps i t r tc) own.0 (subst (λ u. TcLookUps (image_of_node (node_of_tc tc)) u r tc) own.1 (tc_law tc))

names_of : (file : Image) (t : Table) (m : NameMap) → IsNodeOf file t (node_of_names m) → NameMapLookUps file t (names_roots m) m
names_of file t m own =
    let r = names_roots m in
    subst (λ i. NameMapLookUps i t r m) own.0 (subst (λ u. NameMapLookUps (image_of_node (node_of_names m)) u r m) own.1 (names_law m))

properties_of : (file : Image) (t : Table) (n : Node) → IsNodeOf file t n → PropertiesOf file t n
properties_of file t n own pc is = subst (λ m. PcLookUps file t (roots_of m) pc) is (pc_of file t pc (subst (λ m. IsNodeOf file t m) (sym is) own))

table_found : (file : Image) (t : Table) (found : Option Tc) → IfSome found (λ tc. table_of_node (node_of_tc tc) ≡ t)
    → IfSome found (λ tc. image_of_node (node_of_tc tc) ≡ file) → IfSome found (λ tc. TcLookUps file t (tc_roots tc) tc)
table_found file t None table image = tt
table_found file t (Some tc) table image = tc_of file t tc (image, table)

-- ---- what a look-up found

attachment_found : (file : Image) (t : Table) (found : Option Attachment) → IfSome found (λ a. table_of_node (node_of_attachment a) ≡ t)
    → IfSome found (λ a. image_of_node (node_of_attachment a) ≡ file) → IfSome found (λ a. IsNodeOf file t (node_of_attachment a))
attachment_found file t None table image = tt
attachment_found file t (Some a) table image = (image, table)

message_found : (file : Image) (t : Table) (found : Option Message) → IfSome found (λ m. table_of_node (node_of_message m) ≡ t)
    → IfSome found (λ m. image_of_node (node_of_message m) ≡ file) → IfSome found (λ m. IsNodeOf file t (node_of_message m))
message_found file t None table image = tt
message_found file t (Some m) table image = (image, table)

-- ---- folders

pub folder_law : FolderLookUpsLaw
folder_law f =
    let ndb = ndb_of_folder f in
    let file = image_of_ndb ndb in
    let t = table_of_ndb ndb in record {
      folder = is_typed ndb (node_of_folder f) f.table f.sound;
      pc = properties_of file t (node_of_folder f) (f.image, f.table);
      hierarchy = λ found is. (is.0, table_found file t found is.1 is.2);
      contents = λ found is. (is.0, table_found file t found is.1 is.2);
      associated = λ found is. (is.0, table_found file t found is.1 is.2);
    }

-- ---- messages and attachments, in the words of their own nodes

own_message : (m : Message) → MessageLookUps (image_of_node (node_of_message m)) (table_of_node (node_of_message m)) m
own_message m =
    let n = node_of_message m in record {
      message = is_message n m.sound;
      pc = properties_of (image_of_node n) (table_of_node n) n (refl, refl);
      recipients = λ found is. (is.0, table_found (image_of_node n) (table_of_node n) found is.1 is.2);
      attachment_table = λ found is. (is.0, table_found (image_of_node n) (table_of_node n) found is.1 is.2);
      attachments = λ all is. is;
      next = λ old new taken own is. (
        is.0,
        is.1 ∙ own,
        subst (λ h. IfSome taken (λ a. IsNodeOf (image_of_node h) (table_of_node h) (node_of_attachment a))) own (attachment_found _ _ taken is.2 is.3),
      );
      attachment = λ nid found is. (is.0, attachment_found (image_of_node n) (table_of_node n) found is.1 is.2);
    }

own_attachment : (a : Attachment) → AttachmentLookUps (image_of_node (node_of_attachment a)) (table_of_node (node_of_attachment a)) a
own_attachment a =
    let n = node_of_attachment a in record {
      attachment = is_attachment n a.sound;
      pc = properties_of (image_of_node n) (table_of_node n) n (refl, refl);
      embedded = λ found is. (is.0, message_found (image_of_node n) (table_of_node n) found is.1 is.2);
    }

-- ---- and in those of a file

message_of : (file : Image) (t : Table) (m : Message) → IsNodeOf file t (node_of_message m) → MessageLookUps file t m
message_of file t m own =
    subst (λ i. MessageLookUps i t m) own.0 (subst (λ u. MessageLookUps (image_of_node (node_of_message m)) u m) own.1 (own_message m))

attachment_of : (file : Image) (t : Table) (a : Attachment) → IsNodeOf file t (node_of_attachment a) → AttachmentLookUps file t a
attachment_of file t a own =
    subst (λ i. AttachmentLookUps i t a) own.0 (subst (λ u. AttachmentLookUps (image_of_node (node_of_attachment a)) u a) own.1 (own_attachment a))

pub views_law : ViewLookUpsLaw
views_law file t = record {
  node = node_of_file file t;
  pc = pc_of file t;
  tc = tc_of file t;
  names = names_of file t;
  message = message_of file t;
  attachment = attachment_of file t;
}
