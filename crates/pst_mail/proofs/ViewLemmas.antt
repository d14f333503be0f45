-- What the views of messages and attachments stand on.
use Rattle.std.proofs.Common.{◌≡◌, ℕ, Bool, true, false, List, [], ◌∷◌, cond, eqb, Option, Some, None, refl, sym, ap, ◌∙◌}
use Rattle.std.specs.Prelude.{option_map}
use Rattle.pst_fault.specs.declared.fault.Fault.{Fault}
use Rattle.pst_fault.specs.Each.{first_of}
use Rattle.pst_fault.proofs.EachLemmas.{of_none, each_first, each_rest}
use Rattle.pst_fault.proofs.FirstLemmas.{none_then}
use Rattle.pst_block.specs.Table.{Table}
use Rattle.pst_btree.specs.Entries.{first_with}
use Rattle.pst_subnode.specs.declared.check.TheConstants.{LISTS}
use Rattle.pst_subnode.specs.declared.sub.Sub.{Sub}
use Rattle.pst_subnode.specs.List.{sub_nid, subs_of}
use Rattle.pst_subnode.specs.Tree.{sub_fault}
use Rattle.pst_subnode.proofs.MapLaws.{found_subs}
use Rattle.pst_ndb.specs.declared.node.Node.{Node}
use Rattle.pst_ndb.specs.Roots.{Roots, sub_roots, subnode_of}
use Rattle.pst_ndb.specs.Views.{table_of_node, roots_of}
use Rattle.pst_pc.specs.Fault.{pc_fault}
use Rattle.pst_pc.proofs.PcLaws.{pc_none}
use Rattle.pst_tc.specs.declared.row.Row.{Row}
use Rattle.pst_tc.specs.declared.rows.Rows.{Rows}
use Rattle.pst_tc.specs.Fault.{tc_fault}
use Rattle.pst_tc.specs.Left.{tc_rows_left}
use Rattle.pst_tc.specs.Values.{RowParts, row_id_of, tc_rows}
use Rattle.pst_tc.specs.View.{row_parts}
use Rattle.pst_tc.proofs.TcLaws.{tc_none}
use Rattle.pst_mail.specs.declared.nid.TheConstants.{ATTACHMENTS, RECIPIENTS}
use Rattle.pst_mail.specs.declared.object.Object.{Object}
use Rattle.pst_mail.specs.Values.{embedded_of}
use Rattle.pst_mail.specs.Fault.{attachment_row_fault, message_fault, attachment_fault}
use Rattle.pst_mail.specs.Grammar.{IsAttachmentRow, IsAttachment, IsMessage}
use Rattle.pst_mail.specs.Left.{rows_of_rest, NameAttachments}
use Rattle.pst_mail.specs.Shown.{attachment_rows, rows_there}
use Rattle.pst_mail.proofs.MessageLaws.{MessageFacts, message_facts, AttachmentFacts, attachment_facts, message_law, attachment_law, row_none as row_has_none, none_row}

-- ---- subnodes keep their limit

mapped_sound : (t : Table) (limit nid : ℕ) (r s : Roots) (found : Option Sub) → sub_fault t limit r.bid_sub ≡ None → first_with sub_nid nid (subs_of t r.bid_sub) ≡ found → option_map (sub_roots r) found ≡ Some s → sub_fault t limit s.bid_sub ≡ None
mapped_sound t limit nid r s None h is e = cc
mapped_sound t limit nid r s (Some x) h is e = let same : sub_roots r x ≡ s = cc in rw (← same) (found_subs t limit r.bid_sub nid x h is)

pub subnode_sound : (t : Table) (limit nid : ℕ) (r s : Roots) → sub_fault t limit r.bid_sub ≡ None → subnode_of t r nid ≡ Some s → sub_fault t limit s.bid_sub ≡ None
unfolding subnode_of
subnode_sound t limit nid r s h e = mapped_sound t limit nid r s (first_with sub_nid nid (subs_of t r.bid_sub)) h refl e

-- ---- by the grammar

pub is_message : (node : Node) → message_fault (table_of_node node) (roots_of node) ≡ None → IsMessage (table_of_node node) (roots_of node)
is_message node none = (message_law (table_of_node node) (roots_of node) node.subs).1 none

pub is_attachment : (node : Node) → attachment_fault (table_of_node node) (roots_of node) ≡ None → IsAttachment (table_of_node node) (roots_of node)
is_attachment node none = (attachment_law (table_of_node node) (roots_of node) node.subs).1 none

-- ---- what a message and an attachment without fault have

facts_of_message : (node : Node) → message_fault (table_of_node node) (roots_of node) ≡ None → MessageFacts (table_of_node node) (IsAttachment (table_of_node node)) (roots_of node)
facts_of_message node none = message_facts (table_of_node node) (roots_of node) (is_message node none)

facts_of_attachment : (node : Node) → attachment_fault (table_of_node node) (roots_of node) ≡ None → AttachmentFacts (table_of_node node) (IsMessage (table_of_node node)) (roots_of node)
facts_of_attachment node none = attachment_facts (table_of_node node) (roots_of node) (is_attachment node none)

pub message_properties : (node : Node) → message_fault (table_of_node node) (roots_of node) ≡ None → pc_fault (table_of_node node) (roots_of node) ≡ None
message_properties node none = pc_none (table_of_node node) (roots_of node) (facts_of_message node none).properties

pub attachment_properties : (node : Node) → attachment_fault (table_of_node node) (roots_of node) ≡ None → pc_fault (table_of_node node) (roots_of node) ≡ None
attachment_properties node none = pc_none (table_of_node node) (roots_of node) (facts_of_attachment node none).properties

pub message_recipients : (node s : Node) → message_fault (table_of_node node) (roots_of node) ≡ None → Some (roots_of s) ≡ subnode_of (table_of_node node) (roots_of node) RECIPIENTS → table_of_node s ≡ table_of_node node → tc_fault (table_of_node s) (roots_of s) ≡ None
message_recipients node s none is same = rw same (tc_none (table_of_node node) (roots_of s) ((facts_of_message node none).held.recipients (roots_of s) (sym is)))

pub message_attachments : (node s : Node) → message_fault (table_of_node node) (roots_of node) ≡ None → Some (roots_of s) ≡ subnode_of (table_of_node node) (roots_of node) ATTACHMENTS → table_of_node s ≡ table_of_node node → tc_fault (table_of_node s) (roots_of s) ≡ None
message_attachments node s none is same = rw same (tc_none (table_of_node node) (roots_of s) ((facts_of_message node none).held.attachments (roots_of s) (sym is)))

-- ---- the rows of its attachment table

pub rows_are : (t u : Table) (r table : Roots) → Some table ≡ subnode_of t r ATTACHMENTS → u ≡ t → tc_rows u table ≡ attachment_rows t r
unfolding attachment_rows
rows_are t u r table is same = rw (same, ← is) refl

pub rows_none : (t : Table) (r : Roots) → None ≡ subnode_of t r ATTACHMENTS → [] ≡ attachment_rows t r
unfolding attachment_rows
rows_none t r is = rw (← is) refl

pub row_none : (t : Table) (r : Roots) (nid : ℕ) → None ≡ subnode_of t r ATTACHMENTS → None ≡ first_with row_id_of nid (attachment_rows t r)
unfolding attachment_rows first_with
row_none t r nid is = rw (← is) refl

each_row : (t : Table) (r : Roots) (o : Option Roots) → subnode_of t r ATTACHMENTS ≡ o → sub_fault t LISTS r.bid_sub ≡ None → MessageFacts t (IsAttachment t) r → NameAttachments t r (rows_there t o)
unfolding first_of
each_row t r None e sound facts = refl
each_row t r (Some table) e sound facts =
    of_none (attachment_row_fault t (attachment_fault t) r 0) (tc_rows t table)
    (λ x w. let row : IsAttachmentRow t r x = (table, e, w) in let names = facts.held.names x row in row_has_none t (attachment_fault t) r 0 x names.0 names.1 (λ s is. (attachment_law t s (subnode_sound t LISTS x.id r s sound is)).0 (facts.held.each x s row is)))

pub rows_sound : (node : Node) → message_fault (table_of_node node) (roots_of node) ≡ None → NameAttachments (table_of_node node) (roots_of node) (attachment_rows (table_of_node node) (roots_of node))
unfolding attachment_rows
rows_sound node none =
    let t = table_of_node node in
    let r = roots_of node in
    each_row t r (subnode_of t r ATTACHMENTS) refl node.subs (facts_of_message node none)

-- a row that is found has no fault
found_row : {X : Type 0} (part : X → Option Fault) (key_in : X → ℕ) (key : ℕ) (xs : List X) (x : X) → first_of part xs ≡ None → first_with key_in key xs ≡ Some x → part x ≡ None
unfolding first_of first_with
found_row part key_in key [] x none found = cc
found_row part key_in key (y ∷ rest) x none found = let both = none_then (part y) (first_of part rest) none in by_test (eqb (key_in y) key) both.0 (λ h. found_row part key_in key rest x both.1 h) found
  where
    by_test : (here : Bool) → part y ≡ None → (first_with key_in key rest ≡ Some x → part x ≡ None) → cond here (Some y) (first_with key_in key rest) ≡ Some x → part x ≡ None
    by_test true this later h = let same : y ≡ x = cc in ap part (sym same) ∙ this
    by_test false this later h = later h

-- a row without fault names a subnode
pub row_there : (t : Table) (below : Roots → Option Fault) (r : Roots) (bid : ℕ) (x : RowParts) → attachment_row_fault t below r bid x ≡ None → None ≡ subnode_of t r x.id → ⊥
row_there t below r bid x none is = let found = (none_row t below r bid x none).found in let bad : None ≡ Some found.0 = is ∙ found.1 in cc

-- and that has none
pub row_sound : (t u : Table) (r : Roots) (bid : ℕ) (x : RowParts) (s : Node) → attachment_row_fault t (attachment_fault t) r bid x ≡ None → Some (roots_of s) ≡ subnode_of t r x.id → u ≡ t → attachment_fault u (roots_of s) ≡ None
row_sound t u r bid x s none is same = rw same ((none_row t (attachment_fault t) r bid x none).each (roots_of s) (sym is))

-- ---- a row of a message that is found

row_of_message : (node : Node) (nid : ℕ) (x : RowParts) → message_fault (table_of_node node) (roots_of node) ≡ None → Some x ≡ first_with row_id_of nid (attachment_rows (table_of_node node) (roots_of node)) → attachment_row_fault (table_of_node node) (attachment_fault (table_of_node node)) (roots_of node) 0 x ≡ None
row_of_message node nid x none is = found_row (attachment_row_fault (table_of_node node) (attachment_fault (table_of_node node)) (roots_of node) 0) row_id_of nid (attachment_rows (table_of_node node) (roots_of node)) x (rows_sound node none) (sym is)

pub found_there : (node : Node) (nid own : ℕ) (x : RowParts) → message_fault (table_of_node node) (roots_of node) ≡ None → Some x ≡ first_with row_id_of nid (attachment_rows (table_of_node node) (roots_of node)) → own ≡ x.id → None ≡ subnode_of (table_of_node node) (roots_of node) own → ⊥
found_there node nid own x none is same missing = row_there (table_of_node node) (attachment_fault (table_of_node node)) (roots_of node) 0 x (row_of_message node nid x none is) (rw same at missing)

pub found_attachment : (node s : Node) (nid own : ℕ) (x : RowParts) → message_fault (table_of_node node) (roots_of node) ≡ None → Some x ≡ first_with row_id_of nid (attachment_rows (table_of_node node) (roots_of node)) → own ≡ x.id → Some (roots_of s) ≡ subnode_of (table_of_node node) (roots_of node) own → table_of_node s ≡ table_of_node node → attachment_fault (table_of_node s) (roots_of s) ≡ None
found_attachment node s nid own x none is its there same = row_sound (table_of_node node) (table_of_node s) (roots_of node) 0 x s (row_of_message node nid x none is) (rw its at there) same

-- ---- what an attachment embeds

pub object_there : (node : Node) (o : Object) → attachment_fault (table_of_node node) (roots_of node) ≡ None → Some o ≡ embedded_of (table_of_node node) (roots_of node) → None ≡ subnode_of (table_of_node node) (roots_of node) o.nid → ⊥
object_there node o none embeds is =
    let found = (facts_of_attachment node none).names o (sym embeds) in
    let bad : None ≡ Some found.0 = is ∙ found.1 in cc

pub object_sound : (node s : Node) (o : Object) → attachment_fault (table_of_node node) (roots_of node) ≡ None → Some o ≡ embedded_of (table_of_node node) (roots_of node) → Some (roots_of s) ≡ subnode_of (table_of_node node) (roots_of node) o.nid → table_of_node s ≡ table_of_node node → message_fault (table_of_node s) (roots_of s) ≡ None
object_sound node s o none embeds is same =
    let t = table_of_node node in
    let r = roots_of node in
    rw same ((message_law t (roots_of s) (subnode_sound t LISTS o.nid r (roots_of s) node.subs (sym is))).0 ((facts_of_attachment node none).each o (roots_of s) (sym embeds) (sym is)))

-- ---- a row of those that are left

next_row : (node : Node) (old : Option Rows) (rows new : Rows) (row : Row) → NameAttachments (table_of_node node) (roots_of node) (rows_of_rest old) → old ≡ Some rows → tc_rows_left rows ≡ row_parts row ∷ tc_rows_left new → attachment_row_fault (table_of_node node) (attachment_fault (table_of_node node)) (roots_of node) 0 (row_parts row) ≡ None
next_row node old rows new row sound is step = each_first (attachment_row_fault (table_of_node node) (attachment_fault (table_of_node node)) (roots_of node) 0) (tc_rows_left rows) (tc_rows_left new) (row_parts row) (rw is at sound) step

pub next_left : (node : Node) (old : Option Rows) (rows new : Rows) (row : Row) → NameAttachments (table_of_node node) (roots_of node) (rows_of_rest old) → old ≡ Some rows → tc_rows_left rows ≡ row_parts row ∷ tc_rows_left new → NameAttachments (table_of_node node) (roots_of node) (tc_rows_left new)
next_left node old rows new row sound is step = each_rest (attachment_row_fault (table_of_node node) (attachment_fault (table_of_node node)) (roots_of node) 0) (tc_rows_left rows) (tc_rows_left new) (row_parts row) (rw is at sound) step

pub next_there : (node : Node) (old : Option Rows) (rows new : Rows) (row : Row) (nid : ℕ) → NameAttachments (table_of_node node) (roots_of node) (rows_of_rest old) → old ≡ Some rows → tc_rows_left rows ≡ row_parts row ∷ tc_rows_left new → nid ≡ (row_parts row).id → None ≡ subnode_of (table_of_node node) (roots_of node) nid → ⊥
next_there node old rows new row nid sound is step own missing = row_there (table_of_node node) (attachment_fault (table_of_node node)) (roots_of node) 0 (row_parts row) (next_row node old rows new row sound is step) (rw own at missing)

pub next_sound : (node s : Node) (old : Option Rows) (rows new : Rows) (row : Row) (nid : ℕ) → NameAttachments (table_of_node node) (roots_of node) (rows_of_rest old) → old ≡ Some rows → tc_rows_left rows ≡ row_parts row ∷ tc_rows_left new → nid ≡ (row_parts row).id → Some (roots_of s) ≡ subnode_of (table_of_node node) (roots_of node) nid → table_of_node s ≡ table_of_node node → attachment_fault (table_of_node s) (roots_of s) ≡ None
next_sound node s old rows new row nid sound is step own there same = row_sound (table_of_node node) (table_of_node s) (roots_of node) 0 (row_parts row) s (next_row node old rows new row sound is step) (rw own at there) same
