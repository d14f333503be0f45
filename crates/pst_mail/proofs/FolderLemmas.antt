-- What the view of a folder stands on.
use Rattle.std.proofs.Common.{◌≡◌, Bool, true, false, List, Some, None, refl, sym, subst, ◌∙◌}
use Rattle.std.specs.Prelude.{◌||◌}
use Rattle.std.proofs.lemmas.Bool.{eqb-true}
use Rattle.pst_page.specs.declared.entry.NodeEntry.{NodeEntry}
use Rattle.pst_block.specs.Table.{Table}
use Rattle.pst_subnode.specs.declared.check.TheConstants.{LISTS}
use Rattle.pst_subnode.specs.Tree.{sub_fault}
use Rattle.pst_ndb.specs.declared.ndb.Ndb.{Ndb}
use Rattle.pst_ndb.specs.declared.node.Node.{Node}
use Rattle.pst_ndb.specs.Roots.{Roots}
use Rattle.pst_ndb.specs.Views.{table_of_ndb, nodes_of, table_of_node, top_of, roots_of}
use Rattle.pst_pc.specs.Fault.{pc_fault}
use Rattle.pst_pc.proofs.PcLaws.{pc_none}
use Rattle.pst_tc.specs.Fault.{tc_fault}
use Rattle.pst_tc.proofs.TcLaws.{tc_none}
use Rattle.pst_mail.specs.declared.items.Items.{Items}
use Rattle.pst_mail.specs.declared.items.Items.TheVariants.{Subfolders, Messages, Associated}
use Rattle.pst_mail.specs.declared.nid.TheConstants.{FOLDER, SEARCH_FOLDER, MESSAGE, ASSOCIATED}
use Rattle.pst_mail.specs.Nid.{type_of, is_type}
use Rattle.pst_mail.specs.Values.{is_folder, is_message, listing_of}
use Rattle.pst_mail.specs.Fault.{message_fault, typed_node_fault}
use Rattle.pst_mail.specs.Grammar.{IsFolder, Lists}
use Rattle.pst_mail.specs.NodeLaw.{IsAsTyped}
use Rattle.pst_mail.proofs.ContentsLaws.{none_folder, node_law, node_is_folder, node_is_search, node_is_message, node_is_associated}

either : {P : Type 0} (a b : Bool) → (a || b) ≡ true → (a ≡ true → P) → (b ≡ true → P) → P
either true b e f g = f refl
either false b e f g = g e

-- a node of a message's type is a message
pub of_message : (t : Table) (nodes : List NodeEntry) (r : Roots) → typed_node_fault t nodes r ≡ None → is_message r.top ≡ true → message_fault t r ≡ None
of_message t nodes r none is =
    either (is_type MESSAGE r.top) (is_type ASSOCIATED r.top) is
    (λ e. sym (node_is_message t nodes r (eqb-true (type_of r.top) MESSAGE e)) ∙ none)
    (λ e. sym (node_is_associated t nodes r (eqb-true (type_of r.top) ASSOCIATED e)) ∙ none)

of_folder : (t : Table) (nodes : List NodeEntry) (r : Roots) → typed_node_fault t nodes r ≡ None → is_type FOLDER r.top ≡ true → IsFolder t nodes r
of_folder t nodes r none is = none_folder t nodes r (sym (node_is_folder t nodes r (eqb-true (type_of r.top) FOLDER is)) ∙ none)

-- a node is what its type says
pub is_typed : (ndb : Ndb) (node : Node) → table_of_node node ≡ table_of_ndb ndb → typed_node_fault (table_of_ndb ndb) (nodes_of ndb) (roots_of node) ≡ None → IsAsTyped (table_of_ndb ndb) (nodes_of ndb) (roots_of node)
is_typed ndb node same none = (node_law (table_of_ndb ndb) (nodes_of ndb) (roots_of node) (subst (λ t. sub_fault t LISTS (roots_of node).bid_sub ≡ None) same node.subs)).1 none

pub folder_properties : (ndb : Ndb) (node : Node) → table_of_node node ≡ table_of_ndb ndb → is_folder (top_of node) ≡ true → typed_node_fault (table_of_ndb ndb) (nodes_of ndb) (roots_of node) ≡ None → pc_fault (table_of_node node) (roots_of node) ≡ None
folder_properties ndb node same kind none =
    let t = table_of_ndb ndb in
    let r = roots_of node in
    rw same (either (is_type FOLDER r.top) (is_type SEARCH_FOLDER r.top) kind
    (λ e. pc_none t r (of_folder t (nodes_of ndb) r none e).properties)
    (λ e. sym (node_is_search t (nodes_of ndb) r (eqb-true (type_of r.top) SEARCH_FOLDER e)) ∙ none))

lists : (t : Table) (nodes : List NodeEntry) (items : Items) (r : Roots) → IsFolder t nodes r → Lists t nodes items r
lists t nodes Subfolders r is = is.subfolders
lists t nodes Messages r is = is.messages
lists t nodes Associated r is = is.associated

pub folder_tables : (ndb : Ndb) (node table : Node) (items : Items) → typed_node_fault (table_of_ndb ndb) (nodes_of ndb) (roots_of node) ≡ None → is_type FOLDER (top_of node) ≡ true → Some (roots_of table) ≡ listing_of (nodes_of ndb) items (top_of node) → table_of_node table ≡ table_of_ndb ndb → tc_fault (table_of_node table) (roots_of table) ≡ None
folder_tables ndb node table items none kind is same =
    let t = table_of_ndb ndb in
    rw same (tc_none t (roots_of table) (lists t (nodes_of ndb) items (roots_of node) (of_folder t (nodes_of ndb) (roots_of node) none kind) (roots_of table) (sym is)).0)
