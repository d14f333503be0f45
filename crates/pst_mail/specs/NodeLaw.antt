-- What the type of a node says of it.
use Rattle.std.specs.Prelude.{◌≡◌, ◌↔◌, None, List}
use Rattle.pst_page.specs.declared.entry.NodeEntry.{NodeEntry}
use Rattle.pst_block.specs.Table.{Table}
use Rattle.pst_subnode.specs.declared.check.TheConstants.{LISTS}
use Rattle.pst_subnode.specs.Tree.{sub_fault}
use Rattle.pst_ndb.specs.Roots.{Roots}
use Rattle.pst_pc.specs.Grammar.{IsPc}
use Rattle.pst_mail.specs.declared.nid.TheConstants.{FOLDER, SEARCH_FOLDER, MESSAGE, ASSOCIATED}
use Rattle.pst_mail.specs.Nid.{type_of}
use Rattle.pst_mail.specs.Fault.{typed_node_fault}
use Rattle.pst_mail.specs.Grammar.{IsFolder, IsMessage}

-- a node is what its type says: a folder, a search folder, or a message; of another type nothing is said
pub record IsAsTyped (t : Table) (nodes : List NodeEntry) (r : Roots) : Type 0 where
  pub folder : type_of r.top ≡ FOLDER → IsFolder t nodes r
  pub search_folder : type_of r.top ≡ SEARCH_FOLDER → IsPc t r
  pub message : type_of r.top ≡ MESSAGE → IsMessage t r
  pub associated : type_of r.top ≡ ASSOCIATED → IsMessage t r

-- A node whose subnodes have no fault is so exactly where it has no first fault.
abbrev pub NodeLaw : Type 0
NodeLaw =
    (t : Table) (nodes : List NodeEntry) (r : Roots) → sub_fault t LISTS r.bid_sub ≡ None → IsAsTyped t nodes r ↔ (typed_node_fault t nodes r ≡ None)
