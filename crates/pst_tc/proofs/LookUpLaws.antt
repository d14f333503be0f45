-- What the look-ups of a table context answer.
use Rattle.std.proofs.Common.{ℕ, Option, ◌∙◌, subst}
use Rattle.pst_datatree.specs.declared.value_view.Value.{Value}
use Rattle.pst_ndb.specs.Views.{image_of_node, table_of_node, roots_of}
use Rattle.pst_value.specs.View.{IsValueOf}
use Rattle.pst_tc.specs.declared.tc.Tc.{Tc}
use Rattle.pst_tc.specs.declared.row.Row.{Row}
use Rattle.pst_tc.specs.Values.{tc_cell}
use Rattle.pst_tc.specs.Tc.{node_of_tc}
use Rattle.pst_tc.specs.View.{row_parts}
use Rattle.pst_tc.specs.Left.{MayBeRowOf}
use Rattle.pst_tc.specs.LookUps.{TcLookUpsLaw}
use Rattle.pst_tc.proofs.TcLaws.{none_tc}

-- the value of a cell, of the node of its table
abbrev IsCellOf : Row → ℕ → Option Value → Tc → Type 0
IsCellOf row tag found tc =
    let node = node_of_tc tc in
    IsValueOf (image_of_node node) (tc_cell (table_of_node node) (roots_of node) (row_parts row).place.at tag) found

pub look_ups_law : TcLookUpsLaw
look_ups_law tc = record {
  context = none_tc (table_of_node (node_of_tc tc)) (roots_of (node_of_tc tc)) tc.sound;
  columns = λ all is. is;
  rows = λ all is. is;
  row_count = λ n is. is;
  next = λ old new taken own is. (is.0, subst (λ x. MayBeRowOf x taken) own is.1, is.2 ∙ own);
  row = λ id found is. is;
  cell = λ row tag found own is. subst (IsCellOf row tag found) own is;
}
