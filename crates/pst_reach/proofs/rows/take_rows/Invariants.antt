use Rattle.std.proofs.Common.{◌≡◌, ℕ, true}
use Rattle.std.specs.Prelude.{is_some}
use Rattle.pst_ndb.specs.Views.{table_of_node, roots_of}
use Rattle.pst_tc.specs.Left.{tc_rows_left}
use Rattle.pst_tc.specs.Tc.{node_of_tc}
use Rattle.pst_tc.specs.Values.{tc_rows}
use Rattle.pst_reach.specs.Levels.{steps_named}
use Rattle.pst_intact.specs.View.{nodes_of_intact}
use Rattle.pst_reach.specs.Reach.{folders_named}
use Rattle.pst_reach.specs.Search.{reach_so_far, TookAllBut}
use Rattle.pst_reach.proofs.rows.take_rows.Given as goal

-- the rows but those that are left were taken, and what was found still is
abbrev pub invariant-loop-row : goal.invariant-loop-row
invariant-loop-row l = record {
  took : TookAllBut l.depth (steps_named l.parent (folders_named (nodes_of_intact l.intact) (tc_rows_left l.row-iterator))) (steps_named l.parent (folders_named (nodes_of_intact l.intact) (tc_rows (table_of_node (node_of_tc l.fn.table)) (roots_of (node_of_tc l.fn.table))))) l.fn.found l.fn.next l.found l.next;
  keeps : (nid : ℕ) → is_some (reach_so_far l.fn.found nid) ≡ true → is_some (reach_so_far l.found nid) ≡ true;
}
