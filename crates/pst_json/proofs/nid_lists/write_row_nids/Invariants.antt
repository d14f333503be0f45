use Rattle.std.proofs.Common.{◌≡◌, ◌++◌, List, map}
use Rattle.serde_json.specs.Data.{Data}
use Rattle.pst_ndb.specs.Views.{table_of_node, roots_of}
use Rattle.pst_value_json.specs.pst_tc.Left.{tc_rows_left}
use Rattle.pst_value_json.specs.pst_tc.Tc.{node_of_tc}
use Rattle.pst_value_json.specs.pst_tc.Values.{tc_rows}
use Rattle.pst_json.specs.Folders.{row_nid}
use Rattle.pst_json.proofs.nid_lists.write_row_nids.Given as goal

-- what stands there, and the rows that are left, are all
abbrev pub invariant-loop-row : goal.invariant-loop-row
invariant-loop-row g l = record {
  list : (done : List Data) × (g.P.Pen.InList l.fn.pen l.pen l.later done)
      × (done ++ map row_nid (tc_rows_left l.row-iterator) ≡ map row_nid (tc_rows (table_of_node (node_of_tc l.tc)) (roots_of (node_of_tc l.tc))));
  kept : (base : g.row.P.Denot) → g.P.Pen.Keeps base l.fn.pen → g.P.Pen.Keeps base l.pen;
}
