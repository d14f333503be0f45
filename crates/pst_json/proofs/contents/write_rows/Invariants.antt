use Rattle.std.proofs.Common.{◌≡◌, ◌++◌, List, map}
use Rattle.serde_json.specs.Data.{Data}
use Rattle.pst_ndb.specs.NodeIndexes.{AreNodeIndexes}
use Rattle.pst_ndb.specs.Views.{table_of_node, roots_of}
use Rattle.pst_intact.specs.View.{table_of_intact, nodes_of_intact}
use Rattle.pst_whole.specs.View.{lost_in}
use Rattle.pst_value_json.specs.pst_tc.Left.{tc_rows_left}
use Rattle.pst_value_json.specs.pst_tc.Tc.{node_of_tc}
use Rattle.pst_value_json.specs.pst_tc.Values.{tc_rows}
use Rattle.pst_json.specs.Contents.{listed_row_data}
use Rattle.pst_json.proofs.contents.write_rows.Given as goal

-- what stands there, and the rows that are left, are all
abbrev pub invariant-loop-row : goal.invariant-loop-row
invariant-loop-row g l =
    let t = table_of_intact l.intact in
    let node = node_of_tc l.fn.table in
    let shown = listed_row_data t (nodes_of_intact l.intact) (lost_in l.lost) in
    record {
      list : (done : List Data) × (g.P.Pen.InList l.fn.pen l.pen l.later done) × (done ++ map shown (tc_rows_left l.row-iterator) ≡ map shown (tc_rows (table_of_node node) (roots_of node)));
      known : AreNodeIndexes t l.index;
      kept : (base : g.row.P.Denot) → g.P.Pen.Keeps base l.fn.pen → g.P.Pen.Keeps base l.pen;
    }
