use Rattle.std.proofs.Common.{◌≡◌, ◌++◌, List, map}
use Rattle.serde_json.specs.Data.{Data}
use Rattle.pst_ndb.specs.Views.{table_of_node, roots_of}
use Rattle.pst_tc.specs.Left.{tc_left, tc_rows_left}
use Rattle.pst_tc.specs.Tc.{node_of_tc}
use Rattle.pst_tc.specs.Values.{tc_rows}
use Rattle.pst_value_json.specs.Cells.{table_row_data}
use Rattle.pst_value_json.proofs.cells.write_table.Given as goal

-- what stands there, and the rows that are left, are all
abbrev pub invariant-loop-row : goal.invariant-loop-row
invariant-loop-row g l =
    let node = node_of_tc l.tc in
    let t = table_of_node node in
    let r = roots_of node in
    let shown = table_row_data l.places t r in
    record {
      list : (done : List Data) × (g.P.Pen.InList l.fn.pen l.pen l.later done) × (done ++ map shown (tc_rows_left l.row-iterator) ≡ map shown (tc_rows t r));
      tc : tc_left l.row-iterator ≡ l.tc;
      kept : (base : g.row.P.Denot) → g.P.Pen.Keeps base l.fn.pen → g.P.Pen.Keeps base l.pen;
    }
