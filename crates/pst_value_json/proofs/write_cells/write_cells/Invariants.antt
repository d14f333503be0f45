use Rattle.std.proofs.Common.{◌≡◌, ◌++◌, List, map, drop}
use Rattle.serde_json.specs.Data.{Data}
use Rattle.pst_ndb.specs.Views.{table_of_node, roots_of}
use Rattle.pst_tc.specs.Tc.{node_of_tc}
use Rattle.pst_tc.specs.View.{column_of, row_parts, tc_of_row}
use Rattle.pst_value_json.specs.Cells.{cell_data, cells_of}
use Rattle.pst_value_json.proofs.write_cells.write_cells.Given as goal

-- what stands there, and the cells in the columns that are left, are all
abbrev pub invariant-loop-column : goal.invariant-loop-column
invariant-loop-column g l =
    let node = node_of_tc (tc_of_row l.row) in
    let cells = cells_of (table_of_node node) (roots_of node) (row_parts l.row).place.at in
    record {
      list : (done : List Data) × (g.P.Pen.InList l.fn.pen l.pen l.later done)
          × (done ++ map (cell_data l.places) (cells (map column_of (drop l.column-index l.columns))) ≡ map (cell_data l.places) (cells (map column_of l.columns)));
      kept : (base : g.row.P.Denot) → g.P.Pen.Keeps base l.fn.pen → g.P.Pen.Keeps base l.pen;
    }
