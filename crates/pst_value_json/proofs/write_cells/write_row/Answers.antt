use Rattle.std.proofs.Common.{map, refl}
use Rattle.std.specs.Prelude.{codes}
use Rattle.serde_json.specs.Data.{Data, Members, member, no_members}
use Rattle.pst_ndb.specs.Views.{table_of_node, roots_of}
use Rattle.pst_tc.specs.Tc.{node_of_tc}
use Rattle.pst_tc.specs.View.{column_of, row_parts, tc_of_row}
use Rattle.pst_value_json.specs.Cells.{cell_data, cells_of, row_data}
use Rattle.pst_text.specs.Names.{nid_data}
use Rattle.pst_text.specs.Parts.{list_data}
use Rattle.pst_value_json.proofs.PenLemmas.{begun}
use Rattle.pst_value_json.proofs.write_cells.write_row.Goals as goal

pub returns-clause-put : goal.returns-clause-put
unfolding row_data
returns-clause-put g c =
    let node = node_of_tc (tc_of_row c.args.row) in
    let cells : Data = list_data (cell_data c.args.places) (cells_of (table_of_node node) (roots_of node) (row_parts c.args.row).place.at (map column_of c.args.columns.now)) in
    let one : Members = member (codes "cells") cells no_members in
    let first = begun g.P.Pen.Puts g.P.Pen.AtKey _ _ _ no_members (codes "cells") cells c.in_ok-first.ensures.put c.in_ok-write_cells.ensures.put refl in
    let second = begun g.P.Pen.Puts g.P.Pen.AtKey _ _ _ one (codes "row") (nid_data c.id.result) (c.in_ok-next.ensures.put _ one first) c.in_ok-leaf.ensures.put refl in
    rw c.id.ensures at (c.close.ensures.put _ _ second)
