use Rattle.std.proofs.Common.{[], refl, subst, rules}
use Rattle.std.specs.Prelude.{OnOk}
use Rattle.serde_json.specs.Data.{array}
use Rattle.serde_json.specs.View.{items_of}
use Rattle.pst_ndb.specs.Views.{table_of_node, roots_of}
use Rattle.pst_tc.specs.Tc.{node_of_tc}
use Rattle.pst_tc.specs.View.{tc_of_row}
use Rattle.pst_value_json.proofs.CellLemmas.{cells_at, cells_past}
use Rattle.pst_value_json.proofs.ColumnLemmas.{shown_is_first}
use Rattle.pst_value_json.proofs.write_cells.write_cells.Goals as goal

pub loop-column-init : goal.loop-column-init
loop-column-init g c = record { list = ([], c.in_ok-open_list.ensures.put, refl); kept = c.in_ok-open_list.ensures.kept }

pub cell_at-value-requires : goal.cell_at-value-requires
cell_at-value-requires g c = shown_is_first (tc_of_row c.args.row) c.args.columns.now c.loop-column.column-index _ c.requires (search rules)

pub loop-column-preserved : goal.loop-column-preserved
loop-column-preserved g c =
    let l = c.loop-column.invariant in
    let node = node_of_tc (tc_of_row c.args.row) in
    record {
      list = (
        _,
        c.in_ok-later.ensures.put _ l.list.0 l.list.1,
        cells_at c.args.places (table_of_node node) (roots_of node) _ c.args.columns.now c.loop-column.column-index _ _ l.list.0 _ _ (search rules) c.cell_at-value.ensures refl l.list.2,
      );
      kept = λ base kept. c.in_ok-later.ensures.kept base (l.kept base kept);
    }

pub returns-clause-put : goal.returns-clause-put
returns-clause-put g c =
    let l = c.loop-column.invariant in
    let node = node_of_tc (tc_of_row c.args.row) in
    subst (λ ds. OnOk c.close_list.result (g.P.Pen.Puts c.args.pen.now c.close_list.new.self (array (items_of ds))))
    (cells_past c.args.places (table_of_node node) (roots_of node) _ c.args.columns.now c.loop-column.column-index l.list.0 _ (search rules) l.list.2) (c.close_list.ensures.put _ l.list.0 l.list.1)
