use Rattle.std.proofs.Common.{[], ◌∷◌, ◌++◌, map, ap, subst, ◌∙◌, rules}
use Rattle.std.specs.Prelude.{OnOk}
use Rattle.serde_json.specs.Data.{array}
use Rattle.serde_json.specs.View.{items_of}
use Rattle.pst_ndb.specs.Views.{table_of_node, roots_of}
use Rattle.pst_tc.specs.Left.{tc_left, tc_rows_left}
use Rattle.pst_tc.specs.Tc.{node_of_tc}
use Rattle.pst_tc.specs.View.{row_parts}
use Rattle.pst_value_json.specs.Cells.{table_row_data}
use Rattle.pst_value_json.proofs.PenLemmas.{one_more, none_left}
use Rattle.pst_value_json.proofs.cells.write_table.Goals as goal

pub loop-row-init : goal.loop-row-init
loop-row-init g c =
    let node = node_of_tc c.args.tc.now in
    let shown = table_row_data c.args.places (table_of_node node) (roots_of node) in
    record { list = ([], c.in_ok-open_list.ensures.put, ap (λ s. map shown (tc_rows_left s)) c.into_iter-row-iterator.ensures.into_iter_gives ∙ ap (map shown) c.rows-row-items.ensures.left); tc = ap tc_left c.into_iter-row-iterator.ensures.into_iter_gives ∙ c.rows-row-items.ensures.tc; kept = c.in_ok-open_list.ensures.kept }

pub loop-row-preserved : goal.loop-row-preserved
loop-row-preserved g c =
    let l = c.loop-row.invariant in
    let node = node_of_tc c.args.tc.now in
    let t = table_of_node node in
    let r = roots_of node in
    let shown = table_row_data c.args.places t r in
    let x = row_parts c.in-Some.row in
    let taken = c.in-Some.ensures.steps in
    record {
      list = (
        l.list.0 ++ shown x ∷ [],
        c.in_ok-item.ensures.put _ _ l.list.0 (shown x) (c.in_ok-comma.ensures.put _ l.list.0 l.list.1) (search rules),
        one_more shown x _ _ l.list.0 _ taken.0 l.list.2,
      );
      tc = taken.2 ∙ l.tc;
      kept = λ base kept. c.in_ok-item.ensures.kept base (c.in_ok-write_row.ensures.kept base (c.in_ok-comma.ensures.kept base (l.kept base kept)));
    }

pub returns-clause-put : goal.returns-clause-put
returns-clause-put g c =
    let l = c.loop-row.invariant in
    let node = node_of_tc c.args.tc.now in
    let shown = table_row_data c.args.places (table_of_node node) (roots_of node) in
    subst (λ ds. OnOk c.close_list.result (g.P.Pen.Puts c.args.pen.now c.close_list.new.self (array (items_of ds)))) (none_left shown _ l.list.0 _ c.in-None.ensures.steps.0.0 l.list.2)
    (c.close_list.ensures.put _ l.list.0 l.list.1)
