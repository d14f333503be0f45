use Rattle.std.proofs.Common.{[], ◌∷◌, ◌++◌, map, ap, ◌∙◌, subst}
use Rattle.std.specs.Prelude.{OnOk}
use Rattle.serde_json.specs.Data.{array}
use Rattle.serde_json.specs.View.{items_of}
use Rattle.pst_intact.specs.View.{table_of_intact, nodes_of_intact}
use Rattle.pst_whole.specs.View.{lost_in}
use Rattle.pst_value_json.specs.pst_tc.Left.{tc_rows_left}
use Rattle.pst_value_json.specs.pst_tc.View.{row_parts}
use Rattle.pst_value_json.proofs.PenLemmas.{one_more, none_left}
use Rattle.pst_json.specs.Contents.{listed_row_data}
use Rattle.pst_json.proofs.contents.write_rows.Goals as goal

pub loop-row-init : goal.loop-row-init
loop-row-init g c =
    let i = c.args.intact.now in
    let shown = listed_row_data (table_of_intact i) (nodes_of_intact i) (lost_in c.args.lost.now) in
    record { list = ([], c.in_ok-open_list.ensures.put, ap (λ s. map shown (tc_rows_left s)) c.into_iter-row-iterator.ensures.into_iter_gives ∙ rw (c.lend_tc-lent.ensures.table, c.lend_tc-lent.ensures.roots) at (ap (map shown) c.rows-row-items.ensures.left)); known = c.new_indexes-index.ensures (table_of_intact i); kept = c.in_ok-open_list.ensures.kept }

pub loop-row-preserved : goal.loop-row-preserved
loop-row-preserved g c =
    let l = c.loop-row.invariant in
    let i = c.args.intact.now in
    let shown = listed_row_data (table_of_intact i) (nodes_of_intact i) (lost_in c.args.lost.now) in
    let x = row_parts c.in-Some.row in
    record {
      list = (
        l.list.0 ++ shown x ∷ [],
        c.in_ok-item.ensures.put _ _ l.list.0 (shown x) (c.in_ok-comma.ensures.put _ l.list.0 l.list.1) c.in_ok-write_listed_row.ensures.put,
        one_more shown x _ _ l.list.0 _ c.in-Some.ensures.steps.0 l.list.2,
      );
      known = c.in_ok-write_listed_row.ensures.known;
      kept = λ base kept. c.in_ok-item.ensures.kept base (c.in_ok-write_listed_row.ensures.kept base (c.in_ok-comma.ensures.kept base (l.kept base kept)));
    }

pub returns-clause-put : goal.returns-clause-put
returns-clause-put g c =
    let l = c.loop-row.invariant in
    let i = c.args.intact.now in
    let shown = listed_row_data (table_of_intact i) (nodes_of_intact i) (lost_in c.args.lost.now) in
    subst (λ ds. OnOk c.close_list.result (g.P.Pen.Puts c.args.pen.now c.close_list.new.self (array (items_of ds)))) (none_left shown _ l.list.0 _ c.in-None.ensures.steps.0.0 l.list.2)
    (c.close_list.ensures.put _ l.list.0 l.list.1)
