use Rattle.std.proofs.Common.{[], ◌∷◌, ◌++◌, map, ap, ◌∙◌, subst}
use Rattle.std.specs.Prelude.{OnOk}
use Rattle.serde_json.specs.Data.{array}
use Rattle.serde_json.specs.View.{items_of}
use Rattle.pst_value_json.specs.pst_tc.Left.{tc_rows_left}
use Rattle.pst_value_json.specs.pst_tc.View.{row_parts}
use Rattle.pst_value_json.proofs.PenLemmas.{one_more, none_left}
use Rattle.pst_json.specs.Folders.{row_nid}
use Rattle.pst_json.proofs.nid_lists.write_row_nids.Goals as goal

pub loop-row-init : goal.loop-row-init
loop-row-init g c = record { list = ([], c.in_ok-open_list.ensures.put, ap (λ s. map row_nid (tc_rows_left s)) c.into_iter-row-iterator.ensures.into_iter_gives ∙ ap (map row_nid) c.rows-row-items.ensures.left); kept = c.in_ok-open_list.ensures.kept }

pub loop-row-preserved : goal.loop-row-preserved
loop-row-preserved g c =
    let l = c.loop-row.invariant in
    let x = row_parts c.in-Some.row in
    record {
      list = (
        l.list.0 ++ row_nid x ∷ [],
        c.in_ok-item.ensures.put _ _ l.list.0 (row_nid x) (c.in_ok-comma.ensures.put _ l.list.0 l.list.1) (rw c.id.ensures at c.in_ok-leaf.ensures.put),
        one_more row_nid x _ _ l.list.0 _ c.in-Some.ensures.steps.0 l.list.2,
      );
      kept = λ base kept. c.in_ok-item.ensures.kept base (c.in_ok-leaf.ensures.kept base (c.in_ok-comma.ensures.kept base (l.kept base kept)));
    }

pub returns-clause-put : goal.returns-clause-put
returns-clause-put g c =
    let l = c.loop-row.invariant in
    subst (λ ds. OnOk c.close_list.result (g.P.Pen.Puts c.args.pen.now c.close_list.new.self (array (items_of ds)))) (none_left row_nid _ l.list.0 _ c.in-None.ensures.steps.0.0 l.list.2)
    (c.close_list.ensures.put _ l.list.0 l.list.1)
