use Rattle.std.proofs.Common.{[], ◌∷◌, ◌++◌, map, ap, ◌∙◌, subst}
use Rattle.std.specs.Prelude.{OnOk}
use Rattle.serde_json.specs.Data.{array}
use Rattle.serde_json.specs.View.{items_of}
use Rattle.pst_btree.specs.Nodes.{nodes_left}
use Rattle.pst_value_json.proofs.PenLemmas.{one_more, none_left}
use Rattle.pst_json.specs.Nodes.{node_data}
use Rattle.pst_json.proofs.nodes.write_entries.Goals as goal

pub loop-entry-init : goal.loop-entry-init
loop-entry-init g c = record { list = ([], c.in_ok-open_list.ensures.put, ap (λ s. map node_data (nodes_left s)) c.into_iter-entry-iterator.ensures.into_iter_gives ∙ ap (map node_data) c.nodes-entry-items.ensures); kept = c.in_ok-open_list.ensures.kept }

pub loop-entry-preserved : goal.loop-entry-preserved
loop-entry-preserved g c =
    let l = c.loop-entry.invariant in
    record {
      list = (
        l.list.0 ++ node_data c.in-Some.entry ∷ [],
        c.in_ok-item.ensures.put _ _ l.list.0 _ (c.in_ok-comma.ensures.put _ l.list.0 l.list.1) c.in_ok-write_node.ensures.put,
        one_more node_data c.in-Some.entry _ _ l.list.0 _ c.in-Some.ensures.steps l.list.2,
      );
      kept = λ base kept. c.in_ok-item.ensures.kept base (c.in_ok-write_node.ensures.kept base (c.in_ok-comma.ensures.kept base (l.kept base kept)));
    }

pub returns-clause-put : goal.returns-clause-put
returns-clause-put g c =
    let l = c.loop-entry.invariant in
    subst (λ ds. OnOk c.close_list.result (g.P.Pen.Puts c.args.pen.now c.close_list.new.self (array (items_of ds)))) (none_left node_data _ l.list.0 _ c.in-None.ensures.steps.0 l.list.2)
    (c.close_list.ensures.put _ l.list.0 l.list.1)
