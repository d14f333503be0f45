use Rattle.std.proofs.Common.{[], refl, subst, rules}
use Rattle.std.specs.Prelude.{OnOk}
use Rattle.serde_json.specs.Data.{array}
use Rattle.serde_json.specs.View.{items_of}
use Rattle.pst_value_json.proofs.PenLemmas.{next_of_slice, end_of_slice}
use Rattle.pst_value_json.specs.pst_text.Names.{nid_data}
use Rattle.pst_json.proofs.nid_lists.write_nids.Goals as goal

pub loop-nid-init : goal.loop-nid-init
loop-nid-init g c = record { list = ([], c.in_ok-open_list.ensures.put, refl); kept = c.in_ok-open_list.ensures.kept }

pub loop-nid-preserved : goal.loop-nid-preserved
loop-nid-preserved g c =
    let l = c.loop-nid.invariant in
    record {
      list = (
        _,
        c.in_ok-item.ensures.put _ _ l.list.0 _ (c.in_ok-comma.ensures.put _ l.list.0 l.list.1) c.in_ok-leaf.ensures.put,
        next_of_slice nid_data c.args.nids.now c.loop-nid.nid-index _ l.list.0 _ (search rules) l.list.2,
      );
      kept = λ base kept. c.in_ok-item.ensures.kept base (c.in_ok-leaf.ensures.kept base (c.in_ok-comma.ensures.kept base (l.kept base kept)));
    }

pub returns-clause-put : goal.returns-clause-put
returns-clause-put g c =
    let l = c.loop-nid.invariant in
    subst (λ ds. OnOk c.close_list.result (g.P.Pen.Puts c.args.pen.now c.close_list.new.self (array (items_of ds)))) (end_of_slice nid_data c.args.nids.now c.loop-nid.nid-index l.list.0 _ (search rules) l.list.2)
    (c.close_list.ensures.put _ l.list.0 l.list.1)
