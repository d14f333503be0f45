use Rattle.std.proofs.Common.{[], refl, subst, rules}
use Rattle.std.specs.Prelude.{OnOk}
use Rattle.serde_json.specs.Data.{array}
use Rattle.serde_json.specs.View.{items_of}
use Rattle.pst_value_json.proofs.PenLemmas.{next_of_slice, end_of_slice}
use Rattle.pst_damage_json.specs.Damage.{broken_data}
use Rattle.pst_damage_json.proofs.lists.write_nodes.Goals as goal

pub loop-broken-init : goal.loop-broken-init
loop-broken-init g c = record { list = ([], c.in_ok-open_list.ensures.put, refl); kept = c.in_ok-open_list.ensures.kept }

pub loop-broken-preserved : goal.loop-broken-preserved
loop-broken-preserved g c =
    let l = c.loop-broken.invariant in
    record {
      list = (
        _,
        c.in_ok-item.ensures.put _ _ l.list.0 _ (c.in_ok-comma.ensures.put _ l.list.0 l.list.1) c.in_ok-write_broken.ensures.put,
        next_of_slice broken_data c.args.nodes.now c.loop-broken.broken-index _ l.list.0 _ (search rules) l.list.2,
      );
      kept = λ base kept. c.in_ok-item.ensures.kept base (c.in_ok-write_broken.ensures.kept base (c.in_ok-comma.ensures.kept base (l.kept base kept)));
    }

pub returns-clause-put : goal.returns-clause-put
returns-clause-put g c =
    let l = c.loop-broken.invariant in
    subst (λ ds. OnOk c.close_list.result (g.P.Pen.Puts c.args.pen.now c.close_list.new.self (array (items_of ds)))) (end_of_slice broken_data c.args.nodes.now c.loop-broken.broken-index l.list.0 _ (search rules) l.list.2)
    (c.close_list.ensures.put _ l.list.0 l.list.1)
