use Rattle.std.proofs.Common.{[], ◌∷◌, ◌++◌, map, ap, subst, ◌∙◌}
use Rattle.std.specs.Prelude.{OnOk}
use Rattle.serde_json.specs.Data.{array}
use Rattle.serde_json.specs.View.{items_of}
use Rattle.pst_ndb.specs.Views.{table_of_node, roots_of}
use Rattle.pst_pc.specs.Left.{pc_left, rest_of}
use Rattle.pst_pc.specs.View.{node_of_pc}
use Rattle.pst_value_json.specs.Props.{record_data, names_told}
use Rattle.pst_value_json.proofs.PenLemmas.{one_more, none_left}
use Rattle.pst_value_json.proofs.PropLemmas.{record_shown}
use Rattle.pst_value_json.proofs.props.write_props.Goals as goal

pub loop-prop-init : goal.loop-prop-init
loop-prop-init g c =
    let node = node_of_pc c.args.pc.now in
    let shown = record_data (names_told c.args.names) c.args.filed c.args.places (table_of_node node) (roots_of node) in
    record { list = ([], c.in_ok-open_list.ensures.put, ap (λ s. map shown (rest_of s)) c.into_iter-prop-iterator.ensures.into_iter_gives ∙ ap (map shown) c.props-prop-items.ensures.records); pc = ap pc_left c.into_iter-prop-iterator.ensures.into_iter_gives ∙ c.props-prop-items.ensures.pc; kept = c.in_ok-open_list.ensures.kept }

pub loop-prop-preserved : goal.loop-prop-preserved
loop-prop-preserved g c =
    let l = c.loop-prop.invariant in
    let node = node_of_pc c.args.pc.now in
    let names = names_told c.args.names in
    let shown = record_data names c.args.filed c.args.places (table_of_node node) (roots_of node) in
    let taken = c.in-Some.ensures.steps in
    let x = taken.1.0 in
    let same = record_shown names c.args.filed c.args.places node x c.in-Some.prop (rw l.pc at taken.1.2) in
    record {
      list = (
        l.list.0 ++ shown x ∷ [],
        c.in_ok-item.ensures.put _ _ l.list.0 (shown x) (c.in_ok-comma.ensures.put _ l.list.0 l.list.1)
            (subst (λ d. g.P.Pen.Puts c.comma.new.self c.write_shown.new.pen d) same c.in_ok-write_shown.ensures.put),
        one_more shown x _ _ l.list.0 _ taken.1.1 l.list.2,
      );
      pc = taken.2 ∙ l.pc;
      kept = λ base kept. c.in_ok-item.ensures.kept base (c.in_ok-write_shown.ensures.kept base (c.in_ok-comma.ensures.kept base (l.kept base kept)));
    }

pub returns-clause-put : goal.returns-clause-put
returns-clause-put g c =
    let l = c.loop-prop.invariant in
    let node = node_of_pc c.args.pc.now in
    let shown = record_data (names_told c.args.names) c.args.filed c.args.places (table_of_node node) (roots_of node) in
    subst (λ ds. OnOk c.close_list.result (g.P.Pen.Puts c.args.pen.now c.close_list.new.self (array (items_of ds)))) (none_left shown _ l.list.0 _ c.in-None.ensures.steps.1 l.list.2)
    (c.close_list.ensures.put _ l.list.0 l.list.1)
