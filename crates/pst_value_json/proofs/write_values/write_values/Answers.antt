use Rattle.std.proofs.Common.{◌≡◌, [], ◌∷◌, ◌++◌, map, sym, ap, subst, ◌∙◌, append_assoc, append-nil, rules}
use Rattle.std.specs.Prelude.{OnOk}
use Rattle.serde_json.specs.Data.{array}
use Rattle.serde_json.specs.View.{items_of}
use Rattle.pst_datatree.specs.Shown.{bytes_in}
use Rattle.pst_value.specs.Elements.{elements_left}
use Rattle.pst_value_json.specs.Value.{single_data}
use Rattle.pst_value_json.proofs.write_values.write_values.Goals as goal

pub loop-value-init : goal.loop-value-init
loop-value-init g c = record { list = ([], c.in_ok-open_list.ensures.put, search rules); kept = c.in_ok-open_list.ensures.kept }

pub loop-value-preserved : goal.loop-value-preserved
loop-value-preserved g c =
    let l = c.loop-value.invariant in
    let shown = single_data c.args.kind.0 in
    let d = shown (bytes_in c.in-Some.value) in
    let behind = map shown (elements_left c.next.new.self) in
    record {
      list = (
        l.list.0 ++ d ∷ [],
        c.in_ok-item.ensures.put _ _ l.list.0 d (c.in_ok-comma.ensures.put _ l.list.0 l.list.1) (rw c.single.ensures at c.in_ok-leaf.ensures.put),
        append_assoc l.list.0 (d ∷ []) behind ∙ ap (λ ds. l.list.0 ++ ds) (sym (ap (map shown) c.in-Some.ensures.steps.0)) ∙ l.list.2,
      );
      kept = λ base kept. c.in_ok-item.ensures.kept base (c.in_ok-leaf.ensures.kept base (c.in_ok-comma.ensures.kept base (l.kept base kept)));
    }

pub returns-clause-put : goal.returns-clause-put
returns-clause-put g c =
    let l = c.loop-value.invariant in
    let shown = single_data c.args.kind.0 in
    let all : l.list.0 ≡ map shown (elements_left c.args.values) = sym (append-nil l.list.0) ∙ ap (λ ds. l.list.0 ++ map shown ds) (sym c.in-None.ensures.steps.0.0) ∙ l.list.2 in
    subst (λ ds. OnOk c.close_list.result (g.P.Pen.Puts c.args.pen.now c.close_list.new.self (array (items_of ds)))) all (c.close_list.ensures.put _ l.list.0 l.list.1)
