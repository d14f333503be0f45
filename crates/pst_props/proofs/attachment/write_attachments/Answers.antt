use Rattle.std.proofs.Common.{◌≡◌, [], ◌∷◌, ◌++◌, map, sym, ap, subst, ◌∙◌}
use Rattle.std.specs.Prelude.{OnOk}
use Rattle.serde_json.specs.Data.{array}
use Rattle.serde_json.specs.View.{items_of}
use Rattle.pst_ndb.specs.Views.{table_of_node}
use Rattle.pst_value_json.specs.Props.{names_told}
use Rattle.pst_value_json.proofs.PenLemmas.{one_more, none_left}
use Rattle.pst_verify.specs.pst_msg.View.{attachment_shown, attachments_left, holder_left, node_of_attachment, node_of_message}
use Rattle.pst_props.specs.Node.{listed_data}
use Rattle.pst_ndb.proofs.NodeIndexesLemmas.{last_of}
use Rattle.pst_props.proofs.attachment.write_attachments.Goals as goal

pub loop-attachment-init : goal.loop-attachment-init
loop-attachment-init g c =
    let t = table_of_node (node_of_message c.args.message) in
    let shown = listed_data (names_told c.args.names) c.args.files c.args.places t in
    record {
      list = ([], c.in_ok-open_list.ensures.put, ap (λ s. map shown (attachments_left s)) c.into_iter-attachment-iterator.ensures.into_iter_gives ∙ ap (map shown) c.attachments-attachment-items.ensures.left);
      holder = ap holder_left c.into_iter-attachment-iterator.ensures.into_iter_gives ∙ c.attachments-attachment-items.ensures.holder;
      known = c.new_indexes-index.ensures t;
      kept = c.in_ok-open_list.ensures.kept;
    }

pub write_listed-requires-clause-kept : goal.write_listed-requires-clause-kept
write_listed-requires-clause-kept g c =
    let steps = c.in-Some.ensures.steps in
    last_of _ _ _ (steps.2 ∙ ap table_of_node c.loop-attachment.invariant.holder) c.requires

pub write_listed-requires-clause-index : goal.write_listed-requires-clause-index
write_listed-requires-clause-index g c =
    let steps = c.in-Some.ensures.steps in
    last_of _ _ _ (steps.2 ∙ ap table_of_node c.loop-attachment.invariant.holder) c.loop-attachment.invariant.known

pub loop-attachment-preserved : goal.loop-attachment-preserved
loop-attachment-preserved g c =
    let l = c.loop-attachment.invariant in
    let t = table_of_node (node_of_message c.args.message) in
    let shown = listed_data (names_told c.args.names) c.args.files c.args.places t in
    let steps = c.in-Some.ensures.steps in
    let x = attachment_shown c.in-Some.attachment in
    let same : table_of_node (node_of_attachment c.in-Some.attachment) ≡ t = steps.2 ∙ ap table_of_node l.holder in
    record {
      list = (
        l.list.0 ++ shown x ∷ [],
        c.in_ok-item.ensures.put _ _ l.list.0 (shown x) (c.in_ok-comma.ensures.put _ l.list.0 l.list.1)
            (subst (λ u. g.P.Pen.Puts c.comma.new.self c.write_listed.new.pen (listed_data (names_told c.args.names) c.args.files c.args.places u x)) same c.in_ok-write_listed.ensures.put),
        one_more shown x _ _ l.list.0 _ steps.0 l.list.2,
      );
      holder = steps.1 ∙ l.holder;
      known = last_of _ _ _ (sym same) c.in_ok-write_listed.ensures.known;
      kept = λ base kept. c.in_ok-item.ensures.kept base (c.in_ok-write_listed.ensures.kept base (c.in_ok-comma.ensures.kept base (l.kept base kept)));
    }

pub returns-clause-put : goal.returns-clause-put
returns-clause-put g c =
    let l = c.loop-attachment.invariant in
    let shown = listed_data (names_told c.args.names) c.args.files c.args.places (table_of_node (node_of_message c.args.message)) in
    subst (λ ds. OnOk c.close_list.result (g.P.Pen.Puts c.args.pen.now c.close_list.new.self (array (items_of ds)))) (none_left shown _ l.list.0 _ c.in-None.ensures.steps.0.0 l.list.2)
    (c.close_list.ensures.put _ l.list.0 l.list.1)
