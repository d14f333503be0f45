use Rattle.std.proofs.Common.{◌≡◌, ◌∙◌, [], ap, subst, rules}
use Rattle.std.specs.Prelude.{flat_map}
use Rattle.pst_ndb.specs.Views.{table_of_node}
use Rattle.pst_value_json.specs.Props.{names_told}
use Rattle.pst_verify.specs.pst_msg.View.{message_roots, node_of_message}
use Rattle.pst_export.specs.Files.{held_files}
use Rattle.pst_export.specs.Store.{message_files}
use Rattle.pst_export.specs.Time.{time_of}
use Rattle.pst_export.specs.Walk.{StaysOver, TakesHeld, item_held, walk_left}
use Rattle.pst_export.proofs.WriteLemmas.{Added, added_all, added_end, added_next, added_none, added_refused, added_still}
use Rattle.pst_export.proofs.messages.write_message.Goals as goal

pub loop-walk-init : goal.loop-walk-init
unfolding message_files
loop-walk-init g c =
    let t = table_of_node (node_of_message c.args.message) in
    let told = names_told c.args.names in
    record {
      over = c.in_ok-walk.ensures.over;
      index = rw c.node.ensures at c.turn.ensures;
      known = c.requires.known;
      left = added_none _ _ _ _ (ap (λ x. flat_map (held_files told t x) (walk_left c.in_ok-walk.walk)) c.received_by-time.ensures
          ∙ ap (flat_map (held_files told t (time_of t (message_roots c.args.message)))) c.in_ok-walk.ensures.left);
    }

pub next-requires : goal.next-requires
next-requires g c = (table_of_node (node_of_message c.args.message), c.loop-walk.invariant.over, c.loop-walk.invariant.index)

pub returns-in_err-item-clause-front : goal.returns-in_err-item-clause-front
returns-in_err-item-clause-front g c = added_still _ _ _ _ _ _ c.loop-walk.invariant.left

pub returns-in_err-write_item-clause-front : goal.returns-in_err-write_item-clause-front
returns-in_err-write_item-clause-front g c =
    let t = table_of_node (node_of_message c.args.message) in
    let told = names_told c.args.names in
    let takes = subst (λ o. TakesHeld o (walk_left c.loop-walk.walk) (walk_left c.next.new.self)) c.in-Some.is c.in_ok-item.ensures.left in
    let stays = subst (λ o. StaysOver o t c.next.new.self) c.in-Some.is (c.in_ok-item.ensures.over t c.loop-walk.invariant.over) in
    let next = ap (flat_map (held_files told t c.received_by-time.result)) takes in
    added_refused _ _ _ _ _ _ _ (held_files told t c.received_by-time.result (item_held c.in-Some.item)) _ next c.loop-walk.invariant.left (rw stays.1 at c.in_err-write_item.ensures.front)

pub loop-walk-preserved : goal.loop-walk-preserved
loop-walk-preserved g c =
    let t = table_of_node (node_of_message c.args.message) in
    let told = names_told c.args.names in
    let takes = subst (λ o. TakesHeld o (walk_left c.loop-walk.walk) (walk_left c.next.new.self)) c.in-Some.is c.in_ok-item.ensures.left in
    let stays = subst (λ o. StaysOver o t c.next.new.self) c.in-Some.is (c.in_ok-item.ensures.over t c.loop-walk.invariant.over) in
    let next = ap (flat_map (held_files told t c.received_by-time.result)) takes in
    record {
      over = stays.0;
      index = c.in_ok-item.ensures.index t c.loop-walk.invariant.over c.loop-walk.invariant.index;
      known = rw stays.1 at c.in_ok-write_item.ensures.known;
      left = added_next _ _ _ _ _ _ _ _ (held_files told t c.received_by-time.result (item_held c.in-Some.item)) _ next c.loop-walk.invariant.left (rw stays.1 at c.in_ok-write_item.ensures.all);
    }

pub returns-clause-front : goal.returns-clause-front
returns-clause-front g c =
    let t = table_of_node (node_of_message c.args.message) in
    let told = names_told c.args.names in
    let none : walk_left c.loop-walk.walk ≡ [] = search rules in
    added_end _ _ _ _ _ _ (ap (flat_map (held_files told t c.received_by-time.result)) none) c.loop-walk.invariant.left

pub returns-clause-all : goal.returns-clause-all
returns-clause-all g c =
    let t = table_of_node (node_of_message c.args.message) in
    let told = names_told c.args.names in
    let files = message_files told t c.args.name.now (message_roots c.args.message) in
    let none : walk_left c.loop-walk.walk ≡ [] = search rules in
    let nothing = ap (flat_map (held_files told t c.received_by-time.result)) none in
    added_all _ _ _ _ files
    (subst (Added (g.W.Write.contents c.args.out.now) (g.W.Write.contents c.loop-walk.out) c.args.number.now c.loop-walk.number files) nothing c.loop-walk.invariant.left)
