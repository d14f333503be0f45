use Rattle.std.proofs.Common.{◌≡◌, Some, None, sym, ap, ◌∙◌}
use Rattle.std.proofs.lemmas.Result.{err_from_is_err_and}
use Rattle.std.specs.Prelude.{option_map}
use Rattle.pst_fault.specs.First.{Checks}
use Rattle.pst_ndb.specs.Views.{table_of_node}
use Rattle.pst_ndb.specs.Views.{roots_of}
use Rattle.pst_heap.specs.Values.{item_of}
use Rattle.pst_heap.specs.Fault.{no_item}
use Rattle.pst_heap.specs.Fault.{heap_fault, client_fault}
use Rattle.pst_heap.specs.Values.{user_root_of, user_root_place}
use Rattle.pst_heap.specs.Values.{heap_at}
use Rattle.pst_heap.specs.Fault.{told_under}
use Rattle.pst_tc.specs.Fault.{tc_body_fault}
use Rattle.pst_tc.proofs.TcLemmas.{client_fails, context_left}
use Rattle.pst_heap.specs.View.{node_of}
use Rattle.pst_tc.proofs.check.check_content.Goals as goal

pub returns-in_err-check_client : goal.returns-in_err-check_client
returns-in_err-check_client c =
    let p = err_from_is_err_and c.from_residual.result c.from_residual.ensures.1 in
    let t = table_of_node (node_of c.args.heap.now) in
    let r = roots_of (node_of c.args.heap.now) in
    let sound : option_map (told_under r) (heap_fault (heap_at t r)) ≡ None = ap (option_map (told_under r)) c.is_sound.ensures in
    let client : option_map (told_under r) (client_fault 0x7C (heap_at t r)) ≡ Some c.in_err-check_client.field-0.0 = c.in_err-check_client.ensures.exact in
    record { exact = rw (p.1, p.2) (client_fails t r _ sound client) }

pub returns : goal.returns
returns c =
    let t = table_of_node (node_of c.args.heap.now) in
    let r = roots_of (node_of c.args.heap.now) in
    let sound : option_map (told_under r) (heap_fault (heap_at t r)) ≡ None = ap (option_map (told_under r)) c.is_sound.ensures in
    let client : option_map (told_under r) (client_fault 0x7C (heap_at t r)) ≡ None = c.in_ok-check_client.ensures.exact in
    let root : c.user_root.result ≡ user_root_of (heap_at t r) = c.user_root.ensures in
    let is : Some c.in-Some.info ≡ item_of (heap_at t r) (user_root_of (heap_at t r)) = rw root at c.in-Some.ensures.value in
    let left : Checks c.check_body.result (option_map (told_under r) (tc_body_fault t r c.in-Some.info)) = c.check_body.ensures.exact in
    record { exact = rw (← context_left t r sound client (Some c.in-Some.info) is) left }

pub returns-in_default : goal.returns-in_default
returns-in_default c =
    let t = table_of_node (node_of c.args.heap.now) in
    let r = roots_of (node_of c.args.heap.now) in
    let sound : option_map (told_under r) (heap_fault (heap_at t r)) ≡ None = ap (option_map (told_under r)) c.is_sound.ensures in
    let client : option_map (told_under r) (client_fault 0x7C (heap_at t r)) ≡ None = c.in_ok-check_client.ensures.exact in
    let root : c.user_root.result ≡ user_root_of (heap_at t r) = c.user_root.ensures in
    let place : c.user_root_place-named.result ≡ user_root_place (heap_at t r) = c.user_root_place-named.ensures.value in
    let is : None ≡ item_of (heap_at t r) (user_root_of (heap_at t r)) = rw root at c.in_default.ensures.value in
    let told : c.told_of.result ≡ told_under r (no_item (user_root_place (heap_at t r))) = rw (c.node.ensures, c.at.ensures, place) at c.told_of.ensures in
    record { exact = sym (context_left t r sound client None is) ∙ ap Some (sym told) }
