use Rattle.std.proofs.Common.{◌≡◌, Some, None, ap}
use Rattle.std.proofs.lemmas.Result.{err_from_is_err_and}
use Rattle.std.specs.Prelude.{option_map}
use Rattle.pst_fault.specs.First.{Checks}
use Rattle.pst_ndb.specs.Views.{table_of_node, roots_of}
use Rattle.pst_fault.specs.Each.{first_of}
use Rattle.pst_heap.specs.Values.{user_root_of, user_root_place, heap_at}
use Rattle.pst_heap.specs.Fault.{heap_fault, client_fault, told_under}
use Rattle.pst_bth.specs.Values.{bth_records}
use Rattle.pst_bth.specs.Fault.{bth_fault}
use Rattle.pst_pc.specs.Fault.{property_fault}
use Rattle.pst_pc.specs.Values.{pc_client, pc_sizes}
use Rattle.pst_pc.proofs.PcLemmas.{client_fails, bth_fails, all_left}
use Rattle.pst_heap.specs.View.{node_of}
use Rattle.pst_pc.proofs.check.check_content.Goals as goal

pub returns-in_err-check_client : goal.returns-in_err-check_client
returns-in_err-check_client c =
    let p = err_from_is_err_and c.from_residual.result c.from_residual.ensures.1 in
    let t = table_of_node (node_of c.args.heap.now) in
    let r = roots_of (node_of c.args.heap.now) in
    let sound : option_map (told_under r) (heap_fault (heap_at t r)) ≡ None = ap (option_map (told_under r)) c.is_sound.ensures in
    let client : option_map (told_under r) (client_fault pc_client (heap_at t r)) ≡ Some c.in_err-check_client.field-0.0 = c.in_err-check_client.ensures.exact in
    record { exact = rw (p.1, p.2) (client_fails t r _ sound client) }

pub returns-in_err-bth : goal.returns-in_err-bth
returns-in_err-bth c =
    let p = err_from_is_err_and c.from_residual-in_err-bth.result c.from_residual-in_err-bth.ensures.1 in
    let t = table_of_node (node_of c.args.heap.now) in
    let r = roots_of (node_of c.args.heap.now) in
    let sound : option_map (told_under r) (heap_fault (heap_at t r)) ≡ None = ap (option_map (told_under r)) c.is_sound.ensures in
    let client : option_map (told_under r) (client_fault pc_client (heap_at t r)) ≡ None = c.in_ok-check_client.ensures.exact in
    let root : c.user_root.result ≡ user_root_of (heap_at t r) = c.user_root.ensures in
    let place : c.user_root_place.result ≡ user_root_place (heap_at t r) = c.user_root_place.ensures.value in
    let bth : option_map (told_under r) (bth_fault (heap_at t r) pc_sizes (user_root_place (heap_at t r)) (user_root_of (heap_at t r))) ≡ Some c.in_err-bth.field-0.0 =
    rw (root, place) at c.in_err-bth.ensures.exact in
    record { exact = rw (p.1, p.2) (bth_fails t r _ sound client bth) }

pub returns : goal.returns
returns c =
    let t = table_of_node (node_of c.args.heap.now) in
    let r = roots_of (node_of c.args.heap.now) in
    let sound : option_map (told_under r) (heap_fault (heap_at t r)) ≡ None = ap (option_map (told_under r)) c.is_sound.ensures in
    let client : option_map (told_under r) (client_fault pc_client (heap_at t r)) ≡ None = c.in_ok-check_client.ensures.exact in
    let root : c.user_root.result ≡ user_root_of (heap_at t r) = c.user_root.ensures in
    let place : c.user_root_place.result ≡ user_root_place (heap_at t r) = c.user_root_place.ensures.value in
    let bth : option_map (told_under r) (bth_fault (heap_at t r) pc_sizes (user_root_place (heap_at t r)) (user_root_of (heap_at t r))) ≡ None =
    rw (root, place) at c.in_ok-bth.ensures.exact in
    let left : Checks c.check_properties.result (option_map (told_under r) (first_of (property_fault t r) (bth_records (heap_at t r) pc_sizes (user_root_of (heap_at t r))))) =
    rw (c.in_ok-bth.ensures.records, root) at c.check_properties.ensures.exact in
    record { exact = rw (← all_left t r sound client bth) left }
