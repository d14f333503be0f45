use Rattle.std.proofs.Common.{arith, ◌≡◌, Some, None}
use Rattle.std.proofs.lemmas.Result.{err_from_is_err_and}
use Rattle.std.specs.Prelude.{option_map}
use Rattle.pst_fault.specs.First.{◌then◌, Checks}
use Rattle.pst_ndb.specs.Views.{table_of_node}
use Rattle.pst_ndb.specs.Views.{roots_of}
use Rattle.pst_fault.specs.Each.{first_of}
use Rattle.pst_heap.specs.View.{node_of}
use Rattle.pst_heap.specs.Values.{heap_at}
use Rattle.pst_heap.specs.Fault.{told_under}
use Rattle.pst_bth.specs.Fault.{bth_fault}
use Rattle.pst_bth.specs.Values.{bth_records}
use Rattle.pst_tc.specs.Info.{index_place, index_hid}
use Rattle.pst_tc.specs.Values.{tc_sizes}
use Rattle.pst_tc.specs.Fault.{row_record_fault, matrix_fault}
use Rattle.pst_tc.proofs.TcLemmas.{front_fails, index_fails, matrix_left, info_told_none}
use Rattle.pst_tc.proofs.InfoLemmas.{sound_room}
use Rattle.pst_tc.proofs.check.check_body.Goals as goal

pub returns-in_err-check_front : goal.returns-in_err-check_front
returns-in_err-check_front c =
    let p = err_from_is_err_and c.from_residual.result c.from_residual.ensures.1 in
    let t = table_of_node (node_of c.args.heap.now) in
    let r = roots_of (node_of c.args.heap.now) in
    record { exact = rw (p.1, p.2) (front_fails t r c.args.info _ c.in_err-check_front.ensures.exact) }

pub returns-in_err-bth : goal.returns-in_err-bth
returns-in_err-bth c =
    let p = err_from_is_err_and c.from_residual-in_err-bth.result c.from_residual-in_err-bth.ensures.1 in
    let t = table_of_node (node_of c.args.heap.now) in
    let r = roots_of (node_of c.args.heap.now) in
    let hid : c.number32.result ≡ index_hid t.image c.args.info = rw c.image-2.ensures.bytes at c.number32.ensures in
    let index : option_map (told_under r) (bth_fault (heap_at t r) tc_sizes (index_place c.args.info) (index_hid t.image c.args.info)) ≡ Some c.in_err-bth.field-0.0 = rw hid at c.in_err-bth.ensures.exact in
    record { exact = rw (p.1, p.2) (index_fails t r c.args.info _ c.in_ok-check_front.ensures.exact index) }

pub returns : goal.returns
returns c =
    let t = table_of_node (node_of c.args.heap.now) in
    let r = roots_of (node_of c.args.heap.now) in
    let hid : c.number32.result ≡ index_hid t.image c.args.info = rw c.image-2.ensures.bytes at c.number32.ensures in
    let index : option_map (told_under r) (bth_fault (heap_at t r) tc_sizes (index_place c.args.info) (index_hid t.image c.args.info)) ≡ None = rw hid at c.in_ok-bth.ensures.exact in
    let left : Checks c.check_matrix_rows.result (option_map (told_under r) (matrix_fault t r c.args.info then first_of (row_record_fault t r c.args.info) (bth_records (heap_at t r) tc_sizes (index_hid t.image c.args.info)))) =
    rw (c.in_ok-bth.ensures.records, hid) at c.check_matrix_rows.ensures.exact in
    record { exact = rw (← matrix_left t r c.args.info c.in_ok-check_front.ensures.exact index) left }

pub check_matrix_rows-requires-clause-room : goal.check_matrix_rows-requires-clause-room
check_matrix_rows-requires-clause-room c =
    let t = table_of_node (node_of c.args.heap.now) in
    let r = roots_of (node_of c.args.heap.now) in
    omega (arith, sound_room t.image c.args.info (info_told_none r t.image c.args.info c.in_ok-check_front.ensures.exact))
