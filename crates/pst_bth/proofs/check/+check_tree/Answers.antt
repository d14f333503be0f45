use Rattle.std.proofs.Common.{◌≡◌, ◌<◌, ◌+◌, ◌-◌, ◌*◌, Some, refl, sym, arith}
use Rattle.std.proofs.lemmas.Result.{err_from_is_err_and}
use Rattle.pst_bytes.specs.Image.{num}
use Rattle.pst_fault.proofs.FirstLemmas.{answer_ok, answer_err}
use Rattle.pst_heap.specs.View.{data_of}
use Rattle.pst_bth.specs.Rows.{row_key, row_count, rows_from}
use Rattle.pst_bth.specs.Rows.{next_row_key}
use Rattle.pst_bth.specs.Rows.{branch_size}
use Rattle.pst_bth.specs.Values.{item_at}
use Rattle.pst_bth.specs.Fault.{bth_branch_fault, bth_tree_fault}
use Rattle.pst_bth.specs.View.{rows_item}
use Rattle.pst_bth.proofs.TreeLemmas.{item_at_is, tree_branch_fails, tree_branch_left, bth_child_fails, bth_child_goes_on}
use Rattle.pst_bth.proofs.check.+check_tree.Goals as goal

pub returns-in_err-check_branch : goal.returns-in_err-check_branch
returns-in_err-check_branch t c =
    let p = err_from_is_err_and c.from_residual.result c.from_residual.ensures.1 in
    let h = data_of c.args.heap.now in
    let z = c.args.sizes in
    let item = c.in-Some.item in
    let hid : c.number32-hid.result ≡ num h.image c.args.named 4 = cc (c.number32-hid.ensures, c.image.ensures.bytes) in
    let is : item_at h c.args.named ≡ Some item = item_at_is h c.args.named c.number32-hid.result _ hid c.in-Some.ensures.value in
    let failed = answer_err (bth_branch_fault h z c.args.low c.args.high item) tt c.in_err-check_branch.field-0.0 c.in_err-check_branch.ensures.exact in
    rw (p.1, p.2, tree_branch_fails h z c.args.level (c.args.level - 1) c.args.named c.args.low c.args.high item c.in_err-check_branch.field-0.0 is (omega arith) failed) (record { exact = refl })

pub loop-i-init : goal.loop-i-init
loop-i-init t c =
    let h = data_of c.args.heap.now in
    let z = c.args.sizes in
    let item = c.in-Some.item in
    let hid : c.number32-hid.result ≡ num h.image c.args.named 4 = cc (c.number32-hid.ensures, c.image.ensures.bytes) in
    let is : item_at h c.args.named ≡ Some item = item_at_is h c.args.named c.number32-hid.result _ hid c.in-Some.ensures.value in
    let passed = (answer_ok (bth_branch_fault h z c.args.low c.args.high item) tt c.in_ok-check_branch.field-0 (sym c.in_ok-check_branch.ensures.exact)).0 in
    rw c.branch-rows.ensures.item (tree_branch_left h z c.args.level (c.args.level - 1) c.args.named c.args.low c.args.high item is (omega arith) passed)

pub returns-in_err-check_tree : goal.returns-in_err-check_tree
returns-in_err-check_tree t c =
    let p = err_from_is_err_and c.from_residual-in_err-check_tree.result c.from_residual-in_err-check_tree.ensures.1 in
    let h = data_of c.args.heap.now in
    let z = c.args.sizes in
    let s = rows_item c.branch-rows.result in
    let i = c.loop-i.i in
    let visit = bth_tree_fault h z (c.args.level - 1) in
    let total = bth_tree_fault h z c.args.level c.args.named c.args.low c.args.high in
    let count : c.count-i-end.result ≡ row_count (branch_size z) s = cc (c.count-i-end.ensures, c.branch-rows.ensures.size) in
    let lt : i < row_count (branch_size z) s = omega (arith, count, c.loop-i-test.true) in
    let child : c.child.result ≡ s.at + i * branch_size z + z.key = cc (c.child.ensures.value, c.branch-rows.ensures.size, c.branch-rows.ensures.key) in
    let key : c.key.result ≡ row_key h.image z.key (s.at + i * branch_size z) = cc (c.key.ensures.value, c.branch-rows.ensures.size, c.branch-rows.ensures.key, c.branch-rows.ensures.image, c.image-2.ensures.bytes) in
    let bound : c.bound.result ≡ next_row_key h.image z.key (rows_from (branch_size z) s (i + 1)) c.args.high = cc (c.bound.ensures, c.branch-rows.ensures.size, c.branch-rows.ensures.key, c.branch-rows.ensures.image, c.image-2.ensures.bytes) in
    let failed = answer_err (visit c.child.result c.key.result c.bound.result) tt c.in_err-check_tree.field-0.0 c.in_err-check_tree.ensures.exact in
    let all : total ≡ Some c.in_err-check_tree.field-0.0 = bth_child_fails h.image z.key (branch_size z) visit c.args.high s i total c.in_err-check_tree.field-0.0 c.child.result c.key.result c.bound.result lt child key bound failed c.loop-i.invariant in
    rw (p.1, p.2, all) (record { exact = refl })

pub loop-i-preserved : goal.loop-i-preserved
loop-i-preserved t c =
    let h = data_of c.args.heap.now in
    let z = c.args.sizes in
    let s = rows_item c.branch-rows.result in
    let i = c.loop-i.i in
    let visit = bth_tree_fault h z (c.args.level - 1) in
    let count : c.count-i-end.result ≡ row_count (branch_size z) s = cc (c.count-i-end.ensures, c.branch-rows.ensures.size) in
    let lt : i < row_count (branch_size z) s = omega (arith, count, c.loop-i-test.true) in
    let child : c.child.result ≡ s.at + i * branch_size z + z.key = cc (c.child.ensures.value, c.branch-rows.ensures.size, c.branch-rows.ensures.key) in
    let key : c.key.result ≡ row_key h.image z.key (s.at + i * branch_size z) = cc (c.key.ensures.value, c.branch-rows.ensures.size, c.branch-rows.ensures.key, c.branch-rows.ensures.image, c.image-2.ensures.bytes) in
    let bound : c.bound.result ≡ next_row_key h.image z.key (rows_from (branch_size z) s (i + 1)) c.args.high = cc (c.bound.ensures, c.branch-rows.ensures.size, c.branch-rows.ensures.key, c.branch-rows.ensures.image, c.image-2.ensures.bytes) in
    let passed = (answer_ok (visit c.child.result c.key.result c.bound.result) tt c.in_ok-check_tree.field-0 (sym c.in_ok-check_tree.ensures.exact)).0 in
    bth_child_goes_on h.image z.key (branch_size z) visit c.args.high s i _ c.child.result c.key.result c.bound.result lt child key bound passed c.loop-i.invariant
