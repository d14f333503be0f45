use Rattle.std.proofs.Common.{◌≡◌, ◌≤◌, ◌+◌, ◌-◌, [], ap, ◌∙◌, arith}
use Rattle.pst_heap.specs.View.{data_of}
use Rattle.pst_bth.specs.Rows.{row_count, row_place, rows_at}
use Rattle.pst_bth.specs.Rows.{leaf_size, branch_size}
use Rattle.pst_bth.specs.Values.{tree_rows}
use Rattle.pst_bth.specs.Find.{rows_from_key, IsUpToKey}
use Rattle.pst_bth.specs.Leaf.{BeginsAt, HasLeaf}
use Rattle.pst_bth.proofs.FindLemmas.{item_is_there, leaf_rises, rows_of_leaf, child_has}
use Rattle.pst_bth.proofs.LeafLemmas.{leaf_alone, skip_start, skip_next, skip_end, leaf_of_branch}
use Rattle.pst_bth.proofs.leaf.+leaf_below.Goals as goal

pub item_named-item-requires-clause-there : goal.item_named-item-requires-clause-there
item_named-item-requires-clause-there t c = λ nothing. item_is_there (data_of c.args.heap.now) c.args.sizes c.args.level c.args.named c.requires.tree nothing

-- ---- a leaf

pub first_in-requires : goal.first_in-requires
first_in-requires t c =
    let h = data_of c.args.heap.now in
    let z = c.args.sizes in
    let is = c.item_named-item.ensures.value in
    let rise = leaf_rises h z c.args.level c.args.named c.item_named-item.result c.requires.tree is c.if-level-eq0.true in
    rw (c.leaf.ensures.image, c.leaf.ensures.item, c.leaf.ensures.key, c.leaf.ensures.size, c.image.ensures.bytes) (record { low = c.requires.tree.low; high = c.requires.tree.high; rise = rise })

pub returns-in_default-clause-found : goal.returns-in_default-clause-found
returns-in_default-clause-found t c =
    let h = data_of c.args.heap.now in
    let z = c.args.sizes in
    let is = c.item_named-item.ensures.value in
    let nothing : rows_from_key h.image z.key c.args.low (rows_at (leaf_size z) c.item_named-item.result) ≡ [] =
    rw (c.leaf.ensures.image, c.leaf.ensures.item, c.leaf.ensures.key, c.leaf.ensures.size, c.image.ensures.bytes) at c.in_default.ensures in
    ap (rows_from_key h.image z.key c.args.low) (rows_of_leaf h z c.args.level c.args.named c.item_named-item.result is c.if-level-eq0.true) ∙ nothing

pub returns-then-level-eq0-clause-found : goal.returns-then-level-eq0-clause-found
returns-then-level-eq0-clause-found t c =
    let h = data_of c.args.heap.now in
    let z = c.args.sizes in
    let is = c.item_named-item.ensures.value in
    let begins : BeginsAt h.image z.key (leaf_size z) c.item_named-item.result c.args.low c.in-Some.first =
    rw (c.leaf.ensures.image, c.leaf.ensures.item, c.leaf.ensures.key, c.leaf.ensures.size, c.image.ensures.bytes) at c.in-Some.ensures in
    leaf_alone h.image z.key (leaf_size z) c.args.low (record { item = c.item_named-item.result; first = c.in-Some.first }) _ (rows_of_leaf h z c.args.level c.args.named c.item_named-item.result is c.if-level-eq0.true) begins

-- ---- a branch

pub loop-i-init : goal.loop-i-init
loop-i-init t c =
    let h = data_of c.args.heap.now in
    let z = c.args.sizes in
    let is = c.item_named-item.ensures.value in
    let u : IsUpToKey h.image z.key (branch_size z) c.item_named-item.result c.args.low c.up_to.result =
    rw (c.branch-rows.ensures.image, c.branch-rows.ensures.item, c.branch-rows.ensures.key, c.branch-rows.ensures.size, c.image-2.ensures.bytes) at c.up_to.ensures in
    rw (c.branch-rows.ensures.item, c.saturating_sub-i.ensures) (record {
      within = omega (arith, u.within);
      skipped = skip_start h z c.args.level (c.args.level - 1) c.args.named c.item_named-item.result c.args.low c.up_to.result c.requires.tree is (omega (arith, c.if-level-eq0.false)) u;
    })

pub leaf_below-requires : goal.leaf_below-requires
leaf_below-requires t c =
    let h = data_of c.args.heap.now in
    let z = c.args.sizes in
    let is = c.item_named-item.ensures.value in
    let count : c.count-i-end.result ≡ row_count (branch_size z) c.item_named-item.result = cc (c.count-i-end.ensures, c.branch-rows.ensures.size, c.branch-rows.ensures.item) in
    let place : c.child.result ≡ row_place (branch_size z) c.item_named-item.result c.loop-i.i + z.key = cc (c.child.ensures.value, c.branch-rows.ensures.item, c.branch-rows.ensures.key, c.branch-rows.ensures.size) in
    let child = child_has h z c.args.level (c.args.level - 1) c.args.named c.item_named-item.result c.loop-i.i c.requires.tree is (omega (arith, c.if-level-eq0.false)) (omega (arith, count, c.loop-i-test.true)) in (
      omega (arith, c.if-level-eq0.false, c.decreases),
      (c.requires.key, ((rw (c.branch-rows.ensures.image, c.image-2.ensures.bytes) at c.child.ensures.inside), rw place child)),
    )

pub returns-in-Some-leaf_below-clause-found : goal.returns-in-Some-leaf_below-clause-found
returns-in-Some-leaf_below-clause-found t c =
    let h = data_of c.args.heap.now in
    let z = c.args.sizes in
    let is = c.item_named-item.ensures.value in
    let count : c.count-i-end.result ≡ row_count (branch_size z) c.item_named-item.result = cc (c.count-i-end.ensures, c.branch-rows.ensures.size, c.branch-rows.ensures.item) in
    let place : c.child.result ≡ row_place (branch_size z) c.item_named-item.result c.loop-i.i + z.key = cc (c.child.ensures.value, c.branch-rows.ensures.item, c.branch-rows.ensures.key, c.branch-rows.ensures.size) in
    let has : HasLeaf h.image z.key (leaf_size z) c.args.low c.in-Some-leaf_below.leaf (tree_rows h z (c.args.level - 1) (row_place (branch_size z) c.item_named-item.result c.loop-i.i + z.key)) = rw place at c.in-Some-leaf_below.ensures.found in
    leaf_of_branch h z c.args.level (c.args.level - 1) c.args.named c.item_named-item.result c.args.low c.loop-i.i c.in-Some-leaf_below.leaf is (omega (arith, c.if-level-eq0.false)) (omega (arith, count, c.loop-i-test.true))
    (rw c.branch-rows.ensures.item at c.loop-i.invariant.skipped) has

pub loop-i-preserved : goal.loop-i-preserved
loop-i-preserved t c =
    let h = data_of c.args.heap.now in
    let z = c.args.sizes in
    let count : c.count-i-end.result ≡ row_count (branch_size z) c.item_named-item.result = cc (c.count-i-end.ensures, c.branch-rows.ensures.size, c.branch-rows.ensures.item) in
    let place : c.child.result ≡ row_place (branch_size z) c.item_named-item.result c.loop-i.i + z.key = cc (c.child.ensures.value, c.branch-rows.ensures.item, c.branch-rows.ensures.key, c.branch-rows.ensures.size) in
    let nothing : rows_from_key h.image z.key c.args.low (tree_rows h z (c.args.level - 1) (row_place (branch_size z) c.item_named-item.result c.loop-i.i + z.key)) ≡ [] = rw place at c.in_default-leaf_below.ensures.found in
    rw c.branch-rows.ensures.item (record {
      within = omega (arith, count, c.loop-i-test.true);
      skipped = skip_next h.image z.key (branch_size z) c.item_named-item.result (tree_rows h z (c.args.level - 1)) c.args.low c.loop-i.i (rw c.branch-rows.ensures.item at c.loop-i.invariant.skipped) nothing;
    })

pub returns-clause-found : goal.returns-clause-found
returns-clause-found t c =
    let h = data_of c.args.heap.now in
    let z = c.args.sizes in
    let is = c.item_named-item.ensures.value in
    let count : c.count-i-end.result ≡ row_count (branch_size z) c.item_named-item.result = cc (c.count-i-end.ensures, c.branch-rows.ensures.size, c.branch-rows.ensures.item) in
    let within : c.loop-i.i ≤ row_count (branch_size z) c.item_named-item.result = rw c.branch-rows.ensures.item at c.loop-i.invariant.within in
    skip_end h z c.args.level (c.args.level - 1) c.args.named c.item_named-item.result c.args.low c.loop-i.i is (omega (arith, c.if-level-eq0.false)) (omega (arith, count, within, c.loop-i-test.false))
    (rw c.branch-rows.ensures.item at c.loop-i.invariant.skipped)
