use Rattle.std.proofs.Common.{◌≡◌, ◌<◌, ◌+◌, ◌-◌, ap, sym, ◌∙◌, arith}
use Rattle.pst_btree.specs.Entries.{first_with}
use Rattle.pst_heap.specs.View.{data_of}
use Rattle.pst_bth.specs.Rows.{row_key, row_count, row_place, rows_at}
use Rattle.pst_bth.specs.Rows.{leaf_size, branch_size}
use Rattle.pst_bth.specs.Values.{tree_rows}
use Rattle.pst_bth.specs.Find.{IsUpToKey}
use Rattle.pst_bth.proofs.FindLemmas.{item_is_there, leaf_rises, rows_of_leaf, child_has, find_child, find_nowhere}
use Rattle.pst_bth.proofs.find.+find_below.Goals as goal

pub item_named-item-requires-clause-there : goal.item_named-item-requires-clause-there
item_named-item-requires-clause-there t c = λ nothing. item_is_there (data_of c.args.heap.now) c.args.sizes c.args.level c.args.named c.requires.tree nothing

-- ---- a leaf

pub find_in-requires : goal.find_in-requires
find_in-requires t c =
    let h = data_of c.args.heap.now in
    let z = c.args.sizes in
    let is = c.item_named-item.ensures.value in
    let rise = leaf_rises h z c.args.level c.args.named c.item_named-item.result c.requires.tree is c.if-level-eq0.true in
    rw (c.leaf.ensures.image, c.leaf.ensures.item, c.leaf.ensures.key, c.leaf.ensures.size, c.image.ensures.bytes) (record { low = c.requires.tree.low; high = c.requires.tree.high; rise = rise })

pub returns-then-level-eq0-clause-value : goal.returns-then-level-eq0-clause-value
returns-then-level-eq0-clause-value t c =
    let h = data_of c.args.heap.now in
    let z = c.args.sizes in
    let is = c.item_named-item.ensures.value in
    let found : c.find_in.result ≡ first_with (row_key h.image z.key) c.args.key (rows_at (leaf_size z) c.item_named-item.result) =
    rw (c.leaf.ensures.image, c.leaf.ensures.item, c.leaf.ensures.key, c.leaf.ensures.size, c.image.ensures.bytes) at c.find_in.ensures.value in
    found ∙ ap (first_with (row_key h.image z.key) c.args.key) (sym (rows_of_leaf h z c.args.level c.args.named c.item_named-item.result is c.if-level-eq0.true))

-- ---- a branch

pub returns-then-count-eq0-clause-value : goal.returns-then-count-eq0-clause-value
returns-then-count-eq0-clause-value t c =
    let h = data_of c.args.heap.now in
    let z = c.args.sizes in
    let is = c.item_named-item.ensures.value in
    let u : IsUpToKey h.image z.key (branch_size z) c.item_named-item.result c.args.key c.up_to-count.result =
    rw (c.branch-rows.ensures.image, c.branch-rows.ensures.item, c.branch-rows.ensures.key, c.branch-rows.ensures.size, c.image-2.ensures.bytes) at c.up_to-count.ensures in
    sym (find_nowhere h z c.args.level (c.args.level - 1) c.args.named c.item_named-item.result c.args.key c.up_to-count.result c.requires.tree is (omega (arith, c.if-level-eq0.false)) u c.if-count-eq0.true)

pub find_below-requires : goal.find_below-requires
find_below-requires t c =
    let h = data_of c.args.heap.now in
    let z = c.args.sizes in
    let is = c.item_named-item.ensures.value in
    let u : IsUpToKey h.image z.key (branch_size z) c.item_named-item.result c.args.key c.up_to-count.result =
    rw (c.branch-rows.ensures.image, c.branch-rows.ensures.item, c.branch-rows.ensures.key, c.branch-rows.ensures.size, c.image-2.ensures.bytes) at c.up_to-count.ensures in
    let lt : c.up_to-count.result - 1 < row_count (branch_size z) c.item_named-item.result = omega (arith, u.within, c.if-count-eq0.false) in
    let place : c.child.result ≡ row_place (branch_size z) c.item_named-item.result (c.up_to-count.result - 1) + z.key = cc (c.child.ensures.value, c.branch-rows.ensures.item, c.branch-rows.ensures.key, c.branch-rows.ensures.size) in
    let child = child_has h z c.args.level (c.args.level - 1) c.args.named c.item_named-item.result (c.up_to-count.result - 1) c.requires.tree is (omega (arith, c.if-level-eq0.false)) lt in (
      omega (arith, c.if-level-eq0.false, c.decreases),
      (c.requires.key, ((rw (c.branch-rows.ensures.image, c.image-2.ensures.bytes) at c.child.ensures.inside), rw place child)),
    )

pub returns-clause-value : goal.returns-clause-value
returns-clause-value t c =
    let h = data_of c.args.heap.now in
    let z = c.args.sizes in
    let is = c.item_named-item.ensures.value in
    let u : IsUpToKey h.image z.key (branch_size z) c.item_named-item.result c.args.key c.up_to-count.result =
    rw (c.branch-rows.ensures.image, c.branch-rows.ensures.item, c.branch-rows.ensures.key, c.branch-rows.ensures.size, c.image-2.ensures.bytes) at c.up_to-count.ensures in
    let place : c.child.result ≡ row_place (branch_size z) c.item_named-item.result (c.up_to-count.result - 1) + z.key = cc (c.child.ensures.value, c.branch-rows.ensures.item, c.branch-rows.ensures.key, c.branch-rows.ensures.size) in
    let found = find_child h z c.args.level (c.args.level - 1) c.args.named c.item_named-item.result c.args.key c.up_to-count.result c.requires.tree is (omega (arith, c.if-level-eq0.false)) u (omega (arith, c.if-count-eq0.false)) in
    c.find_below.ensures.value ∙ ap (λ n. first_with (row_key h.image z.key) c.args.key (tree_rows h z (c.args.level - 1) n)) place ∙ sym found
