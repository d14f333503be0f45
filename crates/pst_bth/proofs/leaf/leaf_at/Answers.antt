use Rattle.std.proofs.Common.{◌≡◌, [], refl, ap, ◌∙◌}
use Rattle.pst_heap.specs.View.{data_of}
use Rattle.pst_bth.specs.Rows.{rows_at, leaf_size}
use Rattle.pst_bth.specs.Find.{rows_from_key}
use Rattle.pst_bth.specs.Leaf.{BeginsAt}
use Rattle.pst_bth.proofs.FindLemmas.{item_is_there, leaf_rises, rows_of_leaf}
use Rattle.pst_bth.proofs.LeafLemmas.{leaf_alone}
use Rattle.pst_bth.proofs.leaf.leaf_at.Goals as goal

pub item_named-item-requires-clause-there : goal.item_named-item-requires-clause-there
item_named-item-requires-clause-there c = λ nothing. item_is_there (data_of c.args.heap.now) c.args.sizes 0 c.args.named c.requires.tree nothing

pub first_in-requires : goal.first_in-requires
first_in-requires c =
    let h = data_of c.args.heap.now in
    let z = c.args.sizes in
    let is = c.item_named-item.ensures.value in
    let rise = leaf_rises h z 0 c.args.named c.item_named-item.result c.requires.tree is refl in
    rw (c.leaf.ensures.image, c.leaf.ensures.item, c.leaf.ensures.key, c.leaf.ensures.size, c.image.ensures.bytes) (record { low = c.requires.tree.low; high = c.requires.tree.high; rise = rise })

pub returns-in_default-clause-found : goal.returns-in_default-clause-found
returns-in_default-clause-found c =
    let h = data_of c.args.heap.now in
    let z = c.args.sizes in
    let is = c.item_named-item.ensures.value in
    let nothing : rows_from_key h.image z.key c.args.low (rows_at (leaf_size z) c.item_named-item.result) ≡ [] =
    rw (c.leaf.ensures.image, c.leaf.ensures.item, c.leaf.ensures.key, c.leaf.ensures.size, c.image.ensures.bytes) at c.in_default.ensures in
    ap (rows_from_key h.image z.key c.args.low) (rows_of_leaf h z 0 c.args.named c.item_named-item.result is refl) ∙ nothing

pub returns-clause-found : goal.returns-clause-found
returns-clause-found c =
    let h = data_of c.args.heap.now in
    let z = c.args.sizes in
    let is = c.item_named-item.ensures.value in
    let begins : BeginsAt h.image z.key (leaf_size z) c.item_named-item.result c.args.low c.in-Some.first =
    rw (c.leaf.ensures.image, c.leaf.ensures.item, c.leaf.ensures.key, c.leaf.ensures.size, c.image.ensures.bytes) at c.in-Some.ensures in
    leaf_alone h.image z.key (leaf_size z) c.args.low (record { item = c.item_named-item.result; first = c.in-Some.first }) _ (rows_of_leaf h z 0 c.args.named c.item_named-item.result is refl) begins
