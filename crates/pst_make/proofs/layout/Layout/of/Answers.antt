use Rattle.std.proofs.Common.{◌≡◌, ◌≤◌, ◌<◌, ℕ, List, length, arith, ◌∙◌, ap, sym}
use Rattle.std.proofs.lemmas.List.{length-map}
use Rattle.std.proofs.lemmas.Result.{err_from_is_err_and}
use Rattle.std.specs.List.{All}
use Rattle.pst_make.specs.declared.plan.BlockPlan.{BlockPlan}
use Rattle.pst_make.specs.declared.plan.NodePlan.{NodePlan}
use Rattle.pst_make.specs.Layout.{tree_pages, IsPageBelow}
use Rattle.pst_make.specs.Plan.{body_length, body_lengths}
use Rattle.pst_make.proofs.LayoutLemmas.{fault_later, end_is, nodes_before, pages_before, blocks_before, still_below, places_are, tree_some, pages_forward, blocks_forward}
use Rattle.pst_make.proofs.layout.Layout.of.Goals as goal

-- the counts of pages, in the plan's terms
node_count : (items shown : List NodePlan) (count : ℕ) → shown ≡ items → count ≡ tree_pages 15 (length shown) → count ≡ tree_pages 15 (length items)
node_count items shown count same is = is ∙ ap (λ (l : List NodePlan). tree_pages 15 (length l)) same

block_count : (items shown : List BlockPlan) (count : ℕ) → shown ≡ items → count ≡ tree_pages 20 (length shown) → count ≡ tree_pages 20 (length (body_lengths items))
block_count items shown count same is = is ∙ ap (λ (l : List BlockPlan). tree_pages 20 (length l)) same ∙ ap (tree_pages 20) (sym (length-map items body_length))

pub returns-in_err-node_pages-clause-fault : goal.returns-in_err-node_pages-clause-fault
returns-in_err-node_pages-clause-fault c =
    let p = err_from_is_err_and c.from_residual.result c.from_residual.ensures.1 in
    let fault = rw (c.free_from.ensures) at c.in_err-node_pages.ensures.fault in
    let nodes = node_count _ _ _ c.as_slice-nodes.ensures.value c.tree_pages-node_count.ensures in
    rw (p.1, p.2) (fault_later _ _ _ fault (nodes_before _ _ (body_lengths c.args.plan.now.blocks.items) nodes))

pub returns-in_err-block_pages-clause-fault : goal.returns-in_err-block_pages-clause-fault
returns-in_err-block_pages-clause-fault c =
    let p = err_from_is_err_and c.from_residual-in_err-block_pages.result c.from_residual-in_err-block_pages.ensures.1 in
    let nodes = node_count _ _ _ c.as_slice-nodes.ensures.value c.tree_pages-node_count.ensures in
    let blocks = block_count _ _ _ c.as_slice-blocks.ensures.value c.tree_pages-block_count.ensures in
    let one = rw (c.free_from.ensures) at c.in_ok-node_pages.ensures.next in
    rw (p.1, p.2) (fault_later _ _ _ c.in_err-block_pages.ensures.fault (pages_before _ _ _ (body_lengths c.args.plan.now.blocks.items) _ nodes blocks one))

pub returns-in_err-placed-clause-fault : goal.returns-in_err-placed-clause-fault
returns-in_err-placed-clause-fault c =
    let p = err_from_is_err_and c.from_residual-in_err-placed.result c.from_residual-in_err-placed.ensures.1 in
    let nodes = node_count _ _ _ c.as_slice-nodes.ensures.value c.tree_pages-node_count.ensures in
    let blocks = block_count _ _ _ c.as_slice-blocks.ensures.value c.tree_pages-block_count.ensures in
    let one = rw (c.free_from.ensures) at c.in_ok-node_pages.ensures.next in
    let fault = rw (c.as_slice-blocks.ensures.value) at c.in_err-placed.ensures.fault in
    rw (p.1, p.2) (fault_later _ _ _ fault (blocks_before _ _ _ (body_lengths c.args.plan.now.blocks.items) _ _ nodes blocks one c.in_ok-block_pages.ensures.next))

pub invariant_of-result : goal.invariant_of-result
invariant_of-result c =
    let nodes = c.in_ok-node_pages.ensures.placed in
    let blocks = c.in_ok-block_pages.ensures.placed in
    let later : c.place_pages.new.cursor.next ≤ c.place_pages-2.new.cursor.next =
    let f = pages_forward c.place_pages.new.cursor.next c.tree_pages-block_count.result in omega (arith, f, c.in_ok-block_pages.ensures.next) in
    let last : c.place_pages-2.new.cursor.next ≤ c.place_blocks.new.cursor.next =
    let f = blocks_forward c.place_pages-2.new.cursor.next (body_lengths c.as_slice-blocks.result.now) in omega (arith, f, c.in_ok-placed.ensures.next) in
    let some_nodes : 0 < length c.in_ok-node_pages.node_pages.items =
    let s = tree_some 15 (length c.as_slice-nodes.result.now) in omega (arith, s, nodes.0, c.tree_pages-node_count.ensures) in
    let some_blocks : 0 < length c.in_ok-block_pages.block_pages.items =
    let s = tree_some 20 (length c.as_slice-blocks.result.now) in omega (arith, s, blocks.0, c.tree_pages-block_count.ensures) in
    let node_pages : All (IsPageBelow c.place_blocks.new.cursor.next) c.in_ok-node_pages.node_pages.items = still_below _ _ _ nodes.1 (omega (arith, later, last)) in
    let block_pages : All (IsPageBelow c.place_blocks.new.cursor.next) c.in_ok-block_pages.block_pages.items = still_below _ _ _ blocks.1 last in
    let first = node_pages 0 (record { bid = 0; ib = 0 }) some_nodes in
    record {
      from = omega (arith, first.0, first.1);
      limited = c.place_blocks.new.cursor.limited;
      node_root = some_nodes;
      block_root = some_blocks;
      node_pages_below = node_pages;
      block_pages_below = block_pages;
      blocks_below = c.in_ok-placed.ensures.placed;
    }

pub returns-clause-placed : goal.returns-clause-placed
returns-clause-placed c =
    let nodes = node_count _ _ _ c.as_slice-nodes.ensures.value c.tree_pages-node_count.ensures in
    let blocks = block_count _ _ _ c.as_slice-blocks.ensures.value c.tree_pages-block_count.ensures in
    let one = rw (c.free_from.ensures) at c.in_ok-node_pages.ensures.next in
    let three = rw (c.as_slice-blocks.ensures.value) at c.in_ok-placed.ensures.next in
    end_is _ _ _ _ _ _ _ nodes blocks one c.in_ok-block_pages.ensures.next three

pub returns-clause-places : goal.returns-clause-places
returns-clause-places c =
    let nodes = node_count _ _ _ c.as_slice-nodes.ensures.value c.tree_pages-node_count.ensures in
    let blocks = block_count _ _ _ c.as_slice-blocks.ensures.value c.tree_pages-block_count.ensures in
    let one = rw (c.free_from.ensures) at c.in_ok-node_pages.ensures.next in
    places_are c.args.plan.now _ _ _ _ c.as_slice-blocks.result.now _ c.as_slice-blocks.ensures.value nodes blocks one c.in_ok-block_pages.ensures.next c.in_ok-placed.ensures.places
