use Rattle.std.proofs.Common.{◌≡◌, ◌≤◌, ◌+◌, ◌++◌, ℕ, List, length, map, drop, arith, refl, ◌∙◌, ap, sym, subst}
use Rattle.std.proofs.lemmas.Result.{err_from_is_err_and}
use Rattle.std.specs.List.{All}
use Rattle.pst_make.specs.declared.layout.PlacedBlock.{PlacedBlock}
use Rattle.pst_make.specs.declared.plan.BlockPlan.{BlockPlan}
use Rattle.pst_make.specs.Layout.{after, place_of, place_of_block, places_from, IsBlockBelow}
use Rattle.pst_make.specs.Plan.{body_length}
use Rattle.pst_make.specs.Sealed.{sealed_size}
use Rattle.pst_make.proofs.LayoutLemmas.{fault_later, blocks_reach, blocks_step, blocks_below, places_next, places_done}
use Rattle.pst_make.proofs.layout.place_blocks.Goals as goal

pub returns-in_err-ib-clause-fault : goal.returns-in_err-ib-clause-fault
returns-in_err-ib-clause-fault c =
    let p = err_from_is_err_and c.from_residual.result c.from_residual.ensures.1 in
    let fault = rw (c.block_size.ensures, c.as_slice-body.ensures.value) at c.in_err-ib.ensures.fault in
    rw (p.1, p.2) (fault_later _ _ _ fault (blocks_reach c.args.blocks.now c.loop-block.block-index c.block-item.result c.loop-block.cursor.next _ c.loop-block-test.true c.block-item.is c.loop-block.invariant.next))

pub loop-block-preserved : goal.loop-block-preserved
loop-block-preserved c =
    let body-is = c.as_slice-body.ensures.value in
    let size-is : c.block_size.result ≡ sealed_size (body_length c.block-item.result) = c.block_size.ensures ∙ ap (λ (b : List ℕ). sealed_size (length b)) body-is in
    let next-is = c.in_ok-ib.ensures.placed.1 ∙ ap (after c.loop-block.cursor.next) size-is in
    let short : body_length c.block-item.result ≤ 8176 = subst (λ (b : BlockPlan). body_length b ≤ 8176) (sym c.block-item.is) (c.requires c.loop-block.block-index c.block-item.result c.loop-block-test.true) in
    let few : length c.as_slice-body.result.now ≤ 8176 = rw body-is short in
    let above = c.loop-block.cursor.from in
    let ends : c.in_ok-ib.ib + sealed_size (length c.as_slice-body.result.now) ≤ c.place.new.self.next =
    omega (arith, c.in_ok-ib.ensures.placed.0, c.in_ok-ib.ensures.placed.1, c.block_size.ensures) in
    let forward : c.loop-block.cursor.next ≤ c.place.new.self.next = omega (arith, c.in_ok-ib.ensures.forward, c.in_ok-ib.ensures.placed.0, c.in_ok-ib.ensures.placed.1) in
    record {
      next = blocks_step c.args.blocks.now c.loop-block.block-index c.block-item.result c.loop-block.cursor.next _ _ c.loop-block-test.true c.block-item.is c.loop-block.invariant.next next-is;
      places = subst (λ (items : List PlacedBlock). map place_of_block items ++ places_from c.place.new.self.next (drop (c.loop-block.block-index + 1) c.args.blocks.now) ≡ places_from c.args.cursor.now.next c.args.blocks.now) (sym c.in_ok-push.ensures.items)
          (places_next c.args.blocks.now c.loop-block.block-index c.block-item.result c.loop-block.placed.items _ c.loop-block.cursor.next c.place.new.self.next _ c.loop-block-test.true c.block-item.is
          refl (c.in_ok-ib.ensures.placed.0 ∙ ap (place_of c.loop-block.cursor.next) size-is) (ap length body-is) next-is c.loop-block.invariant.places);
      below = subst (λ (items : List PlacedBlock). All (IsBlockBelow c.place.new.self.next) items) (sym c.in_ok-push.ensures.items)
          (blocks_below _ _ _ _ c.loop-block.invariant.below forward (omega (arith, c.in_ok-ib.ensures.forward, above), few, ends));
    }

pub returns-clause-places : goal.returns-clause-places
returns-clause-places c = places_done c.args.blocks.now c.loop-block.block-index c.loop-block.placed.items c.loop-block.cursor.next _ (omega (arith, c.loop-block-test.false)) c.loop-block.invariant.places
