use Rattle.std.proofs.Common.{◌≤◌, [], ◌∷◌, List, length, arith, ◌∙◌, ap, sym, subst}
use Rattle.std.proofs.lemmas.List.{length-append}
use Rattle.std.proofs.lemmas.Result.{err_from_is_err_and}
use Rattle.std.specs.List.{All}
use Rattle.pst_make.specs.declared.layout.Bref.{Bref}
use Rattle.pst_make.specs.Layout.{IsPageBelow}
use Rattle.pst_make.proofs.LayoutLemmas.{fault_later, pages_reach, pages_step, pages_below}
use Rattle.pst_make.proofs.layout.place_pages.Goals as goal

pub returns-in_err-page-clause-fault : goal.returns-in_err-page-clause-fault
returns-in_err-page-clause-fault c =
    let p = err_from_is_err_and c.from_residual.result c.from_residual.ensures.1 in
    rw (p.1, p.2) (fault_later _ _ _ c.in_err-page.ensures.fault (pages_reach _ _ _ _ c.loop-number-test.true c.loop-number.invariant.next))

pub loop-number-preserved : goal.loop-number-preserved
loop-number-preserved c =
    let more = ap length c.in_ok-push.ensures.items ∙ length-append c.loop-number.pages.items (c.in_ok-page.page ∷ []) in
    let from = c.loop-number.cursor.from in
    let place = c.in_ok-page.ensures.placed.0 in
    let next = c.in_ok-page.ensures.placed.1 in
    let ahead = c.in_ok-page.ensures.forward in
    let forward : c.loop-number.cursor.next ≤ c.page.new.self.next = omega (arith, place, next, ahead) in
    record {
      count = omega (arith, more, c.loop-number.invariant.count);
      next = pages_step c.args.count c.loop-number.number c.loop-number.cursor.next _ _ c.loop-number-test.true c.loop-number.invariant.next next;
      below = subst (λ (items : List Bref). All (IsPageBelow c.page.new.self.next) items) (sym c.in_ok-push.ensures.items)
          (pages_below c.loop-number.pages.items c.in_ok-page.page c.loop-number.cursor.next c.page.new.self.next c.loop-number.invariant.below forward (omega (arith, from, ahead)) (omega (arith, place, next)));
    }
