use Rattle.std.proofs.Common.{◌≤◌, [], length, refl, inl, inr, arith, drop_of_length-le}
use Rattle.std.proofs.lemmas.List.{drop_more}
use Rattle.std.proofs.lemmas.Result.{err_from_is_err_and}
use Rattle.pst_make.specs.declared.change.Change.TheVariants.{Set}
use Rattle.pst_make.specs.Change.{AreChanged, StopsAt}
use Rattle.pst_make.proofs.change.change_all.Goals as goal

pub loop-one-preserved : goal.loop-one-preserved
unfolding AreChanged StopsAt
loop-one-preserved c =
    let none = Set 0 (record { ref_ptr = (0, 0); now = [] }) in
    let more = drop_more c.args.changes.now c.loop-one.one-index none c.loop-one-test.true in
    record {
      done = λ new left. c.loop-one.invariant.done new (rw more (c.apply.new.image.items, c.in_ok-apply.ensures.done, left));
      stops = λ new fault left. c.loop-one.invariant.stops new fault (rw more (inr (c.apply.new.image.items, c.in_ok-apply.ensures.done, left)));
    }

pub returns-in_err-apply-clause-stops : goal.returns-in_err-apply-clause-stops
unfolding StopsAt
returns-in_err-apply-clause-stops c =
    let none = Set 0 (record { ref_ptr = (0, 0); now = [] }) in
    let more = drop_more c.args.changes.now c.loop-one.one-index none c.loop-one-test.true in
    let p = err_from_is_err_and c.from_residual.result c.from_residual.ensures.1 in
    rw (p.1, p.2) (c.loop-one.invariant.stops c.apply.new.image.items c.in_err-apply.field-0.0 (rw more (inl (c.in_err-apply.ensures.same, c.in_err-apply.ensures.refused))))

pub returns-clause-done : goal.returns-clause-done
unfolding AreChanged
returns-clause-done c =
    let past : length c.args.changes.now ≤ c.loop-one.one-index = omega (arith, c.loop-one-test.false) in
    c.loop-one.invariant.done c.loop-one.image.items (rw (drop_of_length-le c.args.changes.now past) refl)
