use Rattle.std.proofs.Common.{◌<◌, length, arith}
use Rattle.std.proofs.lemmas.Result.{err_from_is_err_and}
use Rattle.pst_bytes.specs.Image.{bytes_of}
use Rattle.pst_fault.proofs.FirstLemmas.{answer-first_at}
use Rattle.pst_amap.specs.Marks.{unit_fault}
use Rattle.pst_amap.proofs.AnswerLemmas.{part_passed, all_passed}
use Rattle.pst_amap.proofs.marks.check_marks.Goals as goal

pub returns-in_err-check_unit : goal.returns-in_err-check_unit
returns-in_err-check_unit c =
    let p = err_from_is_err_and c.from_residual.result c.from_residual.ensures.1 in
    let before : c.loop-unit.unit < length c.args.claims.now = omega arith in
    rw (p.1, p.2)
    (answer-first_at (unit_fault c.args.order (bytes_of c.args.image) c.args.claims.now) (length c.args.claims.now) c.loop-unit.unit _ _ _ c.in_err-check_unit.ensures c.loop-unit.invariant.sound before)

pub loop-unit-preserved : goal.loop-unit-preserved
loop-unit-preserved c = record {
  inside = omega arith;
  sound = part_passed (unit_fault c.args.order (bytes_of c.args.image) c.args.claims.now) c.loop-unit.unit _ _ c.in_ok-check_unit.ensures c.loop-unit.invariant.sound;
}

pub returns : goal.returns
returns c = all_passed (unit_fault c.args.order (bytes_of c.args.image) c.args.claims.now) c.loop-unit.unit (length c.args.claims.now) _ c.loop-unit.invariant.sound (omega (arith, c.loop-unit.invariant.inside))
