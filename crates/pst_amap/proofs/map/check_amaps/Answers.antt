use Rattle.std.proofs.Common.{arith}
use Rattle.std.proofs.lemmas.Result.{err_from_is_err_and}
use Rattle.pst_bytes.specs.Image.{bytes_of}
use Rattle.pst_fault.proofs.FirstLemmas.{answer-first_at}
use Rattle.pst_header.specs.Header.{amap_count_of}
use Rattle.pst_amap.specs.Map.{amap_fault}
use Rattle.pst_amap.proofs.AnswerLemmas.{part_passed, all_passed}
use Rattle.pst_amap.proofs.map.check_amaps.Goals as goal

pub returns-in_err-check_amap : goal.returns-in_err-check_amap
returns-in_err-check_amap c =
    let p = err_from_is_err_and c.from_residual.result c.from_residual.ensures.1 in
    rw (p.1, p.2)
    (answer-first_at (amap_fault (bytes_of c.args.image)) (amap_count_of c.args.header.now) c.loop-region.region _ _ _ c.in_err-check_amap.ensures c.loop-region.invariant (omega arith))

pub loop-region-preserved : goal.loop-region-preserved
loop-region-preserved c = part_passed (amap_fault (bytes_of c.args.image)) c.loop-region.region _ _ c.in_ok-check_amap.ensures c.loop-region.invariant

pub returns : goal.returns
returns c = all_passed (amap_fault (bytes_of c.args.image)) c.loop-region.region (amap_count_of c.args.header.now) _ c.loop-region.invariant (omega arith)
