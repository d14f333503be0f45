use Rattle.std.proofs.lemmas.Result.{err_from_is_err_and}
use Rattle.pst_bytes.specs.Image.{bytes_of}
use Rattle.pst_header.specs.Header.{amap_count_of}
use Rattle.pst_amap.specs.Map.{amaps_fault}
use Rattle.pst_amap.specs.Marks.{missing_fault, bit_order_of}
use Rattle.pst_amap.specs.Report.{maps_fault}
use Rattle.pst_amap.proofs.ReportLemmas.{then_err, then_ok}
use Rattle.pst_amap.proofs.comparison.check_order.Goals as goal

pub returns-in_err-check_amaps : goal.returns-in_err-check_amaps
unfolding maps_fault
returns-in_err-check_amaps c =
    let p = err_from_is_err_and c.from_residual.result c.from_residual.ensures.1 in
    rw (p.1, p.2)
    (then_err (amaps_fault (bytes_of c.args.image) (amap_count_of c.args.header.now)) (missing_fault (bytes_of c.args.image) c.args.claims.now) _ _ _ c.in_err-check_amaps.ensures)

pub returns : goal.returns
unfolding maps_fault
returns c =
    then_ok (amaps_fault (bytes_of c.args.image) (amap_count_of c.args.header.now)) (missing_fault (bytes_of c.args.image) c.args.claims.now) _ _
    (bit_order_of (bytes_of c.args.image) c.args.claims.now) c.find_order.result c.in_ok-check_amaps.ensures c.find_order.ensures
