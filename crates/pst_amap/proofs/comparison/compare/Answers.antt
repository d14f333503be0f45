use Rattle.pst_bytes.specs.Image.{bytes_of}
use Rattle.pst_amap.specs.Marks.{bit_order_of}
use Rattle.pst_amap.specs.Report.{maps_fault}
use Rattle.pst_amap.proofs.ReportLemmas.{found_none, report_is, claims_are}
use Rattle.pst_amap.proofs.comparison.compare.Goals as goal

pub returns-clause-none : goal.returns-clause-none
returns-clause-none c =
    found_none (maps_fault (bytes_of c.args.image) c.args.header.now c.args.claims.now) (bit_order_of (bytes_of c.args.image) c.args.claims.now) c.in_ok-order.order c.in_ok-order.ensures

pub returns-clause-report : goal.returns-clause-report
returns-clause-report c =
    report_is (bytes_of c.args.image) c.args.header.now c.args.claims.now c.claim_old_maps-old_maps.new.claims _ c.in_ok-order.ensures c.claim_old_maps-old_maps.ensures.found c.in_ok-lost.ensures

pub returns-clause-claims : goal.returns-clause-claims
returns-clause-claims c =
    claims_are (bytes_of c.args.image) c.args.header.now c.args.claims.now c.claim_old_maps-old_maps.new.claims c.in_ok-order.order c.claim_old_maps-old_maps.result c.in_ok-order.ensures c.claim_old_maps-old_maps.ensures.found
