use Rattle.std.proofs.Common.{ap, ◌∙◌}
use Rattle.pst_bytes.specs.Image.{bytes_of}
use Rattle.pst_space.specs.Claimed.{Claimed, with_spans}
use Rattle.pst_ndb.specs.Space.{space_spans}
use Rattle.pst_ndb.proofs.MarkLaws.{maps_mark}
use Rattle.pst_ndb.proofs.space.check_maps.Goals as goal

pub returns-clause-marks : goal.returns-clause-marks
returns-clause-marks c =
    let is = c.in_ok-space.ensures.claims ∙ ap (λ (m : Claimed). with_spans m (space_spans (bytes_of c.args.image) c.args.header.now)) c.in_ok-claims.ensures.maps in
    maps_mark (bytes_of c.args.image) c.args.header.now _ c.in_ok-report.report is c.in_ok-report.ensures.none c.in_ok-report.ensures.report
