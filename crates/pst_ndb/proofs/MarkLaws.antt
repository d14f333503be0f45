-- The maps of a file mark exactly what is in use, and the lost runs.
use Rattle.std.proofs.Common.{◌≡◌, ℕ, List, None, subst}
use Rattle.pst_header.specs.declared.header.Header.{Header}
use Rattle.pst_space.specs.Claimed.{Claimed}
use Rattle.pst_amap.specs.declared.report.MapReport.{MapReport}
use Rattle.pst_amap.specs.Exact.{MarkExactly}
use Rattle.pst_amap.specs.Report.{maps_fault, old_maps, IsReport}
use Rattle.pst_amap.proofs.ExactLaws.{exact_law}
use Rattle.pst_ndb.specs.Marks.{MapsMark}
use Rattle.pst_ndb.specs.Space.{space_claimed}

pub maps_mark : (I : List ℕ) (h : Header) (claimed : Claimed) (report : MapReport) → claimed ≡ space_claimed I h → maps_fault I h claimed ≡ None → IsReport I h claimed report → MapsMark I h report
maps_mark I h claimed report is none r =
    subst (λ (m : Claimed). MarkExactly report.order I (old_maps I h m).claimed report.lost.items) is (exact_law I h claimed report none r)
