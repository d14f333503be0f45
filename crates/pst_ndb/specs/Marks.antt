-- What the allocation maps of a file mark.
use Rattle.std.specs.Prelude.{ℕ, List}
use Rattle.pst_header.specs.declared.header.Header.{Header}
use Rattle.pst_amap.specs.declared.report.MapReport.{MapReport}
use Rattle.pst_amap.specs.Exact.{MarkExactly}
use Rattle.pst_amap.specs.Report.{old_maps}
use Rattle.pst_ndb.specs.Space.{space_claimed}

-- The maps of a file mark exactly the pages and blocks in use, the old map pages, and the lost runs of a report.
abbrev pub MapsMark : List ℕ → Header → MapReport → Type 0
MapsMark I h report = MarkExactly report.order I (old_maps I h (space_claimed I h)).claimed report.lost.items
