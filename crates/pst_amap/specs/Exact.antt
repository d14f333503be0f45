-- What the maps of a file mark, as a report tells it ([MS-PST] 2.2.2.7.2).
use Rattle.std.specs.Prelude.{◌≡◌, ℕ, ◌<◌, ◌↔◌, ◌⊎◌, true, None, List, length}
use Rattle.pst_bytes.specs.declared.span.Span.{Span}
use Rattle.pst_header.specs.declared.header.Header.{Header}
use Rattle.pst_space.specs.Claimed.{Claimed, flag_of}
use Rattle.pst_amap.specs.declared.report.BitOrder.{BitOrder}
use Rattle.pst_amap.specs.declared.report.MapReport.{MapReport}
use Rattle.pst_amap.specs.Lost.{LiesInSome}
use Rattle.pst_amap.specs.Marks.{is_marked}
use Rattle.pst_amap.specs.Report.{maps_fault, old_maps, IsReport}

-- a unit of the mapped part is marked exactly where it is claimed or lies in one of these runs
abbrev pub MarkExactly : BitOrder → List ℕ → Claimed → List Span → Type 0
MarkExactly order I claimed lost =
    (unit : ℕ) → unit < length claimed → (is_marked order I unit ≡ true) ↔ ((flag_of claimed unit ≡ true) ⊎ LiesInSome unit lost)

-- Maps without fault mark exactly what is claimed, the old map pages, and the lost runs of their report.
abbrev pub ExactLaw : Type 0
ExactLaw = (I : List ℕ) (h : Header) (claimed : Claimed) (report : MapReport) → maps_fault I h claimed ≡ None → IsReport I h claimed report →
    MarkExactly report.order I (old_maps I h claimed).claimed report.lost.items
