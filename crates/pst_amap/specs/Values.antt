-- The old map pages and the lost runs of a file, read with no check.
use Rattle.std.specs.Prelude.{ℕ, zero, suc, ◌+◌, Bool, true, ◌&&◌, ◌||◌, nat_le, List, [], ◌∷◌, ◌++◌, if◌then◌else◌}
use Rattle.pst_bytes.specs.declared.span.Span.{Span}
use Rattle.pst_bytes.specs.Span.{end_of_span}
use Rattle.pst_header.specs.Header.{amap_place}
use Rattle.pst_space.specs.Claimed.{page_at}
use Rattle.pst_amap.specs.declared.report.BitOrder.{BitOrder}
use Rattle.pst_amap.specs.Grammar.{is_marked_beside}
use Rattle.pst_amap.specs.Lost.{runs_from}
use Rattle.pst_amap.specs.Old.{looks_old}

-- whether a span has no byte in common with another, and with any of these
abbrev pub is_apart_from : Span → Span → Bool
is_apart_from s t = nat_le (end_of_span s) t.at || nat_le (end_of_span t) s.at

abbrev pub is_apart_from_all : Span → List Span → Bool
is_apart_from_all s [] = true
is_apart_from_all s (t ∷ ts) = is_apart_from s t && is_apart_from_all s ts

-- the old map page at a place, if there is one
unfoldable pub old_page_at : BitOrder → List ℕ → ℕ → List Span → ℕ → List Span
old_page_at order I end used at = if looks_old order I end at && is_apart_from_all (page_at at) used then page_at at ∷ [] else []

-- those of the first n regions
unfoldable pub old_pages : BitOrder → List ℕ → ℕ → List Span → ℕ → List Span
old_pages order I end used zero = []
old_pages order I end used (suc n) =
    old_pages order I end used n ++ (old_page_at order I end used (amap_place n + 1024) ++ old_page_at order I end used (amap_place n + 1536))

-- the runs of the first n units that are marked beside some spans
abbrev pub runs_beside : BitOrder → List ℕ → ℕ → List Span → List Span
runs_beside order I n spans = runs_from (is_marked_beside order I spans) 0 0 n
