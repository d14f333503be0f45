-- The first fault of a page. Each is told at the page, with the identifier of the reference (BREF) that names it.
use Rattle.std.specs.Prelude.{ℕ, ◌+◌, ◌*◌, Bool, ◌&&◌, ◌||◌, nat_eq, nat_le, nat_lt, List, Option}
use Rattle.pst_bytes.specs.Image.{num}
use Rattle.pst_crc.specs.Crc.{signature_of}
use Rattle.pst_fault.specs.declared.fault.Fault.{Fault}
use Rattle.pst_fault.specs.declared.kind.Kind.TheVariants.{PagePlace, PageTrailer, PageShape}
use Rattle.pst_fault.specs.Fault.{fault_in}
use Rattle.pst_fault.specs.First.{◌then◌, holds_or}
use Rattle.pst_header.specs.Place.{is_place}
use Rattle.pst_header.specs.declared.header.Bref.{Bref}
use Rattle.pst_page.specs.declared.kind.PageKind.{PageKind}
use Rattle.pst_page.specs.Entry.{entry_size}
use Rattle.pst_page.specs.Trailer.{has_trailer}
use Rattle.pst_page.specs.Page.{page_type, page_span, count_at, width_at, level_at}

-- The trailer (2.2.2.7.1): the type twice, the identifier, the signature and the check value.
unfoldable pub has_page_trailer : PageKind → List ℕ → Bref → Bool
has_page_trailer kind I bref =
    nat_eq (num I (bref.ib + 496) 1) (page_type kind) && nat_eq (num I (bref.ib + 497) 1) (page_type kind)
    && has_trailer I bref.ib (signature_of bref.ib bref.bid) bref.bid

-- The shape (2.2.2.7.7.1): entries are wide enough and fit, the level is at most 15, and a branch has an entry.
unfoldable pub has_shape : PageKind → List ℕ → ℕ → Bool
has_shape kind I ib =
    nat_le (entry_size kind (level_at I ib)) (width_at I ib)
    && nat_le (count_at I ib * width_at I ib) 488
    && nat_le (level_at I ib) 15
    && (nat_eq (level_at I ib) 0 || nat_lt 0 (count_at I ib))

-- A page lies in the mapped part, which ends at `end`.
unfoldable pub page_place_fault : ℕ → Bref → Option Fault
page_place_fault end bref = holds_or (is_place end (page_span bref.ib)) (fault_in PagePlace bref.ib bref.bid)

abbrev pub page_trailer_fault : PageKind → List ℕ → Bref → Option Fault
page_trailer_fault kind I bref = holds_or (has_page_trailer kind I bref) (fault_in PageTrailer bref.ib bref.bid)

abbrev pub page_shape_fault : PageKind → List ℕ → Bref → Option Fault
page_shape_fault kind I bref = holds_or (has_shape kind I bref.ib) (fault_in PageShape bref.ib bref.bid)

-- of a page that is in its place
unfoldable pub open_fault : PageKind → List ℕ → Bref → Option Fault
open_fault kind I bref = page_trailer_fault kind I bref then page_shape_fault kind I bref

-- of a page, whatever its reference says
unfoldable pub page_fault : ℕ → PageKind → List ℕ → Bref → Option Fault
page_fault end kind I bref = page_place_fault end bref then open_fault kind I bref

-- A child is one level below its parent: its page has the level that is wanted there.
unfoldable pub level_fault : List ℕ → ℕ → Bref → Option Fault
level_fault I level bref = holds_or (nat_eq (level_at I bref.ib) level) (fault_in PageShape bref.ib bref.bid)
