-- A page has no first fault exactly where it is good and has its shape.
use Rattle.std.proofs.Common.{◌≡◌, ℕ, List, None, Result, Ok, Err, refl}
use Rattle.std.specs.Prelude.{◌↔◌, OnOk, IsOk}
use Rattle.pst_fault.specs.declared.fault.Fault.{Fault}
use Rattle.pst_fault.proofs.FirstLemmas.{none_then, both_none, holds_or_none, holds_or_true}
use Rattle.pst_header.specs.declared.header.Bref.{Bref}
use Rattle.pst_page.specs.declared.kind.PageKind.{PageKind}
use Rattle.pst_fault.specs.First.{Checks}
use Rattle.pst_header.specs.Place.{IsPlace}
use Rattle.pst_header.proofs.PlaceLemmas.{is_place_good, good_is_place}
use Rattle.pst_page.specs.Page.{level_at, page_span}
use Rattle.pst_page.specs.Fault.{page_place_fault, page_trailer_fault, page_shape_fault, open_fault, page_fault, level_fault}
use Rattle.pst_page.specs.Good.{HasPageTrailer, GoodPage, HasShape, PageLaw}
use Rattle.pst_page.proofs.PageLemmas.{has_trailer_good, good_has_trailer, has_shape_good, good_has_shape}
use Rattle.std.proofs.lemmas.Bool.{eqb-true, eq-eqb}

-- ---- the parts

pub place_law : (end : ℕ) (bref : Bref) → IsPlace end (page_span bref.ib) ↔ (page_place_fault end bref ≡ None)
unfolding page_place_fault
place_law end bref = (
  λ p. holds_or_true _ _ (good_is_place end (page_span bref.ib) p),
  λ e. is_place_good end (page_span bref.ib) (holds_or_none _ _ e),
)

pub open_law : (kind : PageKind) (I : List ℕ) (bref : Bref) → (HasPageTrailer I kind bref × HasShape I kind bref.ib) ↔ (open_fault kind I bref ≡ None)
unfolding open_fault
open_law kind I bref = (
  λ (t, s). both_none (page_trailer_fault kind I bref) (page_shape_fault kind I bref) (holds_or_true _ _ (good_has_trailer kind I bref t)) (holds_or_true _ _ (good_has_shape kind I bref.ib s)),
  λ e.
      let both = none_then (page_trailer_fault kind I bref) (page_shape_fault kind I bref) e in
      (has_trailer_good kind I bref (holds_or_none _ _ both.0), has_shape_good kind I bref.ib (holds_or_none _ _ both.1)),
)

pub level_law : (I : List ℕ) (level : ℕ) (bref : Bref) → (level_at I bref.ib ≡ level) ↔ (level_fault I level bref ≡ None)
unfolding level_fault
level_law I level bref = (
  λ e. holds_or_true _ _ (eq-eqb _ _ e),
  λ e. eqb-true _ _ (holds_or_none _ _ e),
)

-- ---- the whole

pub page_law : PageLaw
unfolding page_fault
page_law I end kind bref = (
  λ (g, s). both_none (page_place_fault end bref) (open_fault kind I bref) ((place_law end bref).0 g.place) ((open_law kind I bref).0 (g.trailer, s)),
  λ e.
      let both = none_then (page_place_fault end bref) (open_fault kind I bref) e in
      let body = (open_law kind I bref).1 both.1 in
      (record { place = (place_law end bref).1 both.0; trailer = body.0 }, body.1),
)

-- ---- what is read

pub good_if : {X : Type 0} (I : List ℕ) (end : ℕ) (kind : PageKind) (bref : Bref) (r : Result X Fault) → Checks r (page_fault end kind I bref) → OnOk r (GoodPage I end kind bref)
good_if I end kind bref (Ok x) e = ((page_law I end kind bref).1 e).0
good_if I end kind bref (Err f) e = tt

pub shape_if : {X : Type 0} (I : List ℕ) (end : ℕ) (kind : PageKind) (bref : Bref) (r : Result X Fault) → Checks r (page_fault end kind I bref) → OnOk r (HasShape I kind bref.ib)
shape_if I end kind bref (Ok x) e = ((page_law I end kind bref).1 e).1
shape_if I end kind bref (Err f) e = tt

pub page_only : {X : Type 0} (I : List ℕ) (end : ℕ) (kind : PageKind) (bref : Bref) (r : Result X Fault) → Checks r (page_fault end kind I bref) → GoodPage I end kind bref → HasShape I kind bref.ib → IsOk r
page_only I end kind bref (Ok x) e g s = refl
page_only I end kind bref (Err f) e g s = let none = (page_law I end kind bref).0 (g, s) in cc
