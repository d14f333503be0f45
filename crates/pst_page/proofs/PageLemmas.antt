-- What the tests of a page mean.
use Rattle.std.proofs.Common.{◌≡◌, ℕ, ◌*◌, ◌<◌, ◌≤◌, inl, inr, true, ◌||◌, eqb, ltb, List, arith}
use Rattle.std.proofs.lemmas.Bool.{eqb-true, leb-true, ltb-true, eq-eqb, le-leb, lt-ltb, and_parts, and_from, or_cases, or_left, or_right, cases_eq}
use Rattle.pst_header.specs.declared.header.Bref.{Bref}
use Rattle.pst_page.specs.declared.kind.PageKind.{PageKind}
use Rattle.pst_page.specs.Entry.{entry_size}
use Rattle.pst_page.specs.Page.{count_at, width_at, level_at}
use Rattle.pst_page.specs.Fault.{has_page_trailer, has_shape}
use Rattle.pst_page.specs.Good.{HasPageTrailer, HasShape}
use Rattle.pst_page.specs.Trailer.{has_trailer}

-- ---- the trailer

pub has_trailer_good : (kind : PageKind) (I : List ℕ) (bref : Bref) → has_page_trailer kind I bref ≡ true → HasPageTrailer I kind bref
unfolding has_page_trailer has_trailer
has_trailer_good kind I bref e =
    let both = and_parts _ _ e in
    let types = and_parts _ _ both.0 in
    let rest = and_parts _ _ both.1 in
    let name = and_parts _ _ rest.0 in
    record {
      ptype = eqb-true _ _ types.0;
      ptype_repeat = eqb-true _ _ types.1;
      signature = eqb-true _ _ name.1;
      check = eqb-true _ _ rest.1;
      bid = eqb-true _ _ name.0;
    }

pub good_has_trailer : (kind : PageKind) (I : List ℕ) (bref : Bref) → HasPageTrailer I kind bref → has_page_trailer kind I bref ≡ true
unfolding has_page_trailer has_trailer
good_has_trailer kind I bref t =
    let types = and_from _ _ (eq-eqb _ _ t.ptype) (eq-eqb _ _ t.ptype_repeat) in
    let name = and_from _ _ (eq-eqb _ _ t.bid) (eq-eqb _ _ t.signature) in
    and_from _ _ types (and_from _ _ name (eq-eqb _ _ t.check))

-- ---- the shape

named : (level count : ℕ) → (eqb level 0 || ltb 0 count) ≡ true → 0 < level → 0 < count
named level count e above =
    elim (or_cases (eqb level 0) (ltb 0 count) e) [
      | inl z ↦ let is : level ≡ 0 = eqb-true _ _ z in absurd (omega arith)
      | inr lt ↦ ltb-true _ _ lt
    ]

named_again : (level count : ℕ) → (0 < level → 0 < count) → (eqb level 0 || ltb 0 count) ≡ true
named_again level count names =
    elim (cases_eq level 0) [
      | inl z ↦ or_left _ _ (eq-eqb _ _ z)
      | inr other ↦ or_right _ _ (lt-ltb _ _ (names (omega arith)))
    ]

pub has_shape_good : (kind : PageKind) (I : List ℕ) (ib : ℕ) → has_shape kind I ib ≡ true → HasShape I kind ib
unfolding has_shape
has_shape_good kind I ib e =
    let a = and_parts _ _ e in
    let b = and_parts _ _ a.0 in
    let c = and_parts _ _ b.0 in
    record {
      wide = leb-true _ _ c.0;
      room = leb-true _ _ c.1;
      low = leb-true _ _ b.1;
      names = named _ _ a.1;
    }

pub good_has_shape : (kind : PageKind) (I : List ℕ) (ib : ℕ) → HasShape I kind ib → has_shape kind I ib ≡ true
unfolding has_shape
good_has_shape kind I ib s =
    let fits = and_from _ _ (le-leb _ _ s.wide) (le-leb _ _ s.room) in
    and_from _ _ (and_from _ _ fits (le-leb _ _ s.low)) (named_again _ _ s.names)

pub shape_wide : (kind : PageKind) (I : List ℕ) (ib : ℕ) → has_shape kind I ib ≡ true → entry_size kind (level_at I ib) ≤ width_at I ib
shape_wide kind I ib e = (has_shape_good kind I ib e).wide

pub shape_room : (kind : PageKind) (I : List ℕ) (ib : ℕ) → has_shape kind I ib ≡ true → count_at I ib * width_at I ib ≤ 488
shape_room kind I ib e = (has_shape_good kind I ib e).room

pub shape_low : (kind : PageKind) (I : List ℕ) (ib : ℕ) → has_shape kind I ib ≡ true → level_at I ib ≤ 15
shape_low kind I ib e = (has_shape_good kind I ib e).low
