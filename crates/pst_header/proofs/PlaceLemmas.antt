-- What the test of a place means.
use Rattle.std.proofs.Common.{◌≡◌, ℕ, true}
use Rattle.std.proofs.lemmas.Bool.{eqb-true, leb-true, eq-eqb, le-leb, and_parts, and_from}
use Rattle.pst_bytes.specs.declared.span.Span.{Span}
use Rattle.pst_header.specs.Place.{is_place, IsPlace}

pub is_place_good : (end : ℕ) (s : Span) → is_place end s ≡ true → IsPlace end s
unfolding is_place
is_place_good end s e =
    let p = and_parts _ _ e in
    let q = and_parts _ _ p.0 in
    record {
      whole_units = eqb-true _ _ q.0;
      mapped = leb-true _ _ q.1;
      inside = leb-true _ _ p.1;
    }

pub good_is_place : (end : ℕ) (s : Span) → IsPlace end s → is_place end s ≡ true
unfolding is_place
good_is_place end s p = and_from _ _ (and_from _ _ (eq-eqb _ _ p.whole_units) (le-leb _ _ p.mapped)) (le-leb _ _ p.inside)
