-- A page takes 8 units, so that the pages that are claimed can be counted.
use Rattle.std.proofs.Common.{◌≡◌, ◌+◌, ◌*◌, true, List, [], ◌∷◌, length, map, Option, Some, None, refl, sym, ap, ◌∙◌, arith}
use Rattle.std.specs.Prelude.{option_and_then}
use Rattle.std.proofs.lemmas.Option.{cond_some}
use Rattle.pst_header.specs.declared.header.Bref.{Bref}
use Rattle.pst_space.specs.Apart.{AreUnits}
use Rattle.pst_space.specs.Claimed.{Claimed, IsUnits, claim_of, claim_all}
use Rattle.pst_space.specs.Marked.{marked}
use Rattle.pst_space.proofs.MarkedLemmas.{marked_claimed}
use Rattle.pst_space.proofs.UnitLemmas.{units_same, length_claimed}
use Rattle.pst_btree.specs.Tree.{span_of}

pub marked_page : (old new : Claimed) (page : Bref) → IsUnits old (span_of page) → claim_of old (span_of page) ≡ Some new → marked new ≡ marked old + 8
marked_page old new page u e = marked_claimed old new (span_of page) u e

-- each page that is claimed claims 8 units
pub pages_marked : (old new : Claimed) (pages : List Bref) → AreUnits old (map span_of pages) → claim_all old (map span_of pages) ≡ Some new → (marked new ≡ marked old + 8 * length pages) × (length new ≡ length old)
pages_marked old new [] u e = let same = (cond_some true old new e).1 in (omega (arith, ap marked same), ap length (sym same))
pages_marked old new (p ∷ pages) u e = by_claim (claim_of old (span_of p)) refl (λ c v h. pages_marked c new pages v h) e
  where
    by_claim : (o : Option Claimed) → claim_of old (span_of p) ≡ o → ((c : Claimed) → AreUnits c (map span_of pages) → claim_all c (map span_of pages) ≡ Some new → (marked new ≡ marked c + 8 * length pages) × (length new ≡ length c))
        → option_and_then (λ (c : Claimed). claim_all c (map span_of pages)) o ≡ Some new → (marked new ≡ marked old + 8 * length (p ∷ pages)) × (length new ≡ length old)
    by_claim None is ih h = absurd cc
    by_claim (Some c) is ih h =
        let same : length c ≡ length old = length_claimed old c (span_of p) is in
        let rest = ih c (units_same old c (map span_of pages) (sym same) u.1) h in
        let one = marked_page old c p u.0 is in
        (omega (arith, one, rest.0), rest.1 ∙ same)
