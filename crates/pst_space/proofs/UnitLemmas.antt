-- What takes whole units of the mapped part: the map pages do, and a claim leaves as many units as there were.
use Rattle.std.proofs.Common.{◌≡◌, ℕ, suc, zero, ◌+◌, ◌*◌, ◌%◌, ◌≤◌, Bool, true, false, cond, eqb, List, [], ◌∷◌, length, Some, refl, sym, ap, subst, ◌∙◌, arith}
use Rattle.std.proofs.lemmas.Bool.{eqb-true}
use Rattle.std.proofs.lemmas.Option.{cond_some}
use Rattle.pst_bytes.specs.declared.span.Span.{Span}
use Rattle.pst_header.specs.declared.header.Header.{Header}
use Rattle.pst_header.specs.Header.{amap_place, amap_count_of}
use Rattle.pst_header.specs.Head.{IsLastMap}
use Rattle.pst_space.specs.Claimed.{Claimed, IsUnits, unit_total, page_at, map_pages_at, map_pages_below, map_pages, MapsFit, claim_of}
use Rattle.pst_space.specs.Apart.{AreUnits}
use Rattle.pst_space.proofs.ApartLemmas.{units_append}
use Rattle.pst_space.proofs.MapLemmas.{maps_fit, length_with_span}

map_units : (m : Claimed) (j : ℕ) → MapsFit j (length m) → AreUnits m (map_pages_at j)
map_units m j fit = by_eighth (eqb (j % 8) 0) (λ e. fit.1 (eqb-true (j % 8) 0 e))
  where
    amap : IsUnits m (page_at (amap_place j))
    amap = record { mapped = omega arith; whole = omega arith; whole_len = refl; some = omega arith; inside = omega (arith, fit.0) }

    by_eighth : (eighth : Bool) → (eighth ≡ true → 3968 * j + 16 ≤ length m) → (let spans : List Span = cond eighth (page_at (amap_place j) ∷ page_at (amap_place j + 512) ∷ []) (page_at (amap_place j) ∷ []) in AreUnits m spans)
    by_eighth true room = let more = room refl in (amap, (record { mapped = omega arith; whole = omega arith; whole_len = refl; some = omega arith; inside = omega (arith, more) }, tt))
    by_eighth false room = (amap, tt)

maps_below_units : (h : Header) (m : Claimed) (n : ℕ) → IsLastMap h.last_amap h.eof → length m ≡ unit_total h → n ≤ amap_count_of h → AreUnits m (map_pages_below n)
maps_below_units h m zero last long le = tt
maps_below_units h m (suc n) last long le =
    let fit : MapsFit n (length m) = subst (MapsFit n) (sym long) (maps_fit h n last (omega arith)) in
    units_append m (map_pages_below n) (map_pages_at n) (maps_below_units h m n last long (omega arith)) (map_units m n fit)

pub maps_units : (h : Header) (m : Claimed) → IsLastMap h.last_amap h.eof → length m ≡ unit_total h → AreUnits m (map_pages h)
unfolding map_pages
maps_units h m last long = maps_below_units h m (amap_count_of h) last long (omega arith)

pub units_same : (m n : Claimed) (spans : List Span) → length m ≡ length n → AreUnits m spans → AreUnits n spans
units_same m n [] same u = tt
units_same m n (s ∷ spans) same u =
    (record { mapped = u.0.mapped; whole = u.0.whole; whole_len = u.0.whole_len; some = u.0.some; inside = omega (arith, same, u.0.inside) }, units_same m n spans same u.1)

pub length_claimed : (old new : Claimed) (span : Span) → claim_of old span ≡ Some new → length new ≡ length old
unfolding claim_of
length_claimed old new span e = ap length (sym (cond_some _ _ _ e).1) ∙ length_with_span old span
