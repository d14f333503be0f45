-- The blocks that are decoded lie apart from the header, from all pages, and from each other.
use Rattle.std.proofs.Common.{◌≡◌, ℕ, ◌+◌, ◌-◌, ◌/◌, inl, inr, List, [], ◌∷◌, ◌++◌, length, map, replicate, Some, None, true, false, cond, option_and_then, refl, sym, ap, ◌∙◌, arith}
use Rattle.std.specs.Prelude.{⊤, nat_le, ◌&&◌}
use Rattle.std.specs.List.{All, filter}
use Rattle.std.proofs.lemmas.List.Elements.{All-nil, All-cons, All-head, All-tail}
use Rattle.pst_bytes.specs.declared.span.Span.{Span}
use Rattle.pst_bytes.specs.Span.{IsApartFrom, IsApartFromAll}
use Rattle.pst_header.specs.declared.header.Header.{Header}
use Rattle.pst_header.specs.declared.header.Bref.{Bref}
use Rattle.pst_header.specs.Place.{is_place, IsPlace}
use Rattle.pst_page.specs.declared.entry.BlockEntry.{BlockEntry}
use Rattle.pst_page.specs.Page.{page_span}
use Rattle.pst_space.specs.Claimed.{Claimed, IsUnits, unit_total, map_pages, nothing_claimed, maps_claimed, claim_of, claim_all}
use Rattle.pst_space.specs.Apart.{AreApart, AreUnits}
use Rattle.pst_space.proofs.ApartLemmas.{apart_law}
use Rattle.pst_space.proofs.MapLemmas.{maps_law}
use Rattle.pst_space.proofs.StepLemmas.{claim_all-append}
use Rattle.pst_btree.specs.Tree.{span_of}
use Rattle.pst_block.specs.Block.{block_span, body_span, trailer_at}
use Rattle.pst_block.specs.Walk.{block_spans}
use Rattle.pst_block.proofs.BlockLemmas.{size_large, size_whole, is_place_good}
use Rattle.pst_plain.specs.Blocks.{has_data, block_place, claimed_with, then_placed, placed}
use Rattle.pst_plain.specs.Laws.{SameBesides, fields_of}
use Rattle.pst_plain.proofs.SameLemmas.{AreSamePages}

-- ---- one block

pub record IsPlaced (end : ℕ) (claimed more : Claimed) (e : BlockEntry) : Type 0 where
  pub place : IsPlace end (block_span e)
  pub claims : claim_of claimed (block_span e) ≡ Some more

place_is : (end : ℕ) (e : BlockEntry) (s : Span) → block_place end e ≡ Some s → IsPlace end (block_span e) × (s ≡ block_span e)
unfolding block_place
place_is end e s is =
    elim (nat_le e.cb 8176 && is_place end (block_span e)) as (λ b. (nat_le e.cb 8176 && is_place end (block_span e)) ≡ b → cond b (Some (block_span e)) None ≡ Some s → IsPlace end (block_span e) × (s ≡ block_span e)) [
      | true ↦ λ h yes. ((is_place_good end e h).1, cc)
      | false ↦ λ h no. absurd cc
    ] refl is

pub placed_one : (end : ℕ) (claimed more : Claimed) (e : BlockEntry) → claimed_with end claimed e ≡ Some more → IsPlaced end claimed more e
unfolding claimed_with
placed_one end claimed more e is =
    elim (block_place end e) as (λ o. block_place end e ≡ o → option_and_then (claim_of claimed) o ≡ Some more → IsPlaced end claimed more e) [
      | Some s ↦ λ h yes. let p = place_is end e s h in record { place = p.0; claims = ap (claim_of claimed) (sym p.1) ∙ yes }
      | None ↦ λ h no. absurd cc
    ] refl is

-- ---- all of them

abbrev Claims : Claimed → List BlockEntry → Type 0
Claims claimed entries = (new : Claimed) × (claim_all claimed (block_spans entries) ≡ Some new)

pub placed_claims : (end : ℕ) (claimed : Claimed) (entries : List BlockEntry) → (new : Claimed) × (claim_all claimed (block_spans (placed end claimed entries)) ≡ Some new)
unfolding placed
placed_claims end claimed [] = (claimed, refl)
placed_claims end claimed (e ∷ rest) =
    elim (claimed_with end claimed e) as (λ o. claimed_with end claimed e ≡ o → Claims claimed (then_placed e (λ more. placed end more rest) o)) [
      | Some more ↦ λ h.
          let one = placed_one end claimed more e h in
          let later = placed_claims end more rest in
          (later.0, ap (option_and_then (λ next. claim_all next (block_spans (placed end more rest)))) one.claims ∙ later.1)
      | None ↦ λ h. (claimed, refl)
    ] refl

abbrev pub LiesIn : ℕ → BlockEntry → Type 0
LiesIn end e = IsPlace end (block_span e)

pub placed_lie : (end : ℕ) (claimed : Claimed) (entries : List BlockEntry) → All (LiesIn end) (placed end claimed entries)
unfolding placed
placed_lie end claimed [] = All-nil (LiesIn end)
placed_lie end claimed (e ∷ rest) =
    elim (claimed_with end claimed e) as (λ o. claimed_with end claimed e ≡ o → All (LiesIn end) (then_placed e (λ more. placed end more rest) o)) [
      | Some more ↦ λ h. All-cons (LiesIn end) e (placed end more rest) (placed_one end claimed more e h).place (placed_lie end more rest)
      | None ↦ λ h. All-nil (LiesIn end)
    ] refl

one_units : (end : ℕ) (m : Claimed) (e : BlockEntry) → length m ≡ (end - 17408) / 64 → LiesIn end e → IsUnits m (block_span e)
one_units end m e long p =
    let large = size_large e.cb in
    let whole = size_whole e.cb in
    record {
      mapped = p.mapped;
      whole = p.whole_units;
      whole_len = whole;
      some = omega (arith, large);
      inside = omega (arith, long, whole, p.mapped, p.whole_units, p.inside);
    }

pub lie_units : (end : ℕ) (m : Claimed) (entries : List BlockEntry) → length m ≡ (end - 17408) / 64 → All (LiesIn end) entries → AreUnits m (block_spans entries)
lie_units end m [] long lie = tt
lie_units end m (e ∷ rest) long lie = (one_units end m e long (All-head (LiesIn end) e rest lie), lie_units end m rest long (All-tail (LiesIn end) e rest lie))

-- ---- spans that are claimed one after another

pub claim_join : (m next new : Claimed) (xs ys : List Span) → claim_all m xs ≡ Some next → claim_all next ys ≡ Some new → claim_all m (xs ++ ys) ≡ Some new
claim_join m next new xs ys first second = claim_all-append m xs ys ∙ ap (option_and_then (λ between. claim_all between ys)) first ∙ second

pub claims_apart : (h : Header) (spans : List Span) (new : Claimed) → AreUnits (replicate (unit_total h) false) (map_pages h ++ spans) → claim_all (maps_claimed h) spans ≡ Some new → AreApart (map_pages h ++ spans)
unfolding nothing_claimed
claims_apart h spans new units e =
    (apart_law (unit_total h) (map_pages h ++ spans) units).0 (new, claim_join (replicate (unit_total h) false) (maps_claimed h) new (map_pages h) spans (maps_law h) e)

-- each of some spans is apart from all of others
abbrev pub AreApartFrom : List Span → List Span → Type 0
AreApartFrom [] others = ⊤
AreApartFrom (s ∷ ss) others = IsApartFromAll s others × AreApartFrom ss others

pub from_second : (s : Span) (xs ys : List Span) → IsApartFromAll s (xs ++ ys) → IsApartFromAll s ys
from_second s [] ys all = all
from_second s (x ∷ xs) ys all = from_second s xs ys all.1

pub apart_cross : (xs ys : List Span) → AreApart (xs ++ ys) → AreApartFrom xs ys
apart_cross [] ys all = tt
apart_cross (x ∷ xs) ys all = (from_second x xs ys all.0, apart_cross xs ys all.1)

pub apart_back : (xs ys : List Span) → AreApart (xs ++ ys) → AreApart ys
apart_back [] ys all = all
apart_back (x ∷ xs) ys all = apart_back xs ys all.1

pub from_first_part : (xs ys others : List Span) → AreApartFrom (xs ++ ys) others → AreApartFrom xs others
from_first_part [] ys others all = tt
from_first_part (x ∷ xs) ys others all = (all.0, from_first_part xs ys others all.1)

pub from_other_part : (xs ys others : List Span) → AreApartFrom (xs ++ ys) others → AreApartFrom ys others
from_other_part [] ys others all = all
from_other_part (x ∷ xs) ys others all = from_other_part xs ys others all.1

-- ---- the data blocks among them

pub filter_from : (s : Span) (entries : List BlockEntry) → IsApartFromAll s (block_spans entries) → IsApartFromAll s (block_spans (filter has_data entries))
filter_from s [] all = tt
filter_from s (e ∷ rest) all =
    elim (has_data e) as (λ b. IsApartFromAll s (block_spans (cond b (e ∷ filter has_data rest) (filter has_data rest)))) [
      | true ↦ (all.0, filter_from s rest all.1)
      | false ↦ filter_from s rest all.1
    ]

pub filter_apart : (entries : List BlockEntry) → AreApart (block_spans entries) → AreApart (block_spans (filter has_data entries))
filter_apart [] all = tt
filter_apart (e ∷ rest) all =
    elim (has_data e) as (λ b. AreApart (block_spans (cond b (e ∷ filter has_data rest) (filter has_data rest)))) [
      | true ↦ (filter_from (block_span e) rest all.0, filter_apart rest all.1)
      | false ↦ filter_apart rest all.1
    ]

-- what is apart from blocks is apart from what is changed of them
one_field_apart : (s : Span) (e : BlockEntry) → IsApartFrom s (block_span e) → IsApartFrom s (body_span e) × IsApartFrom s (record { at = trailer_at e + 4; len = 4 })
one_field_apart s e (inl h) = let large = size_large e.cb in (inl h, inl (omega (arith, large)))
one_field_apart s e (inr h) = let large = size_large e.cb in (inr (omega (arith, large)), inr (omega (arith, large)))

pub fields_apart : (s : Span) (entries : List BlockEntry) → IsApartFromAll s (block_spans entries) → IsApartFromAll s (fields_of entries)
fields_apart s [] all = tt
fields_apart s (e ∷ rest) all = let one = one_field_apart s e all.0 in (one.0, (one.1, fields_apart s rest all.1))

-- ---- the header and the pages

abbrev pub header_span : Span
header_span = record { at = 0; len = 564 }

pub header_apart : (end : ℕ) (entries : List BlockEntry) → All (LiesIn end) entries → IsApartFromAll header_span (block_spans entries)
header_apart end [] lie = tt
header_apart end (e ∷ rest) lie =
    let here : IsPlace end (block_span e) = All-head (LiesIn end) e rest lie in
    (inl (omega (arith, here.mapped)), header_apart end rest (All-tail (LiesIn end) e rest lie))

pub pages_kept : (J T : List ℕ) (pages : List Bref) (entries : List BlockEntry) → SameBesides J T (fields_of entries) → AreApartFrom (map span_of pages) (block_spans entries) → AreSamePages J T pages
pages_kept J T [] entries same apart = tt
pages_kept J T (page ∷ rest) entries same apart = (same.others (page_span page.ib) (fields_apart (page_span page.ib) entries apart.0), pages_kept J T rest entries same apart.1)

pub filter_pages : (spans : List Span) (entries : List BlockEntry) → AreApartFrom spans (block_spans entries) → AreApartFrom spans (block_spans (filter has_data entries))
filter_pages [] entries all = tt
filter_pages (s ∷ ss) entries all = (filter_from s entries all.0, filter_pages ss entries all.1)
