-- Spans can be claimed one after another exactly where they are apart, and set the flags of their units.
use Rattle.std.proofs.Common.{◌≡◌, ℕ, suc, zero, ◌+◌, ◌<◌, ◌≤◌, Bool, true, false, not, ◌&&◌, ◌||◌, List, [], ◌∷◌, ◌++◌, length, replicate, Some, None, refl, sym, ap, ◌∙◌, arith, inl, inr}
use Rattle.std.specs.Prelude.{⊤}
use Rattle.std.proofs.lemmas.List.{length-replicate}
use Rattle.std.proofs.lemmas.Bool.{cases_lt, le-leb, lt-leb, lt-ltb, le-ltb, cases_Bool}
use Rattle.pst_bytes.specs.declared.span.Span.{Span}
use Rattle.pst_space.specs.Claimed.{Claimed, first_unit, unit_count, flag_of, IsUnits, is_clear, with_span, with_spans, claim_of, claim_all}
use Rattle.pst_bytes.specs.Span.{IsApartFrom, IsApartFromAll, end_of_span}
use Rattle.pst_fault.proofs.GeneralLemmas.{true_false, some_is, none_is, clear_and}
use Rattle.pst_space.specs.Apart.{AreApart, AreUnits, AreFree, covers, is_covered, ClaimsLaw, ApartLaw, FlagsLaw}
use Rattle.pst_space.proofs.MapLemmas.{length_with_span}
use Rattle.pst_space.proofs.MarkLemmas.{filled_in, filled_out, clear_filled, overlap, unset, clear_beyond}

-- ---- spans and their units

pub units_before : (m : Claimed) (s t : Span) → IsUnits m s → IsUnits m t → end_of_span s ≤ t.at → first_unit s + unit_count s ≤ first_unit t
units_before m s t u v le = omega (arith, u.mapped, u.whole, u.whole_len, v.mapped, v.whole, v.whole_len)

pub units_reach : (m : Claimed) (s t : Span) → IsUnits m s → IsUnits m t → s.at < end_of_span t → first_unit s < first_unit t + unit_count t
units_reach m s t u v lt = omega (arith, u.mapped, u.whole, u.whole_len, v.mapped, v.whole, v.whole_len)

pub units_some : (m : Claimed) (s : Span) → IsUnits m s → 0 < unit_count s
units_some m s u = omega (arith, u.some, u.whole_len)

units_kept : (m : Claimed) (s t : Span) → IsUnits m s → IsUnits (with_span m t) s
units_kept m s t u = record { mapped = u.mapped; whole = u.whole; whole_len = u.whole_len; some = u.some; inside = omega (arith, u.inside, length_with_span m t) }

all_units_kept : (m : Claimed) (ss : List Span) (t : Span) → AreUnits m ss → AreUnits (with_span m t) ss
all_units_kept m [] t u = tt
all_units_kept m (s ∷ ss) t u = (units_kept m s t u.0, all_units_kept m ss t u.1)

-- ---- one span, and another that is to be clear

abbrev IsClear : Claimed → Span → Type 0
IsClear m s = is_clear m (first_unit s) (unit_count s) ≡ true

apart_same : (m : Claimed) (s t : Span) → IsUnits m s → IsUnits m t → IsApartFrom s t → is_clear (with_span m s) (first_unit t) (unit_count t) ≡ is_clear m (first_unit t) (unit_count t)
unfolding with_span
apart_same m s t u v (inl le) = clear_filled m (first_unit s) (unit_count s) (first_unit t) (unit_count t) (inl (units_before m s t u v le))
apart_same m s t u v (inr le) = clear_filled m (first_unit s) (unit_count s) (first_unit t) (unit_count t) (inr (units_before m t s v u le))

clear_apart : (m : Claimed) (s t : Span) → IsUnits m s → IsUnits m t → IsClear (with_span m s) t → IsApartFrom s t
unfolding with_span
clear_apart m s t u v clear =
    elim (cases_lt t.at (end_of_span s)) [
      | inr before ↦ inl before
      | inl past ↦
          elim (cases_lt s.at (end_of_span t)) [
            | inr fit ↦ inr fit
            | inl clash ↦
                absurd (true_false _ clear (
                overlap m (first_unit s) (unit_count s) (first_unit t) (unit_count t) (units_some m s u) (units_some m t v)
                (units_reach m t s v u past) (units_reach m s t u v clash) u.inside))
          ]
    ]

-- ---- all spans

abbrev AllClear : Claimed → List Span → Type 0
AllClear m [] = ⊤
AllClear m (s ∷ ss) = IsClear m s × AllClear m ss

clear_split : (m : Claimed) (s : Span) (ss : List Span) → IsUnits m s → AreUnits m ss → AllClear (with_span m s) ss → IsApartFromAll s ss × AllClear m ss
clear_split m s [] u us clear = (tt, tt)
clear_split m s (t ∷ ts) u us clear =
    let apart = clear_apart m s t u us.0 clear.0 in
    let rest = clear_split m s ts u us.1 clear.1 in
    ((apart, rest.0), (sym (apart_same m s t u us.0 apart) ∙ clear.0, rest.1))

clear_join : (m : Claimed) (s : Span) (ss : List Span) → IsUnits m s → AreUnits m ss → IsApartFromAll s ss → AllClear m ss → AllClear (with_span m s) ss
clear_join m s [] u us apart clear = tt
clear_join m s (t ∷ ts) u us apart clear = (apart_same m s t u us.0 apart.0 ∙ clear.0, clear_join m s ts u us.1 apart.1 clear.1)

claim_clear : (m : Claimed) (s : Span) → IsClear m s → claim_of m s ≡ Some (with_span m s)
unfolding claim_of
claim_clear m s clear = rw clear refl

claim_clash : (m : Claimed) (s : Span) → is_clear m (first_unit s) (unit_count s) ≡ false → claim_of m s ≡ None
unfolding claim_of
claim_clash m s clash = rw clash refl

-- what is claimed was clear and apart
claimed_apart : (m : Claimed) (ss : List Span) (new : Claimed) → AreUnits m ss → claim_all m ss ≡ Some new → AllClear m ss × AreApart ss
claimed_apart m [] new us e = (tt, tt)
claimed_apart m (s ∷ ss) new us e =
    elim (cases_Bool (is_clear m (first_unit s) (unit_count s))) [
      | inl clear ↦
          let later : claim_all (with_span m s) ss ≡ Some new = rw (claim_clear m s clear) at e in
          let rest = claimed_apart (with_span m s) ss new (all_units_kept m ss s us.1) later in
          let parts = clear_split m s ss us.0 us.1 rest.0 in
          ((clear, parts.1), (parts.0, rest.1))
      | inr clash ↦ absurd (none_is new (rw (claim_clash m s clash) at e))
    ]

-- what is clear and apart can be claimed
apart_claimed : (m : Claimed) (ss : List Span) → AreUnits m ss → AllClear m ss → AreApart ss → claim_all m ss ≡ Some (with_spans m ss)
apart_claimed m [] us clear apart = refl
apart_claimed m (s ∷ ss) us clear apart =
    rw (claim_clear m s clear.0) (apart_claimed (with_span m s) ss (all_units_kept m ss s us.1) (clear_join m s ss us.0 us.1 apart.0 clear.1) apart.1)

-- what is claimed is the flags with those of the spans set
pub claimed_is : (m : Claimed) (ss : List Span) (new : Claimed) → claim_all m ss ≡ Some new → new ≡ with_spans m ss
claimed_is m [] new e = sym (some_is m new e)
claimed_is m (s ∷ ss) new e =
    elim (cases_Bool (is_clear m (first_unit s) (unit_count s))) [
      | inl clear ↦ claimed_is (with_span m s) ss new (rw (claim_clear m s clear) at e)
      | inr clash ↦ absurd (none_is new (rw (claim_clash m s clash) at e))
    ]

none_clear : (units : ℕ) (ss : List Span) → AllClear (replicate units false) ss
none_clear units [] = tt
none_clear units (s ∷ ss) = (clear_beyond (replicate units false) (first_unit s) (unit_count s) (λ u le. unset units u), none_clear units ss)

pub apart_law : ApartLaw
apart_law units spans us = (
  λ (new, e). (claimed_apart (replicate units false) spans new us e).1,
  λ apart. (with_spans (replicate units false) spans, apart_claimed (replicate units false) spans us (none_clear units spans) apart),
)

-- ---- free of what is claimed

pub clear_free : (m : Claimed) (a n unit : ℕ) → is_clear m a n ≡ true → a ≤ unit → unit < a + n → flag_of m unit ≡ false
clear_free m a zero unit e le lt = absurd (omega arith)
clear_free m a (suc n) unit e le lt =
    let both = clear_and (flag_of m a) (is_clear m (a + 1) n) e in
    elim (cases_lt a unit) [
      | inl more ↦ clear_free m (a + 1) n unit both.1 (omega arith) (omega arith)
      | inr same ↦ let here : unit ≡ a = omega arith in ap (flag_of m) here ∙ both.0
    ]

pub free_clear : (m : Claimed) (a n : ℕ) → ((unit : ℕ) → a ≤ unit → unit < a + n → flag_of m unit ≡ false) → is_clear m a n ≡ true
free_clear m a zero free = refl
free_clear m a (suc n) free = rw (free a (omega arith) (omega arith), free_clear m (a + 1) n (λ unit le lt. free unit (omega arith) (omega arith))) refl

all_free : (m : Claimed) (ss : List Span) → AllClear m ss → AreFree m ss
all_free m [] clear = tt
all_free m (s ∷ ss) clear = (λ unit le lt. clear_free m (first_unit s) (unit_count s) unit clear.0 le lt, all_free m ss clear.1)

all_clear : (m : Claimed) (ss : List Span) → AreFree m ss → AllClear m ss
all_clear m [] free = tt
all_clear m (s ∷ ss) free = (free_clear m (first_unit s) (unit_count s) free.0, all_clear m ss free.1)

pub claims_law : ClaimsLaw
claims_law m new ss us = (
  λ e. let both = claimed_apart m ss new us e in (all_free m ss both.0, both.1, claimed_is m ss new e),
  λ (free, apart, is). apart_claimed m ss us (all_clear m ss free) apart ∙ ap (λ (c : Claimed). Some c) (sym is),
)

-- spans and other spans are of whole units
pub units_append : (m : Claimed) (xs ys : List Span) → AreUnits m xs → AreUnits m ys → AreUnits m (xs ++ ys)
units_append m [] ys a b = b
units_append m (x ∷ xs) ys a b = (a.0, units_append m xs ys a.1 b)

-- ---- the flags

or_swap : (a b c : Bool) → (a || (b || c)) ≡ ((b || a) || c)
or_swap true true c = refl
or_swap true false c = refl
or_swap false true c = refl
or_swap false false c = refl

flag_with_span : (m : Claimed) (s : Span) (u : ℕ) → u < length m → flag_of (with_span m s) u ≡ (covers s u || flag_of m u)
unfolding with_span
flag_with_span m s u inside =
    elim (cases_lt u (first_unit s)) [
      | inl before ↦ rw (lt-leb (first_unit s) u before) (filled_out m (first_unit s) (unit_count s) u (inl before))
      | inr after ↦
          elim (cases_lt u (first_unit s + unit_count s)) [
            | inl within ↦ rw (le-leb (first_unit s) u after, lt-ltb u (first_unit s + unit_count s) within) (filled_in m (first_unit s) (unit_count s) u after within inside)
            | inr past ↦ rw (le-leb (first_unit s) u after, le-ltb u (first_unit s + unit_count s) past) (filled_out m (first_unit s) (unit_count s) u (inr past))
          ]
    ]

pub flag_with_spans : (m : Claimed) (ss : List Span) (u : ℕ) → u < length m → flag_of (with_spans m ss) u ≡ (is_covered ss u || flag_of m u)
flag_with_spans m [] u inside = refl
flag_with_spans m (s ∷ ss) u inside =
    flag_with_spans (with_span m s) ss u (omega (arith, length_with_span m s))
    ∙ ap (λ b. is_covered ss u || b) (flag_with_span m s u inside)
    ∙ or_swap (is_covered ss u) (covers s u) (flag_of m u)

or_none : (a : Bool) → (a || false) ≡ a
or_none true = refl
or_none false = refl

pub flags_law : FlagsLaw
flags_law units spans new e u lt =
    ap (λ (m : Claimed). flag_of m u) (claimed_is (replicate units false) spans new e)
    ∙ flag_with_spans (replicate units false) spans u (omega (arith, length-replicate units false))
    ∙ ap (λ b. is_covered spans u || b) (unset units u)
    ∙ or_none (is_covered spans u)
