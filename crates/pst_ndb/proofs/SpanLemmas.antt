-- Where the parts of a node's data begin, and the span with a number by that.
use Rattle.std.proofs.Common.{◌≡◌, ℕ, ◌+◌, ◌-◌, ◌<◌, ◌≤◌, List, [], ◌∷◌, ◌++◌, length, get_or, length-append, below_more, None, refl, sym, ap, ◌∙◌, arith, inl, inr}
use Rattle.std.specs.Prelude.{slice_get}
use Rattle.std.specs.List.Sorted.{IsNonDecreasing}
use Rattle.std.proofs.lemmas.Bool.{cases_lt}
use Rattle.std.proofs.lemmas.List.{get_or_push, get_or_append_left}
use Rattle.std.proofs.lemmas.List.Sorted.{IsNonDecreasingBy-from_default}
use Rattle.std.proofs.lemmas.Option.{slice_get_past}
use Rattle.pst_bytes.specs.declared.span.Span.{Span}
use Rattle.pst_fault.proofs.FirstLemmas.{join_rises}
use Rattle.pst_block.specs.Table.{Table}
use Rattle.pst_datatree.specs.Named.{named_by}
use Rattle.pst_datatree.specs.Data.{named_spans, data_spans, data_fault}
use Rattle.pst_datatree.specs.Marks.{start_of}
use Rattle.pst_datatree.specs.Parts.{part_count, part_in, part_spans}
use Rattle.pst_datatree.proofs.LeafLemmas.{start_of_first, start_of_next, span_of_part, none_behind}
use Rattle.pst_datatree.proofs.PartsLemmas.{named_are, has_parts}
use Rattle.pst_ndb.specs.SpanIndex.{AreStarts, IsPlaceOf}

-- ---- where parts begin

part_named : (t : Table) (bid : ℕ) → data_spans t bid ≡ named_spans t (named_by t bid)
part_named t bid = named_are t bid (named_by t bid) refl

-- the part behind a part begins behind its spans
pub start_behind : (t : Table) (bid i : ℕ) → start_of t bid (i + 1) ≡ start_of t bid i + length (data_spans t (part_in t bid i))
start_behind t bid i =
    start_of_next t bid i (named_by t (part_in t bid i)) refl
    ∙ ap (λ (xs : List Span). start_of t bid i + length xs) (sym (part_named t (part_in t bid i)))

-- the parts rise
start_rises : (t : Table) (bid i n : ℕ) → i ≤ n → start_of t bid i ≤ start_of t bid n
unfolding start_of
start_rises t bid i n le =
    elim (cases_lt i n) [
      | inl lt ↦ omega (arith, join_rises (part_spans t bid) n i lt)
      | inr ge ↦ let same : i ≡ n = omega arith in rw same (omega arith)
    ]

-- all spans come before what is behind the last part
start_of_all : (t : Table) (bid : ℕ) → data_fault t bid ≡ None → length (data_spans t bid) ≡ start_of t bid (part_count t bid)
unfolding start_of
start_of_all t bid none = ap (λ (xs : List Span). length xs) (has_parts t bid none)

-- a part has no more spans than are left at its start
pub part_within : (t : Table) (bid i : ℕ) → data_fault t bid ≡ None → i < part_count t bid → start_of t bid i + length (data_spans t (part_in t bid i)) ≤ length (data_spans t bid)
part_within t bid i none lt = omega (arith, start_behind t bid i, start_rises t bid (i + 1) (part_count t bid) (omega arith), start_of_all t bid none)

-- ---- the starts, which are held

pub starts_rise : (t : Table) (bid : ℕ) (starts : List ℕ) → AreStarts starts t bid → IsNonDecreasing starts
starts_rise t bid starts are =
    IsNonDecreasingBy-from_default (λ x. x) starts 0
    (λ i j le lt.
    let below : j < part_count t bid = omega (arith, lt, are.count) in
    omega (arith, are.start i (omega arith), are.start j below, start_rises t bid i j le))

-- the starts of the parts before one, and how many spans are left at it
pub record AreStartsBelow (starts : List ℕ) (t : Table) (bid part left : ℕ) : Type 0 where
  pub count : length starts ≡ part
  pub start : (k : ℕ) → k < part → get_or starts k 0 ≡ start_of t bid k
  pub rest : left + start_of t bid part ≡ length (data_spans t bid)

-- before the first part
pub none_yet : (t : Table) (bid all : ℕ) (starts : List ℕ) → starts ≡ [] → all ≡ length (data_spans t bid) → AreStartsBelow starts t bid 0 all
none_yet t bid all starts empty is =
    record {
      count = ap (λ (xs : List ℕ). length xs) empty;
      start = λ k lt. absurd (omega (arith, lt));
      rest = omega (arith, start_of_first t bid, is);
    }

-- one more part
pub one_more : (t : Table) (bid part left len all : ℕ) (starts more : List ℕ) → data_fault t bid ≡ None → part < part_count t bid → AreStartsBelow starts t bid part left → more ≡ starts ++ ((all - left) ∷ []) → all ≡ length (data_spans t bid) → len ≡ length (data_spans t (part_in t bid part)) → AreStartsBelow more t bid (part + 1) (left - len)
one_more t bid part left len all starts more none lt are pushed is long =
    record {
      count = ap (λ (xs : List ℕ). length xs) pushed ∙ omega (arith, length-append starts ((all - left) ∷ []), are.count);
      start = rw pushed (below_more _ part (λ k less. get_or_append_left starts ((all - left) ∷ []) 0 k (omega (arith, less, are.count)) ∙ are.start k less) here);
      rest = omega (arith, are.rest, is, long, start_behind t bid part, part_within t bid part none lt);
    }
  where
    here : get_or (starts ++ ((all - left) ∷ [])) part 0 ≡ start_of t bid part
    here = get_or_push starts (all - left) 0 part are.count ∙ omega (arith, are.rest, is)

-- where no part begins at the span or before it, there is no part
pub none_before : (t : Table) (bid n : ℕ) (starts : List ℕ) → data_fault t bid ≡ None → AreStarts starts t bid → IsPlaceOf starts n 0 → None ≡ slice_get (data_spans t bid) n
none_before t bid n starts none are place =
    elim (cases_lt 0 (part_count t bid)) [
      | inl lt ↦
          let first : get_or starts 0 0 ≡ 0 = are.start 0 lt ∙ start_of_first t bid in
          absurd (omega (arith, first, place.behind 0 (omega arith) (omega (arith, lt, are.count))))
      | inr ge ↦ sym (none_behind t bid 0 n none (omega arith) (omega (arith, start_of_first t bid)))
    ]

-- the last part that begins no later has the span, or none has
in_last : (t : Table) (bid n i : ℕ) → data_fault t bid ≡ None → i < part_count t bid → start_of t bid i ≤ n → (i + 1 < part_count t bid → n < start_of t bid (i + 1)) → slice_get (data_spans t (part_in t bid i)) (n - start_of t bid i) ≡ slice_get (data_spans t bid) n
in_last t bid n i none below le before =
    let part = part_in t bid i in
    elim (cases_lt (n - start_of t bid i) (length (data_spans t part))) [
      | inl lt ↦
          let same : start_of t bid i + (n - start_of t bid i) ≡ n = omega arith in
          let named = part_named t part in
          let lt' : n - start_of t bid i < length (named_spans t (named_by t part)) = rw (← named) lt in
          ap (λ xs. slice_get xs (n - start_of t bid i)) named
          ∙ sym (span_of_part t bid i (n - start_of t bid i) (named_by t part) none below refl lt')
          ∙ ap (slice_get (data_spans t bid)) same
      | inr ge ↦
          let behind : start_of t bid (i + 1) ≤ n = omega (arith, start_behind t bid i, ge, le) in
          slice_get_past (data_spans t part) (n - start_of t bid i) ge
          ∙ sym (none_behind t bid (i + 1) n none (last behind) behind)
    ]
  where
    last : start_of t bid (i + 1) ≤ n → part_count t bid ≤ i + 1
    last behind =
        elim (cases_lt (i + 1) (part_count t bid)) [
          | inl lt ↦ absurd (omega (arith, before lt, behind))
          | inr ge ↦ ge
        ]

-- the part before a place
pub begins_before : (t : Table) (bid n place : ℕ) (starts : List ℕ) → AreStarts starts t bid → IsPlaceOf starts n place → 0 < place → (place - 1 < part_count t bid) × (get_or starts (place - 1) 0 ≡ start_of t bid (place - 1)) × (start_of t bid (place - 1) ≤ n)
begins_before t bid n place starts are at more =
    let below : place - 1 < part_count t bid = omega (arith, at.within, more, are.count) in
    let here = are.start (place - 1) below in
    (below, here, omega (arith, at.before (place - 1) (omega arith), here))

-- has the span
pub span_at : (t : Table) (bid n place : ℕ) (starts : List ℕ) → data_fault t bid ≡ None → AreStarts starts t bid → IsPlaceOf starts n place → 0 < place → slice_get (data_spans t (part_in t bid (place - 1))) (n - get_or starts (place - 1) 0) ≡ slice_get (data_spans t bid) n
span_at t bid n place starts none are at more =
    let begins = begins_before t bid n place starts are at more in
    rw begins.1 (in_last t bid n (place - 1) none begins.0 begins.2 behind)
  where
    behind : place - 1 + 1 < part_count t bid → n < start_of t bid (place - 1 + 1)
    behind lt =
        let same : place - 1 + 1 ≡ place = omega arith in
        let there : get_or starts place 0 ≡ start_of t bid place = are.start place (omega arith) in
        rw same (omega (arith, there, at.behind place (omega arith) (omega (arith, lt, are.count))))
