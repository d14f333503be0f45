-- The spans of a data tree by their numbers, part by part.
use Rattle.std.proofs.Common.{◌≡◌, ℕ, Bool, false, ◌+◌, ◌-◌, ◌<◌, ◌≤◌, List, [], ◌∷◌, length, Some, None, refl, sym, ap, ◌∙◌, arith, inl, inr}
use Rattle.std.specs.Prelude.{slice_get, ◌↔◌, IsTrue}
use Rattle.std.proofs.lemmas.Bool.{cases_lt, iff_false}
use Rattle.std.proofs.lemmas.Option.{slice_get_past}
use Rattle.pst_bytes.specs.declared.span.Span.{Span}
use Rattle.pst_fault.specs.First.{join_below}
use Rattle.pst_fault.proofs.FirstLemmas.{length-join_more, join_rises, slice_get-join}
use Rattle.pst_block.specs.Table.{Table, IsWithin}
use Rattle.pst_datatree.specs.declared.found.FoundPart.{FoundPart}
use Rattle.pst_datatree.specs.declared.named.Named.{Named}
use Rattle.pst_datatree.specs.declared.named.Named.TheVariants.{Nothing}
use Rattle.pst_datatree.specs.Named.{named_by, IfBlock}
use Rattle.pst_datatree.specs.Data.{named_spans, data_spans, data_fault, tree_fault}
use Rattle.pst_datatree.specs.Parts.{part_count, part_in, part_spans}
use Rattle.pst_datatree.specs.Marks.{start_of, IsFound, HasSpan}
use Rattle.pst_datatree.specs.Position.{named_left}
use Rattle.pst_datatree.proofs.PartsLemmas.{named_are, has_parts}
use Rattle.pst_datatree.proofs.PositionLemmas.{leaf_some, leaf_none}

-- no span comes before the first part
pub start_of_first : (t : Table) (bid : ℕ) → start_of t bid 0 ≡ 0
unfolding start_of
start_of_first t bid = refl

-- before any part was asked for
pub none_found : (t : Table) (bid : ℕ) → IsFound t bid (record { part = 0; before = 0; len = 0; named = Nothing })
none_found t bid = record { start = sym (start_of_first t bid); spans = λ k lt. absurd (omega arith); sound = refl; there = tt }

-- the part behind a part
pub start_of_next : (t : Table) (bid i : ℕ) (named : Named) → named ≡ named_by t (part_in t bid i) → start_of t bid (i + 1) ≡ start_of t bid i + length (named_spans t named)
unfolding start_of
start_of_next t bid i named is = length-join_more (part_spans t bid) i ∙ ap (λ (xs : List Span). length (join_below (part_spans t bid) i) + length xs) (named_are t (part_in t bid i) named is)

-- a span of a part
pub span_of_part : (t : Table) (bid i k : ℕ) (named : Named) → data_fault t bid ≡ None → i < part_count t bid → named ≡ named_by t (part_in t bid i) → k < length (named_spans t named) → slice_get (data_spans t bid) (start_of t bid i + k) ≡ slice_get (named_spans t named) k
unfolding start_of
span_of_part t bid i k named none below is lt =
    let part = part_spans t bid in
    let same : part i ≡ named_spans t named = named_are t (part_in t bid i) named is in
    let lt' : k < length (part i) = rw same lt in
    ap (λ xs. slice_get xs (length (join_below part i) + k)) (has_parts t bid none)
    ∙ slice_get-join part (part_count t bid) i k below lt'
    ∙ ap (λ xs. slice_get xs k) same

-- the parts rise
start_of_rises : (t : Table) (bid i n : ℕ) → i ≤ n → start_of t bid i ≤ start_of t bid n
unfolding start_of
start_of_rises t bid i n le =
    elim (cases_lt i n) [
      | inl lt ↦ omega (arith, join_rises (part_spans t bid) n i lt)
      | inr ge ↦ let same : i ≡ n = omega arith in rw same (omega arith)
    ]

length_of_all : (t : Table) (bid : ℕ) → data_fault t bid ≡ None → length (data_spans t bid) ≡ start_of t bid (part_count t bid)
unfolding start_of
length_of_all t bid none = ap (λ (xs : List Span). length xs) (has_parts t bid none)

-- a part with its facts
pub part_found : (t : Table) (bid : ℕ) (f : FoundPart) → data_fault t bid ≡ None → f.part < part_count t bid → f.before ≡ start_of t bid f.part → f.named ≡ named_by t (part_in t bid f.part) → f.len ≡ length (named_spans t f.named) → tree_fault t f.named ≡ None → IfBlock f.named (IsWithin t.image) → IsFound t bid f
part_found t bid f none below start is len sound there =
    record {
      start = start;
      spans = λ k lt. ap (λ n. slice_get (data_spans t bid) (n + k)) start ∙ span_of_part t bid f.part k f.named none below is (omega (arith, len, lt));
      sound = sound;
      there = there;
    }

-- behind all parts there is none
pub none_behind : (t : Table) (bid i n : ℕ) → data_fault t bid ≡ None → part_count t bid ≤ i → start_of t bid i ≤ n → slice_get (data_spans t bid) n ≡ None
none_behind t bid i n none past le = slice_get_past (data_spans t bid) n (omega (arith, length_of_all t bid none, start_of_rises t bid (part_count t bid) i past))

-- ---- the span with a number, in a part that was found

found_span : (t : Table) (bid n : ℕ) (f : FoundPart) → IsFound t bid f → HasSpan f n → slice_get (data_spans t bid) n ≡ slice_get (named_spans t f.named) (n - f.before)
found_span t bid n f is has =
    let same : f.before + (n - f.before) ≡ n = omega (arith, has.0) in
    ap (slice_get (data_spans t bid)) (sym same) ∙ is.spans (n - f.before) (omega (arith, has.0, has.1))

pub found_some : (t : Table) (bid n : ℕ) (f : FoundPart) (s : Span) (rest : List Span) → IsFound t bid f → HasSpan f n → named_left t f.named (record { child = 0; leaf = n - f.before }) ≡ s ∷ rest → slice_get (data_spans t bid) n ≡ Some s
found_some t bid n f s rest is has h = found_span t bid n f is has ∙ leaf_some t f.named (n - f.before) s rest h

pub found_none : (t : Table) (bid n : ℕ) (f : FoundPart) → IsFound t bid f → HasSpan f n → named_left t f.named (record { child = 0; leaf = n - f.before }) ≡ [] → slice_get (data_spans t bid) n ≡ None
found_none t bid n f is has h = found_span t bid n f is has ∙ leaf_none t f.named (n - f.before) h

-- a span that a part does not have lies behind it, where it does not lie before it
pub all_before : (f : FoundPart) (n : ℕ) (has : Bool) → has ≡ false → IsTrue has ↔ HasSpan f n → f.before ≤ n → f.before + f.len ≤ n
all_before f n has fails same le =
    elim (cases_lt n (f.before + f.len)) [
      | inl lt ↦ absurd (iff_false same fails (le, lt))
      | inr ge ↦ ge
    ]
