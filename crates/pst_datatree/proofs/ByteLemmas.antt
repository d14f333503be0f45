-- One byte of a value, as the first of a part.
use Rattle.std.proofs.Common.{◌≡◌, ℕ, ◌+◌, ◌-◌, ◌<◌, min, List, [], ◌∷◌, ◌++◌, length, take, drop, None, refl, sym, ap, ◌∙◌, arith, inl, inr}
use Rattle.std.specs.Prelude.{slice_get, slice_range}
use Rattle.std.specs.List.{concat}
use Rattle.std.proofs.lemmas.Bool.{cases_lt}
use Rattle.pst_bytes.specs.declared.span.Span.{Span}
use Rattle.pst_bytes.specs.Image.{bytes_at, IsInside}
use Rattle.pst_datatree.specs.Data.{size_of}
use Rattle.pst_datatree.specs.Cut.{cut}
use Rattle.pst_datatree.specs.Spans.{joined_bytes, slices_of}
use Rattle.pst_datatree.proofs.CutLemmas.{cut_with, cut_without, cut_nil, size_of_part}
use Rattle.pst_datatree.proofs.ValueLemmas.{bytes_of_pieces, length_bytes}
use Rattle.pst_datatree.proofs.PositionLemmas.{get_of_drop}

-- a part has no empty span
cut_some : (from to : ℕ) (xs : List Span) (s : Span) (rest : List Span) → cut from to xs ≡ s ∷ rest → 0 < s.len
cut_some from to [] s rest h = let bad : [] ≡ s ∷ rest = sym (cut_nil from to) ∙ h in absurd cc
cut_some from to (x ∷ xs) s rest h =
    elim (cases_lt (min from x.len) (min to x.len)) [
      | inl lt ↦
          let p : Span = record { at = x.at + min from x.len; len = min to x.len - min from x.len } in
          let lists : p ∷ cut (from - x.len) (to - x.len) xs ≡ s ∷ rest = sym (cut_with from to x xs lt) ∙ h in
          let same : p ≡ s = cc in
          let len : min to x.len - min from x.len ≡ s.len = ap (λ (z : Span). z.len) same in
          omega (arith, len, lt)
      | inr le ↦ cut_some (from - x.len) (to - x.len) xs s rest (sym (cut_without from to x xs le) ∙ h)
    ]

first_of_two : (xs ys : List ℕ) → 0 < length xs → slice_get (xs ++ ys) 0 ≡ slice_get xs 0
first_of_two [] ys h = absurd (omega arith)
first_of_two (x ∷ xs) ys h = refl

first_of_one : (xs : List ℕ) → slice_get (take 1 xs) 0 ≡ slice_get xs 0
first_of_one [] = refl
first_of_one (x ∷ xs) = refl

first_of_range : (xs : List ℕ) (i : ℕ) → slice_get (slice_range xs i (i + 1)) 0 ≡ slice_get xs i
first_of_range xs i = let one : i + 1 - i ≡ 1 = omega arith in rw one (first_of_one (drop i xs) ∙ get_of_drop xs i)

pub byte_of_part : (I : List ℕ) (i : ℕ) (xs : List Span) (s : Span) (rest : List Span) → cut i (i + 1) xs ≡ s ∷ rest → IsInside I s → joined_bytes I (cut i (i + 1) xs) ≡ slice_range (joined_bytes I xs) i (i + 1) → slice_get (concat (slices_of I xs)) i ≡ slice_get (bytes_at I s) 0
byte_of_part I i xs s rest h inside part =
    let some : 0 < length (bytes_at I s) = omega (arith, length_bytes I s inside, cut_some i (i + 1) xs s rest h) in
    ap (λ bs. slice_get bs i) (bytes_of_pieces I xs)
    ∙ sym (first_of_range (joined_bytes I xs) i)
    ∙ ap (λ bs. slice_get bs 0) (sym part)
    ∙ ap (λ ys. slice_get (joined_bytes I ys) 0) h
    ∙ first_of_two (bytes_at I s) (joined_bytes I rest) some

-- where there is a byte, its part has a span
pub no_byte : (I : List ℕ) (i : ℕ) (xs : List Span) → cut i (i + 1) xs ≡ [] → i < size_of xs → slice_get (concat (slices_of I xs)) i ≡ None
no_byte I i xs h lt =
    let size : i + 1 - i ≡ size_of (cut i (i + 1) xs) = size_of_part i (i + 1) xs (omega arith) (omega arith) in
    let none : size_of (cut i (i + 1) xs) ≡ 0 = ap (λ ys. size_of ys) h in
    absurd (omega (arith, size, none))
