-- The bytes of a value that is one slice or pieces.
use Rattle.std.proofs.Common.{◌≡◌, ℕ, ◌<◌, ◌≤◌, true, false, List, [], ◌∷◌, ◌++◌, length, refl, sym, ap, ◌∙◌, arith, inl, inr}
use Rattle.std.specs.Prelude.{nat_lt}
use Rattle.std.specs.List.{concat}
use Rattle.std.proofs.lemmas.Bool.{cases_lt}
use Rattle.std.proofs.lemmas.Bool.Decides.{nat_tests}
use Rattle.std.proofs.lemmas.List.{append-nil}
use Rattle.std.proofs.lemmas.Grind.{common_steps}
use Rattle.pst_bytes.specs.declared.span.Span.{Span}
use Rattle.pst_bytes.specs.Image.{bytes_at, IsInside}
use Rattle.pst_datatree.specs.Data.{size_of}
use Rattle.pst_datatree.specs.Spans.{nonempty, joined_bytes, slices_of, first_span}
use Rattle.pst_datatree.proofs.CutLemmas.{size_of_cons}

-- the slices of a list of spans, joined, are its bytes
pub bytes_of_pieces : (I : List ℕ) (spans : List Span) → concat (slices_of I spans) ≡ joined_bytes I spans
bytes_of_pieces I [] = refl
bytes_of_pieces I (s ∷ rest) = ap (λ bs. bytes_at I s ++ bs) (bytes_of_pieces I rest)

-- an empty span has no bytes
no_bytes : (I : List ℕ) (s : Span) → s.len ≤ 0 → bytes_at I s ≡ []
no_bytes I s h = let z : s.len ≡ 0 = omega arith in rw z refl

pub with_bytes : (s : Span) (rest : List Span) → 0 < s.len → nonempty (s ∷ rest) ≡ s ∷ nonempty rest
with_bytes s rest lt = let yes : nat_lt 0 s.len ≡ true = grind (arith, nat_tests) in rw yes refl

pub without_bytes : (s : Span) (rest : List Span) → s.len ≤ 0 → nonempty (s ∷ rest) ≡ nonempty rest
without_bytes s rest le = let no : nat_lt 0 s.len ≡ false = grind (arith, nat_tests) in rw no refl

-- empty spans add nothing
bytes_of_nonempty : (I : List ℕ) (spans : List Span) → joined_bytes I (nonempty spans) ≡ joined_bytes I spans
bytes_of_nonempty I [] = refl
bytes_of_nonempty I (s ∷ rest) =
    elim (cases_lt 0 s.len) [
      | inl lt ↦ rw (with_bytes s rest lt) (ap (λ bs. bytes_at I s ++ bs) (bytes_of_nonempty I rest))
      | inr le ↦ rw (without_bytes s rest le, no_bytes I s le) (bytes_of_nonempty I rest)
    ]

pub bytes_with_bytes : (I : List ℕ) (few spans : List Span) → few ≡ nonempty spans → concat (slices_of I few) ≡ concat (slices_of I spans)
bytes_with_bytes I few spans is = rw is (bytes_of_pieces I (nonempty spans) ∙ bytes_of_nonempty I spans ∙ sym (bytes_of_pieces I spans))

size_of_nonempty : (spans : List Span) → size_of (nonempty spans) ≡ size_of spans
size_of_nonempty [] = refl
size_of_nonempty (s ∷ rest) =
    elim (cases_lt 0 s.len) [
      | inl lt ↦ rw (with_bytes s rest lt) (omega (arith, size_of_cons s (nonempty rest), size_of_cons s rest, size_of_nonempty rest))
      | inr le ↦ rw (without_bytes s rest le) (omega (arith, size_of_cons s rest, size_of_nonempty rest))
    ]

one_at_most : (I : List ℕ) (spans : List Span) → length spans ≤ 1 → bytes_at I (first_span spans) ≡ joined_bytes I spans
one_at_most I [] h = no_bytes I (record { at = 0; len = 0 }) (omega arith)
one_at_most I (s ∷ []) h = sym (append-nil (bytes_at I s))
one_at_most I (s ∷ r ∷ rest) h = absurd (omega arith)

size_at_most : (spans : List Span) → length spans ≤ 1 → (first_span spans).len ≡ size_of spans
size_at_most [] h = refl
size_at_most (s ∷ []) h = omega (arith, size_of_cons s [])
size_at_most (s ∷ r ∷ rest) h = absurd (omega arith)

-- where one span at most has bytes, its bytes are all
pub bytes_of_only : (I : List ℕ) (spans : List Span) → length (nonempty spans) ≤ 1 → bytes_at I (first_span (nonempty spans)) ≡ joined_bytes I spans
bytes_of_only I spans h = one_at_most I (nonempty spans) h ∙ bytes_of_nonempty I spans

pub length_bytes : (I : List ℕ) (s : Span) → IsInside I s → length (bytes_at I s) ≡ s.len
length_bytes I s inside = grind (arith, common_steps)

pub size_of_only : (I : List ℕ) (spans : List Span) → IsInside I (first_span (nonempty spans)) → length (nonempty spans) ≤ 1 → length (bytes_at I (first_span (nonempty spans))) ≡ size_of spans
size_of_only I spans inside h =
    length_bytes I (first_span (nonempty spans)) inside ∙ size_at_most (nonempty spans) h ∙ size_of_nonempty spans
