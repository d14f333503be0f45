-- Laws of the parts of a list of spans.
use Rattle.std.proofs.Common.{◌≡◌, ℕ, ◌+◌, ◌-◌, ◌<◌, ◌≤◌, min, true, false, List, [], ◌∷◌, ◌++◌, refl, sym, ap, ◌∙◌, arith, inl, inr}
use Rattle.std.specs.Prelude.{nat_lt}
use Rattle.std.proofs.lemmas.Bool.Decides.{nat_tests}
use Rattle.std.proofs.lemmas.Bool.{cases_lt}
use Rattle.std.proofs.lemmas.List.Sums.{sum_by-cons}
use Rattle.pst_bytes.specs.declared.span.Span.{Span}
use Rattle.pst_datatree.specs.Data.{size_of}
use Rattle.pst_datatree.specs.Cut.{cut, cut_span}

pub size_of_cons : (x : Span) (xs : List Span) → size_of (x ∷ xs) ≡ x.len + size_of xs
size_of_cons x xs = sum_by-cons (λ s. s.len) x xs

-- a span of which some bytes are wanted, and one of which none are
pub cut_with : (from to : ℕ) (s : Span) (rest : List Span) → min from s.len < min to s.len → cut from to (s ∷ rest) ≡ record { at = s.at + min from s.len; len = min to s.len - min from s.len } ∷ cut (from - s.len) (to - s.len) rest
unfolding cut
cut_with from to s rest lt = let yes : nat_lt (min from s.len) (min to s.len) ≡ true = grind (arith, nat_tests) in rw yes refl

pub cut_without : (from to : ℕ) (s : Span) (rest : List Span) → min to s.len ≤ min from s.len → cut from to (s ∷ rest) ≡ cut (from - s.len) (to - s.len) rest
unfolding cut
cut_without from to s rest le = let no : nat_lt (min from s.len) (min to s.len) ≡ false = grind (arith, nat_tests) in rw no refl

pub cut_nil : (from to : ℕ) → cut from to [] ≡ []
unfolding cut
cut_nil from to = refl

-- nothing is wanted
pub cut_none : (from to : ℕ) (xs : List Span) → to ≤ from → cut from to xs ≡ []
cut_none from to [] h = cut_nil from to
cut_none from to (s ∷ rest) h = cut_without from to s rest (omega arith) ∙ cut_none (from - s.len) (to - s.len) rest (omega arith)

-- ---- so many bytes, behind the first ones

-- the part begins behind the first span
pub cut_past : (skip left : ℕ) (s : Span) (rest : List Span) → s.len ≤ skip → cut skip (skip + left) (s ∷ rest) ≡ cut (skip - s.len) (skip - s.len + left) rest
cut_past skip left s rest h =
    let same : skip + left - s.len ≡ skip - s.len + left = omega arith in
    cut_without skip (skip + left) s rest (omega arith) ∙ ap (λ m. cut (skip - s.len) m rest) same

-- it begins in the first span
pub cut_here : (skip left len : ℕ) (s : Span) (rest : List Span) → skip < s.len → 0 < left → len ≡ min left (s.len - skip) → cut skip (skip + left) (s ∷ rest) ≡ record { at = s.at + skip; len = len } ∷ cut 0 (0 + (left - len)) rest
cut_here skip left len s rest inside some is =
    let low : min skip s.len ≡ skip = omega arith in
    let high : min (skip + left) s.len - min skip s.len ≡ len = omega arith in
    let behind : skip - s.len ≡ 0 = omega arith in
    let more : skip + left - s.len ≡ 0 + (left - len) = omega arith in
    cut_with skip (skip + left) s rest (omega arith)
    ∙ ap (λ a. record { at = s.at + a; len = min (skip + left) s.len - min skip s.len } ∷ cut (skip - s.len) (skip + left - s.len) rest) low
    ∙ ap (λ n. record { at = s.at + skip; len = n } ∷ cut (skip - s.len) (skip + left - s.len) rest) high
    ∙ ap (λ n. record { at = s.at + skip; len = len } ∷ cut n (skip + left - s.len) rest) behind
    ∙ ap (λ n. record { at = s.at + skip; len = len } ∷ cut 0 n rest) more

-- ---- a part of a part

-- the same bytes of a span and of a part of it
cut_span_shift : (a from to : ℕ) (p x : Span) → p.at ≡ x.at + a → min (a + from) x.len ≡ a + min from p.len → min (a + to) x.len ≡ a + min to p.len → cut_span from to p ≡ cut_span (a + from) (a + to) x
cut_span_shift a from to p x at low high =
    elim (cases_lt (min from p.len) (min to p.len)) [
      | inl lt ↦
          let yes : nat_lt (min from p.len) (min to p.len) ≡ true = grind (arith, nat_tests) in
          let also : nat_lt (min (a + from) x.len) (min (a + to) x.len) ≡ true = rw (low, high) (grind (arith, nat_tests)) in
          let place : p.at + min from p.len ≡ x.at + min (a + from) x.len = omega arith in
          let len : min to p.len - min from p.len ≡ min (a + to) x.len - min (a + from) x.len = omega arith in
          rw (yes, also, place, len) refl
      | inr le ↦
          let no : nat_lt (min from p.len) (min to p.len) ≡ false = grind (arith, nat_tests) in
          let also : nat_lt (min (a + from) x.len) (min (a + to) x.len) ≡ false = rw (low, high) (grind (arith, nat_tests)) in
          rw (no, also) refl
    ]

pub cut_cons : (from to : ℕ) (s : Span) (rest : List Span) → cut from to (s ∷ rest) ≡ cut_span from to s ++ cut (from - s.len) (to - s.len) rest
unfolding cut
cut_cons from to s rest = refl

cut_cut : (a b from to : ℕ) (xs : List Span) → from ≤ to → a + to ≤ b → cut from to (cut a b xs) ≡ cut (a + from) (a + to) xs
cut_cut a b from to [] h fits = rw (cut_nil a b, cut_nil from to, cut_nil (a + from) (a + to)) refl
cut_cut a b from to (x ∷ rest) h fits =
    elim (cases_lt (min a x.len) (min b x.len)) [
      | inl lt ↦
          let p : Span = record { at = x.at + min a x.len; len = min b x.len - min a x.len } in
          let inner = cut_with a b x rest lt in
          let head = cut_span_shift a from to p x (omega arith) (omega arith) (omega arith) in
          let tail = cut_cut (a - x.len) (b - x.len) (from - p.len) (to - p.len) rest (omega arith) (omega arith) in
          rw inner
          (cut_cons from to p (cut (a - x.len) (b - x.len) rest)
          ∙ ap (λ zs. zs ++ cut (from - p.len) (to - p.len) (cut (a - x.len) (b - x.len) rest)) head
          ∙ ap (λ zs. cut_span (a + from) (a + to) x ++ zs) tail
          ∙ ap (λ m. cut_span (a + from) (a + to) x ++ cut m (a - x.len + (to - p.len)) rest) (omega arith)
          ∙ ap (λ m. cut_span (a + from) (a + to) x ++ cut (a + from - x.len) m rest) (omega arith)
          ∙ sym (cut_cons (a + from) (a + to) x rest))
      | inr le ↦
          let inner = cut_without a b x rest le in
          elim (cases_lt a x.len) [
            | inl inside ↦ rw inner (rw (cut_none (a - x.len) (b - x.len) rest (omega arith)) (cut_nil from to ∙ sym (cut_none (a + from) (a + to) (x ∷ rest) (omega arith))))
            | inr past ↦
                rw inner
                (cut_cut (a - x.len) (b - x.len) from to rest h (omega arith)
                ∙ ap (λ m. cut m (a - x.len + to) rest) (omega arith)
                ∙ ap (λ m. cut (a + from - x.len) m rest) (omega arith)
                ∙ sym (cut_without (a + from) (a + to) x rest (omega arith)))
          ]
    ]

-- how many bytes a part has
pub size_of_cut : (a b : ℕ) (xs : List Span) → size_of (cut a b xs) ≡ min b (size_of xs) - min a (size_of xs)
size_of_cut a b [] = rw cut_nil (omega arith)
size_of_cut a b (x ∷ rest) =
    elim (cases_lt (min a x.len) (min b x.len)) [
      | inl lt ↦ rw (cut_with a b x rest lt, size_of_cons x rest) (omega (arith, size_of_cons (record { at = x.at + min a x.len; len = min b x.len - min a x.len }) (cut (a - x.len) (b - x.len) rest), size_of_cut (a - x.len) (b - x.len) rest))
      | inr le ↦ rw (cut_without a b x rest le, size_of_cons x rest) (omega (arith, size_of_cut (a - x.len) (b - x.len) rest))
    ]

-- a part of a list, of so many bytes behind the first ones
pub part_of_whole : (from to : ℕ) (xs : List Span) → from ≤ to → cut from (from + (to - from)) xs ≡ cut from to xs
part_of_whole from to xs h = let same : from + (to - from) ≡ to = omega arith in ap (λ m. cut from m xs) same

-- a part of a part
pub part_of_part : (skip left from to : ℕ) (xs : List Span) → from ≤ to → to ≤ left → cut (skip + from) (skip + from + (to - from)) xs ≡ cut from to (cut skip (skip + left) xs)
part_of_part skip left from to xs order fits =
    let same : skip + from + (to - from) ≡ skip + to = omega arith in
    ap (λ m. cut (skip + from) m xs) same ∙ sym (cut_cut skip (skip + left) from to xs order (omega arith))

-- it has all its bytes, where the whole has them
pub size_of_part : (from to : ℕ) (xs : List Span) → from ≤ to → to ≤ size_of xs → to - from ≡ size_of (cut from to xs)
size_of_part from to xs order fits = omega (arith, size_of_cut from to xs)

pub size_of_parts_part : (skip left from to : ℕ) (xs : List Span) → from ≤ to → to ≤ left → left ≡ size_of (cut skip (skip + left) xs) → to - from ≡ size_of (cut (skip + from) (skip + from + (to - from)) xs)
size_of_parts_part skip left from to xs order fits is =
    size_of_part from to (cut skip (skip + left) xs) order (omega arith) ∙ ap (λ ys. size_of ys) (sym (part_of_part skip left from to xs order fits))

-- what is left behind a part's first span has all its bytes, too
pub size_behind : (skip left len : ℕ) (s : Span) (rest xs ys : List Span) → skip < s.len → 0 < left → len ≡ min left (s.len - skip) → xs ≡ s ∷ rest → cut skip (skip + left) xs ≡ ys → left ≡ size_of ys → left - len ≡ size_of (cut 0 (0 + (left - len)) rest)
size_behind skip left len s rest xs ys inside some is split shows counted =
    let p : Span = record { at = s.at + skip; len = len } in
    let whole : p ∷ cut 0 (0 + (left - len)) rest ≡ ys = sym (cut_here skip left len s rest inside some is) ∙ ap (cut skip (skip + left)) (sym split) ∙ shows in
    omega (arith, size_of_cons p (cut 0 (0 + (left - len)) rest), ap (λ zs. size_of zs) whole)
