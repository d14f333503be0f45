-- The bytes of a part are that part of the bytes.
use Rattle.std.proofs.Common.{◌≡◌, ℕ, zero, suc, ◌+◌, ◌-◌, ◌<◌, ◌≤◌, min, List, [], ◌∷◌, ◌++◌, length, take, drop, refl, sym, ap, ◌∙◌, arith, inl, inr, length-drop, length-append}
use Rattle.std.specs.Prelude.{slice_range}
use Rattle.std.specs.List.{concat}
use Rattle.std.proofs.lemmas.Bool.{cases_lt}
use Rattle.std.proofs.lemmas.Grind.{common_steps}
use Rattle.std.proofs.lemmas.List.{drop_all}
use Rattle.pst_bytes.specs.declared.span.Span.{Span}
use Rattle.pst_bytes.specs.Image.{bytes_at}
use Rattle.pst_datatree.specs.Data.{size_of}
use Rattle.pst_datatree.specs.Spans.{joined_bytes, slices_of, AreInside}
use Rattle.pst_datatree.specs.Cut.{cut}
use Rattle.pst_datatree.proofs.CutLemmas.{cut_with, cut_without, cut_nil, size_of_cons}
use Rattle.pst_datatree.proofs.ValueLemmas.{length_bytes}

drop_nil : {X : Type 0} (n : ℕ) → drop {A = X} n [] ≡ []
drop_nil zero = refl
drop_nil (suc n) = refl

take_nil : {X : Type 0} (n : ℕ) → take {A = X} n [] ≡ []
take_nil zero = refl
take_nil (suc n) = refl

drop_both : {X : Type 0} (xs ys : List X) (n : ℕ) → drop n (xs ++ ys) ≡ drop n xs ++ drop (n - length xs) ys
drop_both [] ys n = let e : n ≡ n - 0 = omega arith in ap (λ m. drop m ys) e ∙ ap (λ zs. zs ++ drop (n - 0) ys) (sym (drop_nil n))
drop_both (x ∷ xs) ys zero = let e : 0 ≡ 0 - length (x ∷ xs) = omega arith in ap (λ m. (x ∷ xs) ++ drop m ys) e
drop_both (x ∷ xs) ys (suc n) = let e : n - length xs ≡ suc n - length (x ∷ xs) = omega arith in drop_both xs ys n ∙ ap (λ m. drop n xs ++ drop m ys) e

take_both : {X : Type 0} (xs ys : List X) (n : ℕ) → take n (xs ++ ys) ≡ take n xs ++ take (n - length xs) ys
take_both [] ys n = let e : n ≡ n - 0 = omega arith in ap (λ m. take m ys) e ∙ ap (λ zs. zs ++ take (n - 0) ys) (sym (take_nil n))
take_both (x ∷ xs) ys zero = let e : 0 ≡ 0 - length (x ∷ xs) = omega arith in ap (λ m. take m ys) e
take_both (x ∷ xs) ys (suc n) = let e : n - length xs ≡ suc n - length (x ∷ xs) = omega arith in ap (λ zs. x ∷ zs) (take_both xs ys n ∙ ap (λ m. take n xs ++ take m ys) e)

drop_drop : {X : Type 0} (xs : List X) (m n : ℕ) → drop n (drop m xs) ≡ drop (m + n) xs
drop_drop xs zero n = ap (λ k. drop k xs) (omega arith)
drop_drop [] (suc m) n = drop_all n [] (omega arith) ∙ sym (drop_all (suc m + n) [] (omega arith))
drop_drop (x ∷ xs) (suc m) n = let e : suc m + n ≡ suc (m + n) = omega arith in rw e (drop_drop xs m n)

take_take : {X : Type 0} (xs : List X) (m n : ℕ) → take n (take m xs) ≡ take (min n m) xs
take_take [] m n = grind (arith, common_steps)
take_take (x ∷ xs) zero n = let e : min n 0 ≡ 0 = omega arith in rw e (grind (arith, common_steps))
take_take (x ∷ xs) (suc m) zero = let e : min 0 (suc m) ≡ 0 = omega arith in rw e refl
take_take (x ∷ xs) (suc m) (suc n) = let e : min (suc n) (suc m) ≡ suc (min n m) = omega arith in rw e (ap (λ zs. x ∷ zs) (take_take xs m n))

drop_take : {X : Type 0} (xs : List X) (m n : ℕ) → drop n (take m xs) ≡ take (m - n) (drop n xs)
drop_take xs m zero = ap (λ k. take k xs) (omega arith)
drop_take [] m (suc n) = grind (arith, common_steps)
drop_take (x ∷ xs) zero (suc n) = let e : 0 - suc n ≡ 0 = omega arith in rw e refl
drop_take (x ∷ xs) (suc m) (suc n) = drop_take xs m n ∙ ap (λ k. take k (drop n xs)) (omega arith)

-- the bytes of a part of a span
part_bytes : (I : List ℕ) (from to : ℕ) (x : Span) → min from x.len < min to x.len → bytes_at I (record { at = x.at + min from x.len; len = min to x.len - min from x.len }) ≡ take (to - from) (drop from (bytes_at I x))
part_bytes I from to x lt =
    let low : min from x.len ≡ from = omega arith in
    let high : min to x.len - min from x.len ≡ min (to - from) (x.len - from) = omega arith in
    sym (ap (take (to - from)) (drop_take (drop x.at I) x.len from ∙ ap (take (x.len - from)) (drop_drop I x.at from))
    ∙ take_take (drop (x.at + from) I) (x.len - from) (to - from)
    ∙ sym (ap (λ n. take n (drop (x.at + min from x.len) I)) high ∙ ap (λ n. take (min (to - from) (x.len - from)) (drop (x.at + n) I)) low))

no_part : (bytes : List ℕ) (from to len : ℕ) → length bytes ≡ len → min to len ≤ min from len → take (to - from) (drop from bytes) ≡ []
no_part bytes from to len e le =
    elim (cases_lt from to) [
      | inl lt ↦ ap (take (to - from)) (drop_all from bytes (omega arith)) ∙ grind (arith, common_steps)
      | inr past ↦ let z : to - from ≡ 0 = omega arith in rw z refl
    ]

-- the bytes of a part are that part of the bytes
pub bytes_of_cut : (I : List ℕ) (from to : ℕ) (xs : List Span) → AreInside I xs → joined_bytes I (cut from to xs) ≡ slice_range (joined_bytes I xs) from to
bytes_of_cut I from to [] h = rw (cut_nil from to) (grind (arith, common_steps))
bytes_of_cut I from to (x ∷ rest) h =
    let bytes = bytes_at I x in
    let len : length bytes ≡ x.len = length_bytes I x h.0 in
    let others = joined_bytes I rest in
    let tail = bytes_of_cut I (from - x.len) (to - x.len) rest h.1 in
    let past : from - length bytes ≡ from - x.len = omega arith in
    let left : to - from - length (drop from bytes) ≡ (to - x.len) - (from - x.len) = omega (arith, length-drop from bytes) in
    let whole : slice_range (bytes ++ others) from to ≡ take (to - from) (drop from bytes) ++ slice_range others (from - x.len) (to - x.len) =
    ap (take (to - from)) (drop_both bytes others from)
    ∙ take_both (drop from bytes) (drop (from - length bytes) others) (to - from)
    ∙ ap (λ n. take (to - from) (drop from bytes) ++ take n (drop (from - length bytes) others)) left
    ∙ ap (λ n. take (to - from) (drop from bytes) ++ take ((to - x.len) - (from - x.len)) (drop n others)) past in
    elim (cases_lt (min from x.len) (min to x.len)) [
      | inl lt ↦
          rw (cut_with from to x rest lt)
          (ap (λ bs. bs ++ joined_bytes I (cut (from - x.len) (to - x.len) rest)) (part_bytes I from to x lt)
          ∙ ap (λ bs. take (to - from) (drop from bytes) ++ bs) tail ∙ sym whole)
      | inr le ↦
          rw (cut_without from to x rest le)
          (tail ∙ sym (whole ∙ ap (λ bs. bs ++ slice_range others (from - x.len) (to - x.len)) (no_part bytes from to x.len len le)))
    ]

-- the slices of spans that lie in the file have as many bytes as the spans
pub length_of_slices : (I : List ℕ) (xs : List Span) → AreInside I xs → length (concat (slices_of I xs)) ≡ size_of xs
length_of_slices I [] h = refl
length_of_slices I (x ∷ rest) h =
    omega (arith, length-append (bytes_at I x) (concat (slices_of I rest)), length_bytes I x h.0, length_of_slices I rest h.1, size_of_cons x rest)
