-- What is left of joined lists.
use Rattle.std.proofs.Common.{◌≡◌, ℕ, zero, suc, ◌+◌, List, [], ◌∷◌, ◌++◌, refl, sym, ap, ◌∙◌, arith, append_assoc}
use Rattle.std.proofs.lemmas.List.{append-nil}
use Rattle.pst_fault.specs.First.{join_below, join_from}

pub join_from_none : {X : Type 0} (part : ℕ → List X) (i n : ℕ) → n ≡ 0 → join_from part i n ≡ []
unfolding join_from
join_from_none part i n z = rw z refl

join_from_suc : {X : Type 0} (part : ℕ → List X) (i n : ℕ) → join_from part i (suc n) ≡ part i ++ join_from part (i + 1) n
unfolding join_from
join_from_suc part i n = refl

-- the first of them, where the others are one fewer
pub join_from_next : {X : Type 0} (part : ℕ → List X) (i n k m : ℕ) → k ≡ i + 1 → m + 1 ≡ n → join_from part i n ≡ part i ++ join_from part k m
join_from_next part i n k m next fewer =
    let more : n ≡ suc m = omega arith in
    rw (more, next) (join_from_suc part i m)

-- one more at the end
join_from_more : {X : Type 0} (part : ℕ → List X) (i n : ℕ) → join_from part i (suc n) ≡ join_from part i n ++ part (i + n)
unfolding join_from
join_from_more part i zero = let there : i + 0 ≡ i = omega arith in rw there (append-nil (part i))
join_from_more part i (suc n) =
    let there : i + 1 + n ≡ i + suc n = omega arith in
    ap (λ rest. part i ++ rest) (join_from_more part (i + 1) n) ∙ rw there (sym (append_assoc (part i) (join_from part (i + 1) n) (part (i + suc n))))

-- all of them
pub join_from_all : {X : Type 0} (part : ℕ → List X) (n : ℕ) → join_from part 0 n ≡ join_below part n
unfolding join_from
join_from_all part zero = refl
join_from_all part (suc n) =
    let there : 0 + n ≡ n = omega arith in
    join_from_more part 0 n ∙ rw there (ap (λ xs. xs ++ part n) (join_from_all part n))

-- nothing is left of two
pub none_left : {X : Type 0} (one two : ℕ → List X) (i n j m : ℕ) → n ≡ 0 → m ≡ 0 → join_from one i n ++ join_from two j m ≡ []
none_left one two i n j m z y = rw (join_from_none one i n z, join_from_none two j m y) refl

-- the first has all of its own left, the second nothing
pub first_left : {X : Type 0} (one two : ℕ → List X) (i n j m : ℕ) → i ≡ 0 → m ≡ 0 → join_from one i n ++ join_from two j m ≡ join_below one n
first_left one two i n j m z y = rw (z, join_from_none two j m y) (append-nil (join_from one 0 n) ∙ join_from_all one n)

-- the first has nothing left, the second all of its own
pub second_left : {X : Type 0} (one two : ℕ → List X) (i n j m : ℕ) → n ≡ 0 → j ≡ 0 → join_from one i n ++ join_from two j m ≡ join_below two m
second_left one two i n j m z y = rw (y, join_from_none one i n z) (join_from_all two m)

-- the first has nothing left: the first part of the second is opened in its place
pub opens : {X : Type 0} (one other two three : ℕ → List X) (i n a b j m k l x y : ℕ) → n ≡ 0 → k ≡ j + 1 → l + 1 ≡ m → join_from other a b ++ join_from three x y ≡ two j → y ≡ 0 → join_from other a b ++ join_from two k l ≡ join_from one i n ++ join_from two j m
opens one other two three i n a b j m k l x y z next fewer part w =
    let first : join_from other a b ≡ two j = sym (append-nil (join_from other a b)) ∙ ap (λ rest. join_from other a b ++ rest) (sym (join_from_none three x y w)) ∙ part in
    rw (first, join_from_none one i n z, join_from_next two j m k l next fewer) refl

-- the first of what is left, and what is left behind it
pub next_left : {X : Type 0} (one : ℕ → X) (two : ℕ → List X) (i n k m j l : ℕ) → k ≡ i + 1 → m + 1 ≡ n → join_from (λ a. one a ∷ []) i n ++ join_from two j l ≡ one i ∷ (join_from (λ a. one a ∷ []) k m ++ join_from two j l)
next_left one two i n k m j l next fewer = rw (join_from_next (λ a. one a ∷ []) i n k m next fewer) refl
