-- Parts that are as told, each by its function, are as told together.
use Rattle.std.proofs.Common.{◌≡◌, ℕ, zero, suc, ◌<◌, List, ◌++◌, Option, None, refl, ap, ◌∙◌, arith, ◌↔◌}
use Rattle.pst_fault.specs.declared.fault.Fault.{Fault}
use Rattle.pst_fault.specs.First.{first_below, join_below, AreJoined}
use Rattle.pst_fault.proofs.FirstLemmas.{then_none, none_below}

module _ {X : Type 0} (IsPart : ℕ → List X → Type 0) (fault : ℕ → Option Fault) (part : ℕ → List X) (law : (i : ℕ) (xs : List X) → IsPart i xs ↔ ((fault i ≡ None) × (xs ≡ part i))) where
  none_of_parts : (parts : ℕ → List X) (n : ℕ) → ((i : ℕ) → i < n → IsPart i (parts i)) → first_below fault n ≡ None
  none_of_parts parts zero h = refl
  none_of_parts parts (suc n) h =
      then_none (first_below fault n) (fault n) (none_of_parts parts n (λ i lt. h i (omega arith))) ∙ ((law n (parts n)).0 (h n (omega arith))).0

  join_of_parts : (parts : ℕ → List X) (n : ℕ) → ((i : ℕ) → i < n → IsPart i (parts i)) → join_below parts n ≡ join_below part n
  join_of_parts parts zero h = refl
  join_of_parts parts (suc n) h =
      ap (λ xs. xs ++ parts n) (join_of_parts parts n (λ i lt. h i (omega arith))) ∙ ap (λ xs. join_below part n ++ xs) ((law n (parts n)).0 (h n (omega arith))).1

  pub joined_law : (n : ℕ) (xs : List X) → AreJoined IsPart n xs ↔ ((first_below fault n ≡ None) × (xs ≡ join_below part n))
  joined_law n xs = (
    (λ w. (none_of_parts w.0 n w.1, w.2 ∙ join_of_parts w.0 n w.1)),
    (λ w. (part, (λ i lt. (law i (part i)).1 (none_below fault n i w.0 lt, refl)), w.1)),
  )
