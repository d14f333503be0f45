-- The place of a broken node among others.
use Rattle.std.proofs.Common.{◌≡◌, ℕ, suc, ◌+◌, Bool, true, false, cond, List, [], ◌∷◌, ◌++◌, length, Some, None, refl, ap, ◌∙◌, arith}
use Rattle.std.specs.Prelude.{nat_lt, position}
use Rattle.std.specs.List.{insert, position_or_len}
use Rattle.std.proofs.lemmas.Bool.Decides.{nat_tests}
use Rattle.pst_damage.specs.declared.broken.BrokenNode.{BrokenNode}
use Rattle.pst_damage.specs.Order.{put_in}

abbrev Above : ℕ → BrokenNode → Bool
Above nid x = nat_lt nid x.nid

one_on : (b x : BrokenNode) (rest : List BrokenNode) (n : ℕ) → insert (x ∷ rest) (1 + n) b ≡ x ∷ insert rest n b
one_on b x rest n = let e : 1 + n ≡ suc n = omega arith in rw e refl

put_at : (b : BrokenNode) (xs : List BrokenNode) → insert xs (position_or_len (Above b.nid) xs) b ≡ put_in b xs
put_at b [] = refl
put_at b (x ∷ rest) = by_test (nat_lt b.nid x.nid) refl (put_at b rest)
  where
    by_test : (v : Bool) → nat_lt b.nid x.nid ≡ v → insert rest (position_or_len (Above b.nid) rest) b ≡ put_in b rest
        → insert (x ∷ rest) (position_or_len (Above b.nid) (x ∷ rest)) b ≡ put_in b (x ∷ rest)
    by_test true e later = rw e refl
    by_test false e later = rw e (one_on b x rest (position_or_len (Above b.nid) rest) ∙ ap (λ xs. x ∷ xs) later)

put_end : (b : BrokenNode) (xs : List BrokenNode) → nat_lt (position_or_len (Above b.nid) xs) (length xs) ≡ false → xs ++ b ∷ [] ≡ put_in b xs
put_end b [] e = refl
put_end b (x ∷ rest) e = by_test (nat_lt b.nid x.nid) refl (put_end b rest) e
  where
    by_test : (v : Bool) → nat_lt b.nid x.nid ≡ v → (nat_lt (position_or_len (Above b.nid) rest) (length rest) ≡ false → rest ++ b ∷ [] ≡ put_in b rest)
        → nat_lt (position_or_len (Above b.nid) (x ∷ rest)) (length (x ∷ rest)) ≡ false → (x ∷ rest) ++ b ∷ [] ≡ put_in b (x ∷ rest)
    by_test true t later e = let first : nat_lt 0 (suc (length rest)) ≡ false = rw t at e in grind (arith, nat_tests, first)
    by_test false t later e =
        let n = position_or_len (Above b.nid) rest in
        let next : nat_lt (1 + n) (suc (length rest)) ≡ false = rw t at e in
        let here : nat_lt n (length rest) ≡ false = grind (arith, nat_tests, next) in
        rw t (ap (λ xs. x ∷ xs) (later here))

pub put_before : (b : BrokenNode) (xs : List BrokenNode) (place : ℕ) → position (λ (x : BrokenNode). nat_lt b.nid x.nid) xs ≡ Some place → insert xs place b ≡ put_in b xs
put_before b xs place e = by_test (nat_lt (position_or_len (Above b.nid) xs) (length xs)) e
  where
    by_test : (v : Bool) → cond v (Some (position_or_len (Above b.nid) xs)) None ≡ Some place → insert xs place b ≡ put_in b xs
    by_test true e = let same : position_or_len (Above b.nid) xs ≡ place = cc in rw (← same) (put_at b xs)
    by_test false e = absurd cc

pub put_last : (b : BrokenNode) (xs : List BrokenNode) → position (λ (x : BrokenNode). nat_lt b.nid x.nid) xs ≡ None → xs ++ b ∷ [] ≡ put_in b xs
put_last b xs e = by_test (nat_lt (position_or_len (Above b.nid) xs) (length xs)) refl e
  where
    by_test : (v : Bool) → nat_lt (position_or_len (Above b.nid) xs) (length xs) ≡ v → cond v (Some (position_or_len (Above b.nid) xs)) None ≡ None → xs ++ b ∷ [] ≡ put_in b xs
    by_test true t e = absurd cc
    by_test false t e = put_end b xs t
