-- Numbers that are met in a turn, one after another.
use Rattle.std.proofs.Common.{◌≡◌, ◌≢◌, ℕ, ◌<◌, Bool, true, false, List, [], ◌∷◌, ◌++◌, length, get_or, Some, refl, sym, ap, ◌∙◌, arith}
use Rattle.std.specs.Prelude.{not, ◌||◌, nat_eq, slice_get}
use Rattle.std.specs.List.{list_any}
use Rattle.std.proofs.Math.ListN.{set, length-set}
use Rattle.std.proofs.lemmas.Bool.{ne_eqb, and_parts, or_parts, not-true}
use Rattle.std.proofs.lemmas.List.{get_or-set_same, get_or-set_other}
use Rattle.std.proofs.lemmas.List.Folds.{list_any-append}
use Rattle.std.proofs.lemmas.Option.{slice_get-get_or, slice_get_within, get_or_from_slice_get}
use Rattle.pst_fault.proofs.GeneralLemmas.{number_of_test, test_of_number, true_false}
use Rattle.pst_subnode.specs.declared.stamps.Stamps.{Stamps}
use Rattle.pst_subnode.specs.List.{are_distinct}
use Rattle.pst_subnode.specs.Numbers.{AreMetOnce}

-- ---- one number more is distinct from others

none_more : (x n : ℕ) (xs : List ℕ) → (n ≡ x → ⊥) → list_any (nat_eq x) xs ≡ false → list_any (nat_eq x) (xs ++ n ∷ []) ≡ false
none_more x n xs other none = list_any-append (nat_eq x) xs (n ∷ []) ∙ rw (none, ne_eqb x n (λ same. other (sym same))) refl

distinct_more : (xs : List ℕ) (n : ℕ) → are_distinct xs ≡ true → list_any (nat_eq n) xs ≡ false → are_distinct (xs ++ n ∷ []) ≡ true
unfolding are_distinct
distinct_more [] n are none = refl
distinct_more (x ∷ rest) n are none =
    let p = and_parts (not (list_any (nat_eq x) rest)) (are_distinct rest) are in
    let q = or_parts (nat_eq n x) (list_any (nat_eq n) rest) none in
    rw (none_more x n rest (λ same. true_false (nat_eq n x) (test_of_number n x same) q.0) (not-true _ p.0), distinct_more rest n p.1 q.1) refl

-- ---- stamps

-- a stamp that is not looked at stays
slice_get-set_other : (xs : List ℕ) (i j v : ℕ) → j ≢ i → j < length xs → slice_get (set xs i v) j ≡ slice_get xs j
slice_get-set_other xs i j v other within =
    slice_get-get_or (set xs i v) j 0 (omega (arith, length-set xs i v))
    ∙ ap Some (get_or-set_other xs i j v 0 other)
    ∙ sym (slice_get-get_or xs j 0 within)

slice_get-set_same : (xs : List ℕ) (i v : ℕ) → i < length xs → slice_get (set xs i v) i ≡ Some v
slice_get-set_same xs i v within = slice_get-get_or (set xs i v) i 0 (omega (arith, length-set xs i v)) ∙ ap Some (get_or-set_same xs i v 0 within)

-- a number whose stamp is not of this turn was not met in it
unmet : (s : Stamps) (numbers : List ℕ) (n : ℕ) → (get_or s.stamps.items n 0 ≡ s.turn → ⊥) → AreMetOnce s numbers → list_any (nat_eq n) numbers ≡ false
unmet s numbers n other are = by_test (list_any (nat_eq n) numbers) refl
  where
    by_test : (v : Bool) → list_any (nat_eq n) numbers ≡ v → list_any (nat_eq n) numbers ≡ false
    by_test false is = is
    by_test true is = absurd (other (get_or_from_slice_get s.stamps.items n s.turn 0 (are.met n is)))

-- no number
pub none_met : (s : Stamps) → AreMetOnce s []
unfolding are_distinct
none_met s = record { once = refl; met = λ n there. absurd (true_false false there refl) }

-- one number more
pub one_met : (old new : Stamps) (n : ℕ) (before : List ℕ) → new.turn ≡ old.turn → new.stamps.items ≡ set old.stamps.items n old.turn → n < length old.stamps.items → (get_or old.stamps.items n 0 ≡ old.turn → ⊥) → AreMetOnce old before → AreMetOnce new (before ++ n ∷ [])
one_met old new n before turn items within other are = record {
  once = distinct_more before n are.once (unmet old before n other are);
  met = λ q there. rw (turn, items) (by_test q (nat_eq q n) refl (sym (list_any-append (nat_eq q) before (n ∷ [])) ∙ there));
}
  where
    by_test : (q : ℕ) (v : Bool) → nat_eq q n ≡ v → (list_any (nat_eq q) before || (nat_eq q n || false)) ≡ true → slice_get (set old.stamps.items n old.turn) q ≡ Some old.turn
    by_test q true is there = rw (number_of_test q n is) (slice_get-set_same old.stamps.items n old.turn within)
    by_test q false is there = by_other (list_any (nat_eq q) before) refl
      where
        by_other : (b : Bool) → list_any (nat_eq q) before ≡ b → slice_get (set old.stamps.items n old.turn) q ≡ Some old.turn
        by_other false none = absurd (true_false false (rw (none, is) at there) refl)
        by_other true met =
            let stamp : slice_get old.stamps.items q ≡ Some old.turn = are.met q met in
            slice_get-set_other old.stamps.items n q old.turn (λ same. true_false (nat_eq q n) (test_of_number q n same) is) (slice_get_within old.stamps.items q old.turn stamp) ∙ stamp
