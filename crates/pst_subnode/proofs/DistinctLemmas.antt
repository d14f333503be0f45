-- Whether no number stands twice, told one number after another.
use Rattle.std.proofs.Common.{◌≡◌, ℕ, Bool, true, false, List, [], ◌∷◌, refl, sym, ap, ◌∙◌, BTreeSet}
use Rattle.std.specs.Prelude.{cond, not, ◌&&◌, ◌||◌, nat_eq}
use Rattle.std.specs.Ordering.{nat_cmp}
use Rattle.std.specs.List.{list_any}
use Rattle.std.specs.BTreeMap.{is_at}
use Rattle.std.specs.BTreeSet.{contains}
use Rattle.std.specs.Cmp.{unsigned_tied}
use Rattle.pst_fault.proofs.GeneralLemmas.{or_true, true_false}
use Rattle.pst_subnode.specs.List.{are_distinct}

-- no number was met, and none stands twice
unfoldable pub fresh : (ℕ → Bool) → List ℕ → Bool
fresh met xs = not (list_any met xs) && are_distinct xs

none_met : (met : ℕ → Bool) (xs : List ℕ) → ((q : ℕ) → met q ≡ false) → list_any met xs ≡ false
none_met met [] none = refl
none_met met (n ∷ rest) none = rw (none n) (none_met met rest none)

-- nothing was met yet
pub fresh_start : (met : ℕ → Bool) (xs : List ℕ) → ((q : ℕ) → met q ≡ false) → fresh met xs ≡ are_distinct xs
unfolding fresh
fresh_start met xs none = rw (none_met met xs none) refl

pub fresh_end : (met : ℕ → Bool) (xs : List ℕ) → xs ≡ [] → fresh met xs ≡ true
unfolding fresh are_distinct
fresh_end met xs is = rw is refl

-- the next number was met
pub fresh_met : (met : ℕ → Bool) (xs rest : List ℕ) (n : ℕ) → xs ≡ n ∷ rest → met n ≡ true → fresh met xs ≡ false
unfolding fresh
fresh_met met xs rest n is was = rw (is, was) refl

any_of_two : (a b c d : Bool) → ((a || b) || (c || d)) ≡ ((a || c) || (b || d))
any_of_two true b c d = refl
any_of_two false true true d = refl
any_of_two false true false d = refl
any_of_two false false c d = refl

any_more : (met new : ℕ → Bool) (n : ℕ) (xs : List ℕ) → ((q : ℕ) → new q ≡ (nat_eq n q || met q)) → list_any new xs ≡ (list_any (nat_eq n) xs || list_any met xs)
any_more met new n [] is = refl
any_more met new n (q ∷ rest) is = rw (is q, any_more met new n rest is) (any_of_two (nat_eq n q) (met q) (list_any (nat_eq n) rest) (list_any met rest))

fresh_of_two : (a b c : Bool) → (not a && (not b && c)) ≡ (not (b || a) && c)
fresh_of_two true true c = refl
fresh_of_two true false c = refl
fresh_of_two false true c = refl
fresh_of_two false false c = refl

-- the next number is new
pub fresh_more : (met new : ℕ → Bool) (xs rest : List ℕ) (n : ℕ) → xs ≡ n ∷ rest → met n ≡ false → ((q : ℕ) → new q ≡ (nat_eq n q || met q)) → fresh new rest ≡ fresh met xs
unfolding fresh are_distinct
fresh_more met new xs rest n is unmet more = rw (is, unmet, any_more met new n rest more) (sym (fresh_of_two (list_any met rest) (list_any (nat_eq n) rest) (are_distinct rest)))

-- ---- what was met, in a set

in_none : (set : BTreeSet ℕ) → set.keys ≡ [] → (q : ℕ) → contains nat_cmp set q ≡ false
in_none set none q = rw none refl

-- of an empty set
pub distinct_start : (set : BTreeSet ℕ) (xs : List ℕ) → set.keys ≡ [] → fresh (contains nat_cmp set) xs ≡ are_distinct xs
distinct_start set xs none = fresh_start (contains nat_cmp set) xs (in_none set none)

one_more : (b c : Bool) → cond b true c ≡ (b || c)
one_more true c = refl
one_more false c = refl

-- one more is in the set
pub distinct_more : (set new : BTreeSet ℕ) (xs rest : List ℕ) (n : ℕ) → xs ≡ n ∷ rest → contains nat_cmp set n ≡ false → ((q : ℕ) → contains nat_cmp new q ≡ cond (is_at (nat_cmp n) q) true (contains nat_cmp set q)) → fresh (contains nat_cmp new) rest ≡ fresh (contains nat_cmp set) xs
distinct_more set new xs rest n is unmet more =
    fresh_more (contains nat_cmp set) (contains nat_cmp new) xs rest n is unmet (λ q. more q ∙ one_more (is_at (nat_cmp n) q) (contains nat_cmp set q) ∙ ap (λ b. b || contains nat_cmp set q) (unsigned_tied n q))

pub was_met : (b met : Bool) → b ≡ not met → b ≡ false → met ≡ true
was_met b true e f = refl
was_met b false e f = cc

pub was_new : (b met : Bool) → b ≡ not met → b ≡ true → met ≡ false
was_new b false e f = refl
was_new b true e f = cc

-- ---- one number that is sought

-- Of the numbers that are left: where one stands twice among them, one does among all; and where the number was met and stands among
-- them, too.
pub record IsTwiceIn (all left : List ℕ) (n : ℕ) (met : Bool) : Type 0 where
  pub below : are_distinct left ≡ false → are_distinct all ≡ false
  pub again : met ≡ true → list_any (nat_eq n) left ≡ true → are_distinct all ≡ false

pub twice_start : (all : List ℕ) (n : ℕ) → IsTwiceIn all all n false
twice_start all n = record { below = λ e. e; again = λ bad there. absurd (true_false false bad refl) }

and_false : (b : Bool) → (b && false) ≡ false
and_false true = refl
and_false false = refl

no_longer : (x : ℕ) (rest : List ℕ) → are_distinct rest ≡ false → are_distinct (x ∷ rest) ≡ false
unfolding are_distinct
no_longer x rest e = rw e (and_false (not (list_any (nat_eq x) rest)))

-- the next one is another
pub twice_other : (all left rest : List ℕ) (n x : ℕ) (met : Bool) → left ≡ x ∷ rest → IsTwiceIn all left n met → IsTwiceIn all rest n met
twice_other all left rest n x met is so_far = record {
  below = λ e. so_far.below (rw is (no_longer x rest e));
  again = λ was there. so_far.again was (rw (is, there) (or_true (nat_eq n x)));
}

-- the next one is the number
pub twice_met : (all left rest : List ℕ) (n x : ℕ) (met : Bool) → left ≡ x ∷ rest → x ≡ n → IsTwiceIn all left n met → IsTwiceIn all rest n true
unfolding are_distinct
twice_met all left rest n x met is same so_far = record {
  below = λ e. so_far.below (rw is (no_longer x rest e));
  again = λ was there. so_far.below (rw (is, same, there) refl);
}
