-- A key that is put into a list at its place in the order.
use Rattle.std.proofs.Common.{◌≡◌, ◌+◌, List, [], ◌∷◌, length, arith, Bool, true, false, BTreeSet, refl, ap, ◌∙◌}
use Rattle.std.specs.Prelude.{◌||◌}
use Rattle.std.specs.Cmp.{IsTotalOrder}
use Rattle.std.specs.List.{AllByRecursion, list_any}
use Rattle.std.specs.List.Sorted.{IsStrictlySortedBy}
use Rattle.std.specs.Ordering.{match_ordering, ordering_reverse, is_eq}
use Rattle.std.specs.declared.cmp.Ordering.{Ordering}
use Rattle.std.specs.declared.cmp.Ordering.TheVariants.{Less, Equal, Greater}
use Rattle.std.specs.BTreeMap.{is_at}
use Rattle.std.specs.BTreeSet.{insert_key}
use Rattle.std.proofs.lemmas.Map.Lookups.{CmpEqualImpliesEq, btree_set_from_contains}

pub or_twice : (a b : Bool) → (a || b) ≡ (a || (a || b))
or_twice true b = refl
or_twice false b = refl

pub or_turned : (a b c : Bool) → (a || (b || c)) ≡ (b || (a || c))
or_turned true true c = refl
or_turned true false c = refl
or_turned false b c = refl

abbrev btree_set : {K : Type 0} → List K → BTreeSet K
btree_set ks = record { keys = ks }

module _ {K : Type 0} (cmp : K → K → Ordering) where
  -- a test passes at one of the keys then, where it does at the new one or at one of the others
  pub inserted_any : CmpEqualImpliesEq cmp → (test : K → Bool) (ks : List K) (k : K) → list_any test (insert_key cmp ks k) ≡ (test k || list_any test ks)
  inserted_any exact test [] k = refl
  inserted_any exact test (x ∷ xs) k = by (cmp k x) refl (inserted_any exact test xs k)
    where
      by : (r : Ordering) → cmp k x ≡ r → list_any test (insert_key cmp xs k) ≡ (test k || list_any test xs)
          → list_any test (match_ordering r (k ∷ x ∷ xs) (x ∷ xs) (x ∷ insert_key cmp xs k)) ≡ (test k || (test x || list_any test xs))
      by Less e h = refl
      by Equal e h = rw (exact k x e) (or_twice (test x) (list_any test xs))
      by Greater e h = rw h (or_turned (test x) (test k) (list_any test xs))

  -- a key that is not there makes it longer by one
  pub inserted_length : (ks : List K) (k : K) → list_any (is_at (cmp k)) ks ≡ false → length (insert_key cmp ks k) ≡ length ks + 1
  inserted_length [] k absent = refl
  inserted_length (x ∷ xs) k absent = by (cmp k x) absent (inserted_length xs k)
    where
      by : (r : Ordering) → (is_eq r || list_any (is_at (cmp k)) xs) ≡ false → (list_any (is_at (cmp k)) xs ≡ false → length (insert_key cmp xs k) ≡ length xs + 1)
          → length (match_ordering r (k ∷ x ∷ xs) (x ∷ xs) (x ∷ insert_key cmp xs k)) ≡ length (x ∷ xs) + 1
      by Less e later = omega arith
      by Equal e later = absurd cc
      by Greater e later = omega (arith, later e)

  pub all_inserted : (P : K → Type 0) (ks : List K) (k : K) → P k → AllByRecursion P ks → AllByRecursion P (insert_key cmp ks k)
  all_inserted P [] k p a = (p, tt)
  all_inserted P (x ∷ xs) k p a = by (cmp k x) (all_inserted P xs k p a.1)
    where
      by : (r : Ordering) → AllByRecursion P (insert_key cmp xs k) → AllByRecursion P (match_ordering r (k ∷ x ∷ xs) (x ∷ xs) (x ∷ insert_key cmp xs k))
      by Less h = (p, a)
      by Equal h = a
      by Greater h = (a.0, h)

  all_below : IsTotalOrder cmp → (k x : K) (ks : List K) → cmp k x ≡ Less → AllByRecursion (λ y. cmp x y ≡ Less) ks → AllByRecursion (λ y. cmp k y ≡ Less) ks
  all_below total k x [] e a = tt
  all_below total k x (y ∷ ys) e a = (total.trans k x y e a.0, all_below total k x ys e a.1)

  -- and the order stays
  pub inserted_sorted : IsTotalOrder cmp → (ks : List K) (k : K) → IsStrictlySortedBy cmp ks → IsStrictlySortedBy cmp (insert_key cmp ks k)
  unfolding IsStrictlySortedBy
  inserted_sorted total [] k s = (tt, tt)
  inserted_sorted total (x ∷ xs) k s = by (cmp k x) refl (inserted_sorted total xs k s.1)
    where
      by : (r : Ordering) → cmp k x ≡ r → IsStrictlySortedBy cmp (insert_key cmp xs k) → IsStrictlySortedBy cmp (match_ordering r (k ∷ x ∷ xs) (x ∷ xs) (x ∷ insert_key cmp xs k))
      by Less e h = ((e, all_below total k x xs e s.0), s)
      by Equal e h = s
      by Greater e h = (all_inserted (λ y. cmp x y ≡ Less) xs k (total.antisymm x k ∙ ap ordering_reverse e) s.0, h)

  -- lists in order are the same, where the same keys are in them
  pub same_by_any : IsTotalOrder cmp → CmpEqualImpliesEq cmp → (ks ls : List K) → IsStrictlySortedBy cmp ks → IsStrictlySortedBy cmp ls → ((q : K) → list_any (is_at (cmp q)) ks ≡ list_any (is_at (cmp q)) ls) → ks ≡ ls
  same_by_any total exact ks ls s t same = btree_set_from_contains total (btree_set ks) (btree_set ls) s t same exact
