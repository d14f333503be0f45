-- Keys, and those of nodes without subnodes among them.
use Rattle.std.proofs.Common.{◌≡◌, ℕ, ◌<◌, arith, List, [], ◌∷◌, Bool, false, refl, sym, ap, ◌∙◌}
use Rattle.std.specs.Prelude.{◌||◌}
use Rattle.std.specs.List.{list_any}
use Rattle.std.specs.List.Sorted.{IsStrictlySortedBy}
use Rattle.std.specs.Ordering.{nat_cmp, ordering_then, is_eq}
use Rattle.std.specs.declared.cmp.Ordering.{Ordering}
use Rattle.std.specs.declared.cmp.Ordering.TheVariants.{Less, Equal, Greater}
use Rattle.std.specs.BTreeMap.{is_at}
use Rattle.std.specs.BTreeSet.{insert_key}
use Rattle.std.proofs.lemmas.Map.Lookups.{exact_unsigned}
use Rattle.pst_fault.proofs.GeneralLemmas.{or_grouped}
use Rattle.pst_remembered.specs.Keys.{Key, pair_cmp, key_cmp, alone_key, with_alone}
use Rattle.pst_remembered.proofs.InsertLemmas.{or_turned, inserted_any, inserted_sorted, same_by_any}
use Rattle.pst_remembered.proofs.KeyOrderLemmas.{pairs_exact, keys_exact, keys_total}

-- a test passes at one of them, where it does at one of either kind
pub any_with : (test : Key → Bool) (xs : List (ℕ × ℕ)) (ks : List Key) → list_any test (with_alone xs ks) ≡ (list_any (λ x. test (alone_key x)) xs || list_any test ks)
any_with test [] ks = refl
any_with test (x ∷ rest) ks =
    inserted_any key_cmp keys_exact test (with_alone rest ks) (alone_key x)
    ∙ ap (λ b. test (alone_key x) || b) (any_with test rest ks)
    ∙ or_grouped (test (alone_key x)) (list_any (λ y. test (alone_key y)) rest) (list_any test ks)

-- they are in order
pub sorted_with : (xs : List (ℕ × ℕ)) (ks : List Key) → IsStrictlySortedBy key_cmp ks → IsStrictlySortedBy key_cmp (with_alone xs ks)
sorted_with [] ks s = s
sorted_with (x ∷ rest) ks s = inserted_sorted key_cmp keys_total (with_alone rest ks) (alone_key x) (sorted_with rest ks s)

-- ---- which of them is asked for

then_equal : (r s : Ordering) → ordering_then (ordering_then r Equal) s ≡ ordering_then r s
then_equal Less s = refl
then_equal Equal s = refl
then_equal Greater s = refl

-- one without subnodes is among those without
pub alone_any : (xs : List (ℕ × ℕ)) (block number : ℕ) → list_any (λ x. is_at (key_cmp ((block, 0), number)) (alone_key x)) xs ≡ list_any (is_at (pair_cmp (block, number))) xs
alone_any [] block number = refl
alone_any (x ∷ rest) block number = rw (then_equal (nat_cmp block x.0) (nat_cmp number x.1), alone_any rest block number) refl

then_not : (r s t : Ordering) → is_eq s ≡ false → is_eq (ordering_then (ordering_then r s) t) ≡ false
then_not Less s t e = refl
then_not Equal Less t e = refl
then_not Equal Equal t e = absurd cc
then_not Equal Greater t e = refl
then_not Greater s t e = refl

-- and no other one is
pub other_any : (xs : List (ℕ × ℕ)) (q : Key) → is_eq (nat_cmp q.0.1 0) ≡ false → list_any (λ x. is_at (key_cmp q) (alone_key x)) xs ≡ false
other_any [] q e = refl
other_any (x ∷ rest) q e = rw (then_not (nat_cmp q.0.0 x.0) (nat_cmp q.0.1 0) (nat_cmp q.1 x.1) e, other_any rest q e) refl

-- one without subnodes is there, where it is among those without or among the others
pub held_alone : (xs : List (ℕ × ℕ)) (ks : List Key) (block number : ℕ) → list_any (is_at (key_cmp ((block, 0), number))) (with_alone xs ks) ≡ (list_any (is_at (pair_cmp (block, number))) xs || list_any (is_at (key_cmp ((block, 0), number))) ks)
held_alone xs ks block number = any_with (is_at (key_cmp ((block, 0), number))) xs ks ∙ ap (λ b. b || list_any (is_at (key_cmp ((block, 0), number))) ks) (alone_any xs block number)

not_equal : (n : ℕ) → 0 < n → is_eq (nat_cmp n 0) ≡ false
not_equal n more = by (nat_cmp n 0) refl
  where
    by : (r : Ordering) → nat_cmp n 0 ≡ r → is_eq r ≡ false
    by Less e = refl
    by Equal e = absurd (omega (arith, more, exact_unsigned n 0 e))
    by Greater e = refl

-- and another one, where it is among the others
pub held_other : (xs : List (ℕ × ℕ)) (ks : List Key) (q : Key) → 0 < q.0.1 → list_any (is_at (key_cmp q)) (with_alone xs ks) ≡ list_any (is_at (key_cmp q)) ks
held_other xs ks q e = any_with (is_at (key_cmp q)) xs ks ∙ ap (λ b. b || list_any (is_at (key_cmp q)) ks) (other_any xs q (not_equal q.0.1 e))

-- ---- one more

pub alone_put : (xs : List (ℕ × ℕ)) (ks : List Key) (x : ℕ × ℕ) → IsStrictlySortedBy key_cmp ks → with_alone (insert_key pair_cmp xs x) ks ≡ insert_key key_cmp (with_alone xs ks) (alone_key x)
alone_put xs ks x s =
    same_by_any key_cmp keys_total keys_exact _ _ (sorted_with (insert_key pair_cmp xs x) ks s) (inserted_sorted key_cmp keys_total (with_alone xs ks) (alone_key x) (sorted_with xs ks s)) (λ q.
    let test : Key → Bool = is_at (key_cmp q) in
    any_with test (insert_key pair_cmp xs x) ks
    ∙ ap (λ b. b || list_any test ks) (inserted_any pair_cmp pairs_exact (λ y. test (alone_key y)) xs x)
    ∙ sym (or_grouped (test (alone_key x)) (list_any (λ y. test (alone_key y)) xs) (list_any test ks))
    ∙ ap (λ b. test (alone_key x) || b) (sym (any_with test xs ks))
    ∙ sym (inserted_any key_cmp keys_exact test (with_alone xs ks) (alone_key x)))

pub other_put : (xs : List (ℕ × ℕ)) (ks : List Key) (k : Key) → IsStrictlySortedBy key_cmp ks → with_alone xs (insert_key key_cmp ks k) ≡ insert_key key_cmp (with_alone xs ks) k
other_put xs ks k s =
    same_by_any key_cmp keys_total keys_exact _ _ (sorted_with xs (insert_key key_cmp ks k) (inserted_sorted key_cmp keys_total ks k s)) (inserted_sorted key_cmp keys_total (with_alone xs ks) k (sorted_with xs ks s)) (λ q.
    let test : Key → Bool = is_at (key_cmp q) in
    any_with test xs (insert_key key_cmp ks k)
    ∙ ap (λ b. list_any (λ y. test (alone_key y)) xs || b) (inserted_any key_cmp keys_exact test ks k)
    ∙ or_turned (list_any (λ y. test (alone_key y)) xs) (test k) (list_any test ks)
    ∙ ap (λ b. test k || b) (sym (any_with test xs ks))
    ∙ sym (inserted_any key_cmp keys_exact test (with_alone xs ks) k))
