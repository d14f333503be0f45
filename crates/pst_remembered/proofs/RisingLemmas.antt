-- A run of keys that rise, and other keys.
use Rattle.std.proofs.Common.{◌≡◌, ℕ, zero, suc, ◌-◌, ◌<◌, ◌≤◌, List, [], ◌∷◌, ◌++◌, length, get_or, take, drop, arith, Bool, true, false, cond, Option, Some, None, Result, Ok, Err, refl, sym, ap, ◌∙◌, ◌⊎◌, inl, inr, add-one}
use Rattle.std.specs.Prelude.{◌||◌, slice_get, is_ok}
use Rattle.std.specs.Cmp.{IsTotalOrder}
use Rattle.std.specs.List.{AllByRecursion, insert, list_any}
use Rattle.std.specs.List.Sorted.{IsStrictlySortedBy, IsSortedBy, IsBinarySearchResult, IsSearchInRange}
use Rattle.std.specs.Ordering.{ordering_reverse, is_eq, is_gt, is_lt, match_ordering}
use Rattle.std.specs.declared.cmp.Ordering.{Ordering}
use Rattle.std.specs.declared.cmp.Ordering.TheVariants.{Less, Equal, Greater}
use Rattle.std.specs.BTreeMap.{is_at}
use Rattle.std.specs.BTreeSet.{insert_key}
use Rattle.std.proofs.lemmas.Bool.{cases_lt}
use Rattle.std.proofs.lemmas.List.{append_assoc, take-append-drop}
use Rattle.std.proofs.lemmas.List.Folds.{list_any-append, list_any_at, list_any_none}
use Rattle.std.proofs.lemmas.List.Sorted.{searchable_from_sorted}
use Rattle.std.proofs.lemmas.Option.{slice_get_within, get_or_from_slice_get}
use Rattle.std.specs.Option.{option_to_list}
use Rattle.pst_fault.proofs.GeneralLemmas.{or_true, or_grouped}
use Rattle.pst_remembered.specs.Rising.{last_of, TellsApart, with_run, is_above, raised, AreUpTo, IsRising}
use Rattle.pst_remembered.proofs.InsertLemmas.{or_twice, or_turned, all_inserted, inserted_sorted, same_by_any}

or_none : (b : Bool) → (b || (false || false)) ≡ b
or_none true = refl
or_none false = refl

insert_end : {K : Type 0} (run : List K) (k : K) → insert run (length run) k ≡ run ++ k ∷ []
insert_end [] k = refl
insert_end (x ∷ run) k = ap (λ xs. x ∷ xs) (insert_end run k)

insert_before_last : {K : Type 0} (before : List K) (last k : K) → insert (before ++ last ∷ []) (length before) k ≡ before ++ k ∷ last ∷ []
insert_before_last [] last k = refl
insert_before_last (x ∷ before) last k = ap (λ xs. x ∷ xs) (insert_before_last before last k)

all_pushed : {K : Type 0} (P : K → Type 0) (xs : List K) (k : K) → AllByRecursion P xs → P k → AllByRecursion P (xs ++ k ∷ [])
all_pushed P [] k a p = (p, tt)
all_pushed P (x ∷ xs) k a p = (a.0, all_pushed P xs k a.1 p)

all_popped : {K : Type 0} (P : K → Type 0) (xs : List K) (k : K) → AllByRecursion P (xs ++ k ∷ []) → AllByRecursion P xs
all_popped P [] k a = tt
all_popped P (x ∷ xs) k a = (a.0, all_popped P xs k a.1)

the_last : {K : Type 0} (P : K → Type 0) (xs : List K) (k : K) → AllByRecursion P (xs ++ k ∷ []) → P k
the_last P [] k a = a.0
the_last P (x ∷ xs) k a = the_last P xs k a.1

-- what `pop` leaves of a run
pub popped : {K : Type 0} (run left : List K) (count : ℕ) (given : Option K) (last : K) → length run ≡ count → run ≡ left ++ option_to_list given → ((d : K) → 0 < count → given ≡ Some (get_or run (count - 1) d)) → last_of run ≡ Some last → run ≡ left ++ last ∷ []
popped run left count given last many parts value is =
    let is_last : slice_get run (count - 1) ≡ Some last = rw (← many) is in
    let within = slice_get_within run (count - 1) last is_last in
    let there : given ≡ Some last = value last (omega (arith, within, many)) ∙ ap Some (get_or_from_slice_get run (count - 1) last last is_last) in
    parts ∙ ap (λ o. left ++ option_to_list o) there

all_weaker : {K : Type 0} (P Q : K → Type 0) → ((x : K) → P x → Q x) → (xs : List K) → AllByRecursion P xs → AllByRecursion Q xs
all_weaker P Q f [] a = tt
all_weaker P Q f (x ∷ xs) a = (f x a.0, all_weaker P Q f xs a.1)

any_placed : {K : Type 0} (test : K → Bool) (run : List K) (i : ℕ) (k : K) → list_any test (insert run i k) ≡ (test k || list_any test run)
any_placed test run i k =
    list_any-append test (take i run) (k ∷ drop i run)
    ∙ or_turned (list_any test (take i run)) (test k) (list_any test (drop i run))
    ∙ ap (λ b. test k || b) (sym (list_any-append test (take i run) (drop i run)) ∙ ap (list_any test) (take-append-drop i run))

module _ {K : Type 0} (cmp : K → K → Ordering) (total : IsTotalOrder cmp) where
  -- ---- the order of keys

  turned : (x y : K) (r : Ordering) → cmp x y ≡ r → cmp y x ≡ ordering_reverse r
  turned x y r e = total.antisymm y x ∙ ap ordering_reverse e

  itself_not_above : (x : K) → is_gt (cmp x x) ≡ false
  itself_not_above x = by (cmp x x) (total.antisymm x x)
    where
      by : (r : Ordering) → r ≡ ordering_reverse r → is_gt r ≡ false
      by Less e = refl
      by Equal e = refl
      by Greater e = absurd cc

  below_by_last : (x y z : K) → is_gt (cmp x y) ≡ false → cmp y z ≡ Less → cmp x z ≡ Less
  below_by_last x y z at_most less = by (cmp x y) refl at_most
    where
      by : (r : Ordering) → cmp x y ≡ r → is_gt r ≡ false → cmp x z ≡ Less
      by Less e h = total.trans x y z e less
      by Equal e h = total.congr x y z e ∙ less
      by Greater e h = absurd cc

  below_is_at_most : (x y z : K) → cmp x y ≡ Less → is_gt (cmp y z) ≡ false → is_gt (cmp x z) ≡ false
  below_is_at_most x y z less at_most = by (cmp y z) refl at_most
    where
      by : (r : Ordering) → cmp y z ≡ r → is_gt r ≡ false → is_gt (cmp x z) ≡ false
      by Less e h = ap is_gt (total.trans x y z less e)
      by Equal e h = ap is_gt (turned z x Greater (sym (total.congr y z x e) ∙ turned x y Less less))
      by Greater e h = absurd cc

  is_greater : (x y : K) → is_gt (cmp x y) ≡ true → cmp y x ≡ Less
  is_greater x y above = by (cmp x y) refl above
    where
      by : (r : Ordering) → cmp x y ≡ r → is_gt r ≡ true → cmp y x ≡ Less
      by Less e h = absurd cc
      by Equal e h = absurd cc
      by Greater e h = turned x y Greater e

  -- ---- a key above the last one is above all

  below_above : (last : Option K) (ks : List K) (q : K) → AreUpTo cmp last ks → is_above cmp last q ≡ true → AllByRecursion (λ k. cmp k q ≡ Less) ks
  below_above None ks q none above = rw none tt
  below_above (Some last) ks q up_to above = all_weaker (λ k. is_gt (cmp k last) ≡ false) (λ k. cmp k q ≡ Less) (λ k at_most. below_by_last k last q at_most (is_greater q last above)) ks up_to

  none_at : (ks : List K) (q : K) → AllByRecursion (λ k. cmp k q ≡ Less) ks → list_any (is_at (cmp q)) ks ≡ false
  none_at [] q a = refl
  none_at (x ∷ xs) q a = rw (turned x q Less a.0, none_at xs q a.1) refl

  up_to_next : (last : Option K) (x y : K) (ys : List K) → cmp x y ≡ Less → AreUpTo cmp last (y ∷ ys) → AreUpTo cmp last (x ∷ y ∷ ys)
  up_to_next None x y ys less none = absurd cc
  up_to_next (Some last) x y ys less up_to = (below_is_at_most x y last less up_to.0, up_to)

  last_next : (x y : K) (ys : List K) → last_of (x ∷ y ∷ ys) ≡ last_of (y ∷ ys)
  last_next x y ys =
      let e : suc (suc (length ys)) - 1 ≡ suc (length ys) = omega arith in
      let f : suc (length ys) - 1 ≡ length ys = omega arith in
      rw (e, f) refl

  -- the keys of a run are up to its last one
  pub run_up_to : (run : List K) → IsStrictlySortedBy cmp run → AreUpTo cmp (last_of run) run
  unfolding IsStrictlySortedBy
  run_up_to [] s = refl
  run_up_to (x ∷ []) s = (itself_not_above x, tt)
  run_up_to (x ∷ y ∷ ys) s = rw (last_next x y ys) (up_to_next (last_of (y ∷ ys)) x y ys s.0.0 (run_up_to (y ∷ ys) s.1))

  -- ---- the keys of both

  same_at : (q x y : K) → cmp x y ≡ Equal → is_at (cmp q) x ≡ is_at (cmp q) y
  same_at q x y e = ap is_eq (total.antisymm q x ∙ ap ordering_reverse (total.congr x y q e) ∙ sym (total.antisymm q y))

  inserted_at : (q : K) (ks : List K) (k : K) → list_any (is_at (cmp q)) (insert_key cmp ks k) ≡ (is_at (cmp q) k || list_any (is_at (cmp q)) ks)
  inserted_at q [] k = refl
  inserted_at q (x ∷ xs) k = by (cmp k x) refl (inserted_at q xs k)
    where
      by : (r : Ordering) → cmp k x ≡ r → list_any (is_at (cmp q)) (insert_key cmp xs k) ≡ (is_at (cmp q) k || list_any (is_at (cmp q)) xs)
          → list_any (is_at (cmp q)) (match_ordering r (k ∷ x ∷ xs) (x ∷ xs) (x ∷ insert_key cmp xs k)) ≡ (is_at (cmp q) k || (is_at (cmp q) x || list_any (is_at (cmp q)) xs))
      by Less e h = refl
      by Equal e h = rw (same_at q k x e) (or_twice (is_at (cmp q) x) (list_any (is_at (cmp q)) xs))
      by Greater e h = rw h (or_turned (is_at (cmp q) x) (is_at (cmp q) k) (list_any (is_at (cmp q)) xs))

  pub any_with_run : (q : K) (run ks : List K) → list_any (is_at (cmp q)) (with_run cmp run ks) ≡ (list_any (is_at (cmp q)) run || list_any (is_at (cmp q)) ks)
  any_with_run q [] ks = refl
  any_with_run q (x ∷ run) ks =
      inserted_at q (with_run cmp run ks) x
      ∙ ap (λ b. is_at (cmp q) x || b) (any_with_run q run ks)
      ∙ or_grouped (is_at (cmp q) x) (list_any (is_at (cmp q)) run) (list_any (is_at (cmp q)) ks)

  -- one of the run is there
  pub found_in_run : (run ks : List K) (q : K) → list_any (is_at (cmp q)) run ≡ true → list_any (is_at (cmp q)) (with_run cmp run ks) ≡ true
  found_in_run run ks q is = any_with_run q run ks ∙ ap (λ b. b || list_any (is_at (cmp q)) ks) is

  -- another one is, where it is among the others
  pub not_in_run : (run ks : List K) (q : K) → list_any (is_at (cmp q)) run ≡ false → list_any (is_at (cmp q)) (with_run cmp run ks) ≡ list_any (is_at (cmp q)) ks
  not_in_run run ks q is = any_with_run q run ks ∙ ap (λ b. b || list_any (is_at (cmp q)) ks) is

  -- they are in order
  pub sorted_with_run : (run ks : List K) → IsStrictlySortedBy cmp ks → IsStrictlySortedBy cmp (with_run cmp run ks)
  sorted_with_run [] ks s = s
  sorted_with_run (x ∷ run) ks s = inserted_sorted cmp total (with_run cmp run ks) x (sorted_with_run run ks s)

  -- one above all of them is none of them
  pub none_above : (bound : Option K) (ks : List K) (q : K) → AreUpTo cmp bound ks → is_above cmp bound q ≡ true → list_any (is_at (cmp q)) ks ≡ false
  none_above bound ks q up_to above = none_at ks q (below_above bound ks q up_to above)

  sorted_pushed : (run : List K) (k : K) → IsStrictlySortedBy cmp run → AllByRecursion (λ x. cmp x k ≡ Less) run → IsStrictlySortedBy cmp (run ++ k ∷ [])
  unfolding IsStrictlySortedBy
  sorted_pushed [] k s a = (tt, tt)
  sorted_pushed (x ∷ run) k s a = (all_pushed (λ y. cmp x y ≡ Less) run k s.0 a.0, sorted_pushed run k s.1 a.1)

  pub sorted_popped : (run : List K) (k : K) → IsStrictlySortedBy cmp (run ++ k ∷ []) → IsStrictlySortedBy cmp run
  unfolding IsStrictlySortedBy
  sorted_popped [] k s = tt
  sorted_popped (x ∷ run) k s = (all_popped (λ y. cmp x y ≡ Less) run k s.0, sorted_popped run k s.1)

  below_last : (before : List K) (last : K) → IsStrictlySortedBy cmp (before ++ last ∷ []) → AllByRecursion (λ x. cmp x last ≡ Less) before
  unfolding IsStrictlySortedBy
  below_last [] last s = tt
  below_last (x ∷ before) last s = (the_last (λ y. cmp x y ≡ Less) before last s.0, below_last before last s.1)

  below_more : (before : List K) (last k : K) → IsStrictlySortedBy cmp (before ++ last ∷ []) → cmp k last ≡ Greater → AllByRecursion (λ x. cmp x k ≡ Less) before
  below_more before last k s e = all_weaker (λ x. cmp x last ≡ Less) (λ x. cmp x k ≡ Less) (λ x less. total.trans x last k less (turned k last Greater e)) before (below_last before last s)

  -- ---- what the last one of a run tells

  pub any_below : (before : List K) (last q : K) → cmp q last ≡ Less → list_any (is_at (cmp q)) (before ++ last ∷ []) ≡ list_any (is_at (cmp q)) before
  any_below before last q e = list_any-append (is_at (cmp q)) before (last ∷ []) ∙ rw e (or_none (list_any (is_at (cmp q)) before))

  pub any_last : (before : List K) (last q : K) → cmp q last ≡ Equal → list_any (is_at (cmp q)) (before ++ last ∷ []) ≡ true
  any_last before last q e = list_any-append (is_at (cmp q)) before (last ∷ []) ∙ rw e (or_true (list_any (is_at (cmp q)) before))

  pub any_above : (before : List K) (last q : K) → IsStrictlySortedBy cmp (before ++ last ∷ []) → cmp q last ≡ Greater → list_any (is_at (cmp q)) (before ++ last ∷ []) ≡ false
  any_above before last q s e = list_any-append (is_at (cmp q)) before (last ∷ []) ∙ rw (e, none_at before q (below_more before last q s e)) refl

  -- ---- where a key belongs at the end of a run

  pub sorted_alone : (run : List K) (k : K) → length run ≡ 0 → IsStrictlySortedBy cmp (insert run 0 k)
  unfolding IsStrictlySortedBy
  sorted_alone [] k none = (tt, tt)
  sorted_alone (x ∷ run) k none = absurd (omega (arith, none))

  pub sorted_end : (before : List K) (last k : K) → IsStrictlySortedBy cmp (before ++ last ∷ []) → cmp k last ≡ Greater → IsStrictlySortedBy cmp (insert (before ++ last ∷ []) (length (before ++ last ∷ [])) k)
  sorted_end before last k s e = rw (insert_end (before ++ last ∷ []) k) (sorted_pushed (before ++ last ∷ []) k s (all_pushed (λ x. cmp x k ≡ Less) before last (below_more before last k s e) (turned k last Greater e)))

  pub sorted_before_last : (before : List K) (last k : K) → IsStrictlySortedBy cmp (before ++ last ∷ []) → cmp k last ≡ Less → is_above cmp (last_of before) k ≡ true → IsStrictlySortedBy cmp (insert (before ++ last ∷ []) (length before) k)
  sorted_before_last before last k s e above =
      let s' = sorted_popped before last s in
      let below = below_above (last_of before) before k (run_up_to before s') above in
      rw (insert_before_last before last k, ← append_assoc before (k ∷ []) (last ∷ [])) (sorted_pushed (before ++ k ∷ []) last (sorted_pushed before k s' below) (all_pushed (λ x. cmp x last ≡ Less) before k (below_last before last s) e))

  -- ---- a binary search in the run

  sorted_by : (run : List K) → IsStrictlySortedBy cmp run → IsSortedBy (λ x y. is_lt (cmp x y)) run
  unfolding IsStrictlySortedBy
  sorted_by [] s k d low high = absurd (omega (arith, high))
  sorted_by (x ∷ []) s k d low high = absurd (omega (arith, high))
  sorted_by (x ∷ y ∷ ys) s zero d low high = ap is_lt (turned x y Less s.0.0)
  sorted_by (x ∷ y ∷ ys) s (suc k) d low high = rw add-one (let h = sorted_by (y ∷ ys) s.1 k d (omega arith) (omega (arith, high)) in rw add-one at h)

  pub searched_for : (run : List K) (q : K) (r : Result ℕ ℕ) → IsStrictlySortedBy cmp run → IsSearchInRange r (length run) → IsBinarySearchResult (λ y. cmp y q) run r → is_ok r ≡ list_any (is_at (cmp q)) run
  searched_for run q (Ok i) s bound found = sym (list_any_at (is_at (cmp q)) run i q bound (ap is_eq (turned (get_or run i q) q Equal (found q))))
  searched_for run q (Err i) s bound absent =
      let parts = absent (searchable_from_sorted total (λ x. x) run q (sorted_by run s)) in
      sym (list_any_none (is_at (cmp q)) run (λ k d lt. by k d lt parts.0 parts.1 (cases_lt k i)))
    where
      by : (k : ℕ) (d : K) → k < length run → ((j : ℕ) (e : K) → 0 ≤ j → j < i → cmp (get_or run j e) q ≡ Less) → ((j : ℕ) (e : K) → i ≤ j → j < length run → cmp (get_or run j e) q ≡ Greater) → (k < i) ⊎ (i ≤ k) → is_at (cmp q) (get_or run k d) ≡ false
      by k d lt low high (inl below) = ap is_eq (turned (get_or run k d) q Less (low k d (omega arith) below))
      by k d lt low high (inr above) = ap is_eq (turned (get_or run k d) q Greater (high k d above lt))

  -- ---- one more key

  module _ (exact : TellsApart cmp) where
    -- in the run
    pub with_placed : (run ks : List K) (i : ℕ) (k : K) → IsStrictlySortedBy cmp ks → with_run cmp (insert run i k) ks ≡ insert_key cmp (with_run cmp run ks) k
    with_placed run ks i k s =
        same_by_any cmp total exact _ _ (sorted_with_run (insert run i k) ks s) (inserted_sorted cmp total (with_run cmp run ks) k (sorted_with_run run ks s)) (λ q.
        let test : K → Bool = is_at (cmp q) in
        any_with_run q (insert run i k) ks
        ∙ ap (λ b. b || list_any test ks) (any_placed test run i k)
        ∙ sym (or_grouped (test k) (list_any test run) (list_any test ks))
        ∙ ap (λ b. test k || b) (sym (any_with_run q run ks))
        ∙ sym (inserted_at q (with_run cmp run ks) k))

    -- among the others
    pub with_inserted : (run ks : List K) (k : K) → IsStrictlySortedBy cmp ks → with_run cmp run (insert_key cmp ks k) ≡ insert_key cmp (with_run cmp run ks) k
    with_inserted run ks k s =
        same_by_any cmp total exact _ _ (sorted_with_run run (insert_key cmp ks k) (inserted_sorted cmp total ks k s)) (inserted_sorted cmp total (with_run cmp run ks) k (sorted_with_run run ks s)) (λ q.
        let test : K → Bool = is_at (cmp q) in
        any_with_run q run (insert_key cmp ks k)
        ∙ ap (λ b. list_any test run || b) (inserted_at q ks k)
        ∙ or_turned (list_any test run) (test k) (list_any test ks)
        ∙ ap (λ b. test k || b) (sym (any_with_run q run ks))
        ∙ sym (inserted_at q (with_run cmp run ks) k))

    -- the last one of the run moves to the others
    pub with_moved : (run ks : List K) (k : K) → IsStrictlySortedBy cmp ks → with_run cmp run (insert_key cmp ks k) ≡ with_run cmp (run ++ k ∷ []) ks
    with_moved run ks k s = with_inserted run ks k s ∙ sym (with_placed run ks (length run) k s) ∙ ap (λ r. with_run cmp r ks) (insert_end run k)

  -- ---- what is known of the two stays

  up_to_raised : (top : Option K) (ks : List K) (k : K) → AreUpTo cmp top ks → AreUpTo cmp (raised cmp top k) (insert_key cmp ks k)
  up_to_raised None ks k none = rw none (itself_not_above k, tt)
  up_to_raised (Some top) ks k up_to = by (is_gt (cmp k top)) refl
    where
      by : (b : Bool) → is_gt (cmp k top) ≡ b → AreUpTo cmp (cond b (Some k) (Some top)) (insert_key cmp ks k)
      by true e = all_inserted cmp (λ x. is_gt (cmp x k) ≡ false) ks k (itself_not_above k) (all_weaker (λ x. cmp x k ≡ Less) (λ x. is_gt (cmp x k) ≡ false) (λ x less. ap is_gt less) ks (below_above (Some top) ks k up_to e))
      by false e = all_inserted cmp (λ x. is_gt (cmp x top) ≡ false) ks k e up_to

  pub rising_placed : (run ks : List K) (top : Option K) (i : ℕ) (k : K) → IsRising cmp run ks top → IsStrictlySortedBy cmp (insert run i k) → IsRising cmp (insert run i k) ks top
  rising_placed run ks top i k is s = record { rises = s; ordered = is.ordered; up_to = is.up_to }

  pub rising_inserted : (run ks : List K) (top : Option K) (k : K) → IsRising cmp run ks top → IsRising cmp run (insert_key cmp ks k) (raised cmp top k)
  rising_inserted run ks top k is = record {
    rises = is.rises;
    ordered = inserted_sorted cmp total ks k is.ordered;
    up_to = up_to_raised top ks k is.up_to;
  }

  pub rising_moved : (run ks : List K) (top : Option K) (k : K) → IsRising cmp (run ++ k ∷ []) ks top → IsRising cmp run (insert_key cmp ks k) (raised cmp top k)
  rising_moved run ks top k is = rising_inserted run ks top k (record { rises = sorted_popped run k is.rises; ordered = is.ordered; up_to = is.up_to })
