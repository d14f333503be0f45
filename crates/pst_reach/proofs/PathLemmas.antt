-- Folders that are reached, found by halving; their paths; and the folders that are not among them.
use Rattle.std.proofs.Common.{◌≡◌, ℕ, zero, suc, ◌+◌, ◌<◌, ◌≤◌, Bool, true, false, cond, eqb, List, [], ◌∷◌, ◌++◌, length, get_or, map, reverse, Some, None, Result, Ok, Err, IfOk, OnErr, inl, inr, refl, sym, ap, ◌∙◌, arith}
use Rattle.std.specs.List.{filter}
use Rattle.std.specs.List.Sorted.{IsSearchInRange, IsBinarySearchResult, IsNonDecreasingBy, IsPartitionPoint}
use Rattle.std.specs.Ordering.{nat_cmp, ordering_index}
use Rattle.std.specs.declared.cmp.Ordering.TheVariants.{Less, Greater}
use Rattle.std.proofs.lemmas.Cmp.{ranked}
use Rattle.std.proofs.lemmas.Bool.{eqb-true}
use Rattle.std.proofs.lemmas.Bool.Decides.{nat_tests}
use Rattle.std.proofs.lemmas.List.{reverse-append}
use Rattle.pst_ndb.specs.Roots.{Roots}
use Rattle.pst_btree.specs.Order.{Rises}
use Rattle.pst_btree.specs.Entries.{first_with}
use Rattle.pst_btree.proofs.EntryLemmas.{at_least, contains_with}
use Rattle.pst_reach.specs.declared.reached.Reach.{Reach}
use Rattle.pst_reach.specs.Path.{reach_nid, reach_in, IsPlaceIn, parent_in, path_above, path_to}
use Rattle.pst_reach.proofs.ListLemmas.{at_most_or_more}
use Rattle.pst_reach.proofs.StoreLemmas.{tops}
use Rattle.pst_reach.proofs.SearchLemmas.{append_assoc}

-- ---- found by halving

-- the identifiers rise from place to place
rise_to : (low : ℕ) (xs : List Reach) (i j : ℕ) (d : Reach) → Rises low None (map reach_nid xs) → i ≤ j → j < length xs → reach_nid (get_or xs i d) ≤ reach_nid (get_or xs j d)
rise_to low [] i j d r le lt = absurd (omega (arith, lt))
rise_to low (x ∷ xs) zero zero d r le lt = omega arith
rise_to low (x ∷ xs) zero (suc j) d r le lt = let more = at_least reach_nid (x.nid + 1) None xs j d (omega (arith, lt)) r.2 in omega (arith, more)
rise_to low (x ∷ xs) (suc i) zero d r le lt = absurd (omega (arith, le))
rise_to low (x ∷ xs) (suc i) (suc j) d r le lt = rise_to (x.nid + 1) xs i j d r.2 (omega (arith, le)) (omega (arith, lt))

comparisons_rise : (xs : List Reach) (nid : ℕ) → Rises 0 None (map reach_nid xs) → IsNonDecreasingBy (λ (y : Reach). ordering_index (nat_cmp (reach_nid y) nid)) xs
comparisons_rise xs nid rises i j d le lt = let up = rise_to 0 xs i j d rises le lt in grind (arith, nat_tests, up)

none_equal : (xs : List Reach) (nid : ℕ) → ((k : ℕ) (d : Reach) → k < length xs → reach_nid (get_or xs k d) ≡ nid → ⊥) → reach_in xs nid ≡ None
unfolding first_with
none_equal [] nid none = refl
none_equal (x ∷ xs) nid none = by_test (eqb x.nid nid) refl (none_equal xs nid (λ k d lt. none (suc k) d (omega (arith, lt))))
  where
    by_test : (v : Bool) → eqb x.nid nid ≡ v → reach_in xs nid ≡ None → cond v (Some x) (reach_in xs nid) ≡ None
    by_test false e later = later
    by_test true e later = absurd (none zero x (omega arith) (eqb-true x.nid nid e))

-- what a search by halving answers
pub searched : (xs : List Reach) (nid : ℕ) → Rises 0 None (map reach_nid xs) → (r : Result ℕ ℕ) → IsSearchInRange r (length xs) → IsBinarySearchResult (λ (y : Reach). nat_cmp (reach_nid y) nid) xs r → record { found : IfOk r (IsPlaceIn xs nid); absent : OnErr r (reach_in xs nid ≡ None) }
searched xs nid rises (Ok i) lt equal = record {
  found = record { in_range = lt; found = there };
  absent = tt;
}
  where
    there : (x : Reach) → get_or xs i x ≡ x → reach_in xs nid ≡ Some x
    there x here =
        let same : reach_nid (get_or xs i x) ≡ nid = ranked _ nid _ (sym (equal x)) in
        contains_with reach_nid xs 0 None nid x i rises lt here (rw here at same)
searched xs nid rises (Err i) lt parted = record { found = tt; absent = none_equal xs nid not_one }
  where
    parts : IsPartitionPoint (λ (y : Reach). nat_cmp (reach_nid y) nid ≡ Less) (λ (y : Reach). nat_cmp (reach_nid y) nid ≡ Greater) xs i
    parts = parted (comparisons_rise xs nid rises)

    not_one : (k : ℕ) (d : Reach) → k < length xs → reach_nid (get_or xs k d) ≡ nid → ⊥
    not_one k d lt same = elim (at_most_or_more i k) [
      | inl le ↦ let more : nid < reach_nid (get_or xs k d) = ranked _ nid _ (sym (parts.1 k d le lt)) in absurd (omega (arith, more, same))
      | inr below ↦ let less : reach_nid (get_or xs k d) < nid = ranked _ nid _ (sym (parts.0 k d (omega arith) below)) in absurd (omega (arith, less, same))
    ]

-- ---- a path, from the folder up

pub path_begun : (xs : List Reach) (last : Reach) (items : List ℕ) → items ≡ [] → path_above xs last.depth last.nid (reverse items) ≡ path_to xs last
path_begun xs last items none = rw none refl

pub path_goes_up : (xs : List Reach) (depth nid parent : ℕ) (items more all : List ℕ) → more ≡ items ++ (nid ∷ []) → parent ≡ parent_in xs nid → path_above xs (suc depth) nid (reverse items) ≡ all → path_above xs depth parent (reverse more) ≡ all
unfolding path_above
path_goes_up xs depth nid parent items more all push is so_far = rw (push, is, reverse-append items (nid ∷ [])) so_far

pub path_ends : (xs : List Reach) (nid : ℕ) (items more all : List ℕ) → more ≡ items ++ (nid ∷ []) → path_above xs 0 nid (reverse items) ≡ all → reverse more ≡ all
unfolding path_above
path_ends xs nid items more all push so_far = rw (push, reverse-append items (nid ∷ [])) so_far

-- ---- those that pass a test, one after another

pub kept_first : (p : ℕ → Bool) (items : List ℕ) (left all : List Roots) → items ≡ [] → left ≡ all → items ++ filter p (tops left) ≡ filter p (tops all)
kept_first p items left all none is = rw (none, is) refl

pub kept_more : (p : ℕ → Bool) (items more all : List ℕ) (left rest : List Roots) (x : Roots) → left ≡ x ∷ rest → p x.top ≡ true → more ≡ items ++ (x.top ∷ []) → items ++ filter p (tops left) ≡ all → more ++ filter p (tops rest) ≡ all
kept_more p items more all left rest x is passes push so_far =
    rw push (append_assoc items (x.top ∷ []) (filter p (tops rest)) ∙ sym (rw (is, passes) refl) ∙ so_far)

pub kept_none : (p : ℕ → Bool) (items all : List ℕ) (left rest : List Roots) (x : Roots) → left ≡ x ∷ rest → p x.top ≡ false → items ++ filter p (tops left) ≡ all → items ++ filter p (tops rest) ≡ all
kept_none p items all left rest x is fails so_far = sym (rw (is, fails) refl) ∙ so_far

pub kept_all : (p : ℕ → Bool) (items all : List ℕ) (left : List Roots) → left ≡ [] → items ++ filter p (tops left) ≡ all → items ≡ all
kept_all p items all left none so_far = sym (append_nothing items) ∙ (rw none at so_far)
  where
    append_nothing : (xs : List ℕ) → xs ++ [] ≡ xs
    append_nothing [] = refl
    append_nothing (x ∷ xs) = ap (λ l. x ∷ l) (append_nothing xs)
