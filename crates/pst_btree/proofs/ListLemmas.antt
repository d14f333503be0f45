-- What halving finds in a list whose keys rise.
use Rattle.std.proofs.Common.{◌≡◌, ℕ, zero, suc, ◌+◌, ◌<◌, ◌≤◌, true, false, List, [], ◌∷◌, length, map, Some, None, refl, sym, ◌∙◌, arith}
use Rattle.std.specs.Prelude.{nat_eq, ltb, ◌≢◌, slice_index_or, drop}
use Rattle.std.specs.List.Sorted.{IsNonDecreasingBy, IsPartitionPoint}
use Rattle.std.proofs.lemmas.Bool.Decides.{nat_tests}
use Rattle.std.proofs.lemmas.List.{drop_more, get_or-drop, get_or_default, length-drop}
use Rattle.pst_btree.specs.Entries.{first_with}
use Rattle.pst_btree.specs.Order.{Rises}
use Rattle.pst_btree.proofs.EntryLemmas.{at_least}

-- ---- the first with a key stands behind those whose keys are lower

behind_lower : {X : Type 0} (key_in : X → ℕ) (xs : List X) (i key : ℕ) → ((k : ℕ) (d : X) → k < i → key_in (slice_index_or xs k d) < key) → first_with key_in key xs ≡ first_with key_in key (drop i xs)
unfolding first_with
behind_lower key_in xs zero key low = refl
behind_lower key_in [] (suc i) key low = refl
behind_lower key_in (x ∷ xs) (suc i) key low =
    let less : key_in x < key = low 0 x (omega arith) in
    let no : nat_eq (key_in x) key ≡ false = grind (arith, nat_tests, less) in
    rw no (behind_lower key_in xs i key (λ k d lt. low (suc k) d (omega (arith, lt))))

no_lower : {X : Type 0} (key_in : X → ℕ) (xs : List X) (key : ℕ) → ((k : ℕ) (d : X) → k < length xs → key < key_in (slice_index_or xs k d)) → first_with key_in key xs ≡ None
unfolding first_with
no_lower key_in [] key high = refl
no_lower key_in (x ∷ xs) key high =
    let more : key < key_in x = high 0 x (omega arith) in
    let no : nat_eq (key_in x) key ≡ false = grind (arith, nat_tests, more) in
    rw no (no_lower key_in xs key (λ k d lt. high (suc k) d (omega (arith, lt))))

-- the keys before a place are lower than one, and none from it on is
abbrev pub IsPlaceOf : {X : Type 0} → (X → ℕ) → List X → ℕ → ℕ → Type 0
IsPlaceOf key_in xs key i = IsPartitionPoint (λ y. ltb (key_in y) key ≡ true) (λ y. ltb (key_in y) key ≡ false) xs i

lower : {X : Type 0} (key_in : X → ℕ) (xs : List X) (key i : ℕ) → IsPlaceOf key_in xs key i → (k : ℕ) (d : X) → k < i → key_in (slice_index_or xs k d) < key
lower key_in xs key i place k d lt =
    let less : ltb (key_in (slice_index_or xs k d)) key ≡ true = place.0 k d (omega arith) lt in
    grind (arith, nat_tests, less)

-- what has a key at its place is the first with it
pub found_at : {X : Type 0} (key_in : X → ℕ) (xs : List X) (key i : ℕ) (d : X) → IsPlaceOf key_in xs key i → i < length xs → key_in (slice_index_or xs i d) ≡ key → Some (slice_index_or xs i d) ≡ first_with key_in key xs
unfolding first_with
found_at key_in xs key i d place lt same =
    let yes : nat_eq (key_in (slice_index_or xs i d)) key ≡ true = grind (arith, nat_tests, same) in
    sym (behind_lower key_in xs i key (lower key_in xs key i place) ∙ (rw (drop_more xs i d lt, yes) refl))

-- behind the last there is none
pub found_behind : {X : Type 0} (key_in : X → ℕ) (xs : List X) (key i : ℕ) → IsPlaceOf key_in xs key i → i ≡ length xs → None ≡ first_with key_in key xs
found_behind key_in xs key i place end =
    sym (behind_lower key_in xs i key (lower key_in xs key i place) ∙ no_lower key_in (drop i xs) key (λ k d lt. absurd (omega (arith, lt, end, length-drop i xs))))

-- where another key stands at its place, all behind that are higher
pub found_other : {X : Type 0} (key_in : X → ℕ) (xs : List X) (key i : ℕ) (d : X) → IsNonDecreasingBy key_in xs → IsPlaceOf key_in xs key i → i < length xs → key_in (slice_index_or xs i d) ≢ key → None ≡ first_with key_in key xs
found_other {X} key_in xs key i d rises place lt other =
    sym (behind_lower key_in xs i key (lower key_in xs key i place) ∙ no_lower key_in (drop i xs) key (λ k e less. rw (get_or-drop i xs k e) (above k e less)))
  where
    here : key < key_in (slice_index_or xs i d)
    here =
        let no : ltb (key_in (slice_index_or xs i d)) key ≡ false = place.1 i d (omega arith) lt in
        grind (arith, nat_tests, no, other)

    above : (k : ℕ) (e : X) → k < length (drop i xs) → key < key_in (slice_index_or xs (i + k) e)
    above k e less =
        let up = rises i (i + k) e (omega arith) (omega (arith, less, length-drop i xs)) in
        let up_here : key_in (slice_index_or xs i d) ≤ key_in (slice_index_or xs (i + k) e) = rw (get_or_default xs i e d lt) at up in
        omega (arith, here, up_here)

-- ---- keys that rise do not fall

pub rise_to : {X : Type 0} (key_in : X → ℕ) (low : ℕ) (xs : List X) (i j : ℕ) (d : X) → Rises low None (map key_in xs) → i ≤ j → j < length xs → key_in (slice_index_or xs i d) ≤ key_in (slice_index_or xs j d)
rise_to key_in low [] i j d r le lt = absurd (omega (arith, lt))
rise_to key_in low (x ∷ xs) zero zero d r le lt = omega arith
rise_to key_in low (x ∷ xs) zero (suc j) d r le lt = let more = at_least key_in (key_in x + 1) None xs j d (omega (arith, lt)) r.2 in omega (arith, more)
rise_to key_in low (x ∷ xs) (suc i) zero d r le lt = absurd (omega (arith, le))
rise_to key_in low (x ∷ xs) (suc i) (suc j) d r le lt = rise_to key_in (key_in x + 1) xs i j d r.2 (omega (arith, le)) (omega (arith, lt))

pub rises_up : {X : Type 0} (key_in : X → ℕ) (xs : List X) → Rises 0 None (map key_in xs) → IsNonDecreasingBy key_in xs
rises_up key_in xs rises i j d le lt = rise_to key_in 0 xs i j d rises le lt
