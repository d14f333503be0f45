-- Entries in the order of their nids.
use mathlib.Core.HLevel.{Unit-prop}
use Rattle.std.proofs.Props.{props}
use Rattle.std.proofs.Common.{◌≡◌, ℕ, zero, suc, ◌+◌, ◌<◌, ◌≤◌, Bool, true, false, cond, List, [], ◌∷◌, length, Option, Some, None, refl, sym, ◌∙◌, arith}
use Rattle.std.specs.Prelude.{nat_eq, ltb, ◌≢◌, slice_index_or, drop, filter}
use Rattle.std.specs.Global.{Vec}
use Rattle.std.specs.Ordering.{nat_cmp, is_lt}
use Rattle.std.specs.List.Sorted.{IsNonDecreasingBy, IsPartitionPoint, IsStableByKey, ties}
use Rattle.std.proofs.lemmas.Bool.Decides.{nat_tests}
use Rattle.std.proofs.lemmas.List.{drop_more, get_or-drop, get_or_default, length-drop}
use Rattle.pst_block.specs.Block.{bid_key}
use Rattle.pst_block.specs.Table.{Table}
use Rattle.pst_btree.specs.Entries.{first_with}
use Rattle.pst_subnode.specs.declared.sub.Sub.{Sub}
use Rattle.pst_subnode.specs.declared.index.SubIndex.{SubIndex}
use Rattle.pst_subnode.specs.List.{sub_nid, subs_of}
use Rattle.pst_subnode.specs.Index.{IsIndexOf, HasFirst, HoldsFirst}
use Rattle.pst_subnode.proofs.HeightLaws.{same_sub_law}

abbrev first : ℕ → List Sub → Option Sub
first nid xs = first_with sub_nid nid xs

-- ---- a stable sort keeps the first with each nid

abbrev head_of : List Sub → Option Sub
head_of [] = None
head_of (x ∷ xs) = Some x

-- the first with a nid is the first of those that have it
first_is_head : (p : Sub → Bool) (nid : ℕ) → ((s : Sub) → p s ≡ nat_eq s.nid nid) → (xs : List Sub) → first nid xs ≡ head_of (filter p xs)
unfolding first_with
first_is_head p nid tests [] = refl
first_is_head p nid tests (x ∷ xs) = rw (tests x) (by_test (nat_eq x.nid nid) (first_is_head p nid tests xs))
  where
    by_test : (v : Bool) → first nid xs ≡ head_of (filter p xs) → cond v (Some x) (first nid xs) ≡ head_of (cond v (x ∷ filter p xs) (filter p xs))
    by_test true e = refl
    by_test false e = e

-- two entries tie where they have the same nid
tie_test : (nid : ℕ) (s : Sub) → ties (λ x y. is_lt (nat_cmp x.nid y.nid)) (record { nid = nid; bid_data = 0; bid_sub = 0 }) s ≡ nat_eq s.nid nid
tie_test nid s = grind (arith, nat_tests)

pub sorted_first : (xs ys : List Sub) → IsStableByKey sub_nid nat_cmp xs ys → HasFirst ys xs
sorted_first xs ys stable nid =
    let like : Sub = record { nid = nid; bid_data = 0; bid_sub = 0 } in
    let test = ties (λ x y. is_lt (nat_cmp (sub_nid x) (sub_nid y))) like in
    first_is_head test nid (tie_test nid) ys ∙ (rw (stable like) (sym (first_is_head test nid (tie_test nid) xs)))

-- ---- the first with a nid stands behind those whose nids are lower

behind_lower : (xs : List Sub) (i nid : ℕ) → ((k : ℕ) (d : Sub) → k < i → (slice_index_or xs k d).nid < nid) → first nid xs ≡ first nid (drop i xs)
unfolding first_with
behind_lower xs zero nid low = refl
behind_lower [] (suc i) nid low = refl
behind_lower (x ∷ xs) (suc i) nid low =
    let less : x.nid < nid = low 0 x (omega arith) in
    let no : nat_eq x.nid nid ≡ false = grind (arith, nat_tests, less) in
    rw no (behind_lower xs i nid (λ k d lt. low (suc k) d (omega (arith, lt))))

no_lower : (xs : List Sub) (nid : ℕ) → ((k : ℕ) (d : Sub) → k < length xs → nid < (slice_index_or xs k d).nid) → first nid xs ≡ None
unfolding first_with
no_lower [] nid high = refl
no_lower (x ∷ xs) nid high =
    let more : nid < x.nid = high 0 x (omega arith) in
    let no : nat_eq x.nid nid ≡ false = grind (arith, nat_tests, more) in
    rw no (no_lower xs nid (λ k d lt. high (suc k) d (omega (arith, lt))))

-- the nids before a place are lower than one, and none from it on is
abbrev pub IsPlaceOf : List Sub → ℕ → ℕ → Type 0
IsPlaceOf xs nid i = IsPartitionPoint (λ y. ltb (sub_nid y) nid ≡ true) (λ y. ltb (sub_nid y) nid ≡ false) xs i

lower : (xs : List Sub) (nid i : ℕ) → IsPlaceOf xs nid i → (k : ℕ) (d : Sub) → k < i → (slice_index_or xs k d).nid < nid
lower xs nid i place k d lt =
    let less : ltb (slice_index_or xs k d).nid nid ≡ true = place.0 k d (omega arith) lt in
    grind (arith, nat_tests, less)

-- what has a nid at its place is the first with it
pub found_at : (xs : List Sub) (nid i : ℕ) (d : Sub) → IsPlaceOf xs nid i → i < length xs → (slice_index_or xs i d).nid ≡ nid → Some (slice_index_or xs i d) ≡ first nid xs
unfolding first_with
found_at xs nid i d place lt same =
    let yes : nat_eq (slice_index_or xs i d).nid nid ≡ true = grind (arith, nat_tests, same) in
    sym (behind_lower xs i nid (lower xs nid i place) ∙ (rw (drop_more xs i d lt, yes) refl))

-- behind the last there is none
pub found_behind : (xs : List Sub) (nid i : ℕ) → IsPlaceOf xs nid i → i ≡ length xs → None ≡ first nid xs
found_behind xs nid i place end =
    sym (behind_lower xs i nid (lower xs nid i place) ∙ no_lower (drop i xs) nid (λ k d lt. absurd (omega (arith, lt, end, length-drop i xs))))

-- where another nid stands at its place, all behind that are higher
pub found_other : (xs : List Sub) (nid i : ℕ) (d : Sub) → IsNonDecreasingBy sub_nid xs → IsPlaceOf xs nid i → i < length xs → (slice_index_or xs i d).nid ≢ nid → None ≡ first nid xs
found_other xs nid i d rises place lt other =
    sym (behind_lower xs i nid (lower xs nid i place) ∙ no_lower (drop i xs) nid (λ k e less. rw (get_or-drop i xs k e) (above k e less)))
  where
    here : nid < (slice_index_or xs i d).nid
    here =
        let no : ltb (slice_index_or xs i d).nid nid ≡ false = place.1 i d (omega arith) lt in
        grind (arith, nat_tests, no, other)

    above : (k : ℕ) (e : Sub) → k < length (drop i xs) → nid < (slice_index_or xs (i + k) e).nid
    above k e less =
        let up = rises i (i + k) e (omega arith) (omega (arith, less, length-drop i xs)) in
        let up_here : (slice_index_or xs i d).nid ≤ (slice_index_or xs (i + k) e).nid = rw (get_or_default xs i e d lt) at up in
        omega (arith, here, up_here)

-- An index of a list is one of every list whose identifier differs in bit 0 alone.
pub index_of_key : (t : Table) (a b : ℕ) (i : SubIndex) → bid_key a ≡ bid_key b → IsIndexOf i (subs_of t a) → IsIndexOf i (subs_of t b)
index_of_key t a b i same is = rw (← (same_sub_law t a b same).0) is

-- ---- that an index is of a list is a fact

holds_fact : (entries : Option (Vec Sub)) (subs : List Sub) → IsProp (HoldsFirst entries subs)
holds_fact None subs = Unit-prop
holds_fact (Some entries) subs = Prim.hlevel props

pub index_fact : (index : SubIndex) (subs : List Sub) → IsProp (IsIndexOf index subs)
unfolding IsIndexOf
index_fact index subs = holds_fact index.entries subs

-- for a field of a struct that says it
pub ruleset index_facts = (props, index_fact)
