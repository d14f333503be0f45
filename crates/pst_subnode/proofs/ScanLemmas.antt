-- The first entry with a key, of lists that are joined.
use Rattle.std.proofs.Common.{◌≡◌, ℕ, zero, suc, ◌+◌, ◌<◌, Bool, true, false, cond, List, [], ◌∷◌, ◌++◌, Option, Some, None, refl, sym, ◌∙◌, arith, add-one, inl, inr}
use Rattle.std.specs.Prelude.{nat_eq, ◌≢◌}
use Rattle.std.proofs.lemmas.Bool.{cases_lt}
use Rattle.pst_fault.specs.First.{join_below}
use Rattle.pst_block.specs.Table.{Table, entry_of}
use Rattle.pst_btree.specs.Entries.{first_with}
use Rattle.pst_subnode.specs.declared.sub.Sub.{Sub}
use Rattle.pst_subnode.specs.Body.{leaf_bid_in, sub_in, sub_at}
use Rattle.pst_subnode.specs.List.{sub_nid, subs_at, slblock_subs, leaf_subs}
use Rattle.pst_subnode.proofs.FindLemmas.{found_here, found_later, found_nowhere}

abbrev first : ℕ → List Sub → Option Sub
first nid xs = first_with sub_nid nid xs

behind_none : (nid : ℕ) (xs ys : List Sub) → first nid xs ≡ None → first nid (xs ++ ys) ≡ first nid ys
unfolding first_with
behind_none nid [] ys h = refl
behind_none nid (x ∷ xs) ys h = by_test (nat_eq x.nid nid) h (behind_none nid xs ys)
  where
    by_test : (v : Bool) → cond v (Some x) (first nid xs) ≡ None → (first nid xs ≡ None → first nid (xs ++ ys) ≡ first nid ys) → cond v (Some x) (first nid (xs ++ ys)) ≡ first nid ys
    by_test true e later = cc
    by_test false e later = later e

before_some : (nid : ℕ) (xs ys : List Sub) (s : Sub) → first nid xs ≡ Some s → first nid (xs ++ ys) ≡ Some s
unfolding first_with
before_some nid [] ys s h = cc
before_some nid (x ∷ xs) ys s h = by_test (nat_eq x.nid nid) h (before_some nid xs ys s)
  where
    by_test : (v : Bool) → cond v (Some x) (first nid xs) ≡ Some s → (first nid xs ≡ Some s → first nid (xs ++ ys) ≡ Some s) → cond v (Some x) (first nid (xs ++ ys)) ≡ Some s
    by_test true e later = e
    by_test false e later = later e

-- found in one of lists, and in none before it
below_found : (part : ℕ → List Sub) (nid n i : ℕ) (s : Sub) → i < n → first nid (join_below part i) ≡ None → first nid (part i) ≡ Some s → first nid (join_below part n) ≡ Some s
below_found part nid zero i s lt none is = absurd (omega (arith, lt))
below_found part nid (suc n) i s lt none is =
    elim (cases_lt i n) [
      | inl less ↦ before_some nid (join_below part n) (part n) s (below_found part nid n i s less none is)
      | inr last ↦
          let same : i ≡ n = omega (arith, lt, last) in
          behind_none nid (join_below part n) (part n) (rw (← same) none) ∙ rw (← same) is
    ]

below_passed : (part : ℕ → List Sub) (nid i : ℕ) → first nid (join_below part i) ≡ None → first nid (part i) ≡ None → first nid (join_below part (i + 1)) ≡ None
below_passed part nid i none is = rw add-one (behind_none nid (join_below part i) (part i) none ∙ is)

pub entry_found : (body : List ℕ) (nid n i m : ℕ) → i < n → first_with sub_nid nid (join_below (sub_at body) i) ≡ None → m ≡ (sub_in body i).nid → m ≡ nid → first_with sub_nid nid (join_below (sub_at body) n) ≡ Some (sub_in body i)
entry_found body nid n i m lt none is same = below_found (sub_at body) nid n i (sub_in body i) lt none (found_here sub_nid nid (sub_at body i) [] (sub_in body i) refl (sym is ∙ same))

pub entry_passed : (body : List ℕ) (nid i m : ℕ) → first_with sub_nid nid (join_below (sub_at body) i) ≡ None → m ≡ (sub_in body i).nid → m ≢ nid → first_with sub_nid nid (join_below (sub_at body) (i + 1)) ≡ None
entry_passed body nid i m none is other =
    let apart : sub_nid (sub_in body i) ≢ nid = rw (← is) other in
    below_passed (sub_at body) nid i none (found_later sub_nid nid (sub_at body i) [] (sub_in body i) refl apart ∙ found_nowhere sub_nid nid [] refl)

pub leaf_found : (t : Table) (body : List ℕ) (nid n i : ℕ) (s : Sub) → i < n → first_with sub_nid nid (join_below (leaf_subs t body) i) ≡ None → first_with sub_nid nid (subs_at (slblock_subs t) (entry_of t (leaf_bid_in body i))) ≡ Some s → first_with sub_nid nid (join_below (leaf_subs t body) n) ≡ Some s
unfolding leaf_subs
leaf_found t body nid n i s lt none is = below_found (leaf_subs t body) nid n i s lt none is

pub leaf_passed : (t : Table) (body : List ℕ) (nid i : ℕ) → first_with sub_nid nid (join_below (leaf_subs t body) i) ≡ None → first_with sub_nid nid (subs_at (slblock_subs t) (entry_of t (leaf_bid_in body i))) ≡ None → first_with sub_nid nid (join_below (leaf_subs t body) (i + 1)) ≡ None
unfolding leaf_subs
leaf_passed t body nid i none is = below_passed (leaf_subs t body) nid i none is
