-- A subnode list is a finite map from nids.
use Rattle.std.proofs.Common.{◌≡◌, ℕ, zero, suc, ◌<◌, Bool, true, false, List, [], ◌∷◌, length, map, Some, None, refl, sym, ap, ◌∙◌, arith}
use Rattle.std.specs.Prelude.{cond, nat_eq, ◌||◌, slice_index_or}
use Rattle.std.specs.List.{list_any, Contains}
use Rattle.pst_fault.proofs.FirstLemmas.{none_then}
use Rattle.pst_fault.proofs.GeneralLemmas.{number_of_test, test_of_number, clear_and, or_true}
use Rattle.pst_block.specs.Table.{Table}
use Rattle.pst_btree.specs.Entries.{first_with}
use Rattle.pst_datatree.specs.Bid.{is_no_block}
use Rattle.pst_subnode.specs.declared.sub.Sub.{Sub}
use Rattle.pst_subnode.specs.List.{sub_nid, are_distinct, subs_of, list_fault}
use Rattle.pst_subnode.specs.Tree.{entry_fault, nesting, sub_fault}
use Rattle.pst_fault.specs.Each.{first_of}
use Rattle.pst_datatree.specs.Data.{data_fault}
use Rattle.pst_subnode.specs.Laws.{MapLaw, FoundLaw}
use Rattle.pst_subnode.proofs.ListLaws.{names_law, distinct_law}
use Rattle.pst_subnode.proofs.SubLemmas.{sub_fault_below, sub_fault_list, sub_fault_more}
use Rattle.pst_subnode.proofs.TreeLaws.{no_subs, named_subs, entry_law}

is_later : (x s : Sub) (rest : List Sub) → Contains rest s → Contains (x ∷ rest) s
is_later x s rest w = (suc w.0, omega (arith, w.1), w.2)

-- what is found is there
pub found_there : (nid : ℕ) (xs : List Sub) (s : Sub) → first_with sub_nid nid xs ≡ Some s → Contains xs s × (s.nid ≡ nid)
unfolding first_with
found_there nid [] s h = cc
found_there nid (x ∷ rest) s h = by_test (nat_eq x.nid nid) refl h (found_there nid rest s)
  where
    by_test : (v : Bool) → nat_eq x.nid nid ≡ v → cond v (Some x) (first_with sub_nid nid rest) ≡ Some s → (first_with sub_nid nid rest ≡ Some s → Contains rest s × (s.nid ≡ nid)) → Contains (x ∷ rest) s × (s.nid ≡ nid)
    by_test true e is later =
        let same : x ≡ s = cc in
        ((0, omega arith, same), sym (ap sub_nid same) ∙ number_of_test x.nid nid e)
    by_test false e is later = let p = later is in (is_later x s rest p.0, p.1)

-- an entry's nid is among those of its list
nid_there : (xs : List Sub) (s : Sub) → Contains xs s → list_any (nat_eq s.nid) (map sub_nid xs) ≡ true
nid_there [] s w = absurd (omega (arith, w.1))
nid_there (x ∷ rest) s w = by_place w.0 w.1 w.2 (λ v. nid_there rest s v)
  where
    by_place : (k : ℕ) → k < length (x ∷ rest) → slice_index_or (x ∷ rest) k s ≡ s → (Contains rest s → list_any (nat_eq s.nid) (map sub_nid rest) ≡ true) → (nat_eq s.nid x.nid || list_any (nat_eq s.nid) (map sub_nid rest)) ≡ true
    by_place zero lt is later = rw (test_of_number s.nid x.nid (sym (ap sub_nid is))) refl
    by_place (suc k) lt is later = rw (later (k, omega arith, is)) (or_true (nat_eq s.nid x.nid))

-- what is there is found, where no nid stands twice
there_found : (nid : ℕ) (xs : List Sub) (s : Sub) → are_distinct (map sub_nid xs) ≡ true → Contains xs s → s.nid ≡ nid → first_with sub_nid nid xs ≡ Some s
unfolding first_with are_distinct
there_found nid [] s distinct w is = absurd (omega (arith, w.1))
there_found nid (x ∷ rest) s distinct w is = by_test (nat_eq x.nid nid) refl w.0 w.1 w.2 (clear_and (list_any (nat_eq x.nid) (map sub_nid rest)) (are_distinct (map sub_nid rest)) distinct) (λ d v. there_found nid rest s d v is)
  where
    by_test : (v : Bool) → nat_eq x.nid nid ≡ v → (k : ℕ) → k < length (x ∷ rest) → slice_index_or (x ∷ rest) k s ≡ s → (list_any (nat_eq x.nid) (map sub_nid rest) ≡ false) × (are_distinct (map sub_nid rest) ≡ true) → (are_distinct (map sub_nid rest) ≡ true → Contains rest s → first_with sub_nid nid rest ≡ Some s) → cond v (Some x) (first_with sub_nid nid rest) ≡ Some s
    by_test true e zero lt same d later = ap Some same
    by_test false e zero lt same d later =
        let yes_it_is : nat_eq x.nid nid ≡ true = test_of_number x.nid nid (ap sub_nid same ∙ is) in
        let bad : false ≡ true = sym e ∙ yes_it_is in cc
    by_test true e (suc k) lt same d later =
        let twice = nid_there rest s (k, omega arith, same) in
        let nids : x.nid ≡ s.nid = number_of_test x.nid nid e ∙ sym is in
        let bad : false ≡ true = sym d.0 ∙ rw nids twice in cc
    by_test false e (suc k) lt same d later = later d.1 (k, omega arith, same)

-- in a list without fault no nid stands twice
distinct_list : (t : Table) (limit bid : ℕ) → sub_fault t limit bid ≡ None → are_distinct (map sub_nid (subs_of t bid)) ≡ true
unfolding are_distinct
distinct_list t zero bid h = by_test (is_no_block bid) refl
  where
    by_test : (v : Bool) → is_no_block bid ≡ v → are_distinct (map sub_nid (subs_of t bid)) ≡ true
    by_test true e = rw (no_subs t bid e) refl
    by_test false e = let bad : Some nesting ≡ None = sym (sub_fault_below t 0 bid refl e) ∙ h in cc
distinct_list t (suc limit) bid h = by_test (is_no_block bid) refl
  where
    by_test : (v : Bool) → is_no_block bid ≡ v → are_distinct (map sub_nid (subs_of t bid)) ≡ true
    by_test true e = rw (no_subs t bid e) refl
    by_test false e =
        let p = none_then (list_fault t bid) (first_of (entry_fault t (sub_fault t limit)) (subs_of t bid)) (sym (sub_fault_list t (suc limit) limit bid (omega arith) e) ∙ h) in
        let names = (names_law t bid (subs_of t bid)).1 (p.0, named_subs t bid e) in
        (distinct_law (map sub_nid (subs_of t bid))).0 names.4

pub map_law : MapLaw
map_law t limit bid nid s h = (
  (λ w. found_there nid (subs_of t bid) s w),
  (λ w. there_found nid (subs_of t bid) s (distinct_list t limit bid h) w.0 w.1),
)

-- ---- what is found has no fault

pub found_below : (t : Table) (limit bid : ℕ) (s : Sub) → sub_fault t limit bid ≡ None → Contains (subs_of t bid) s → (data_fault t s.bid_data ≡ None) × (sub_fault t limit s.bid_sub ≡ None)
found_below t zero bid s h w = by_test (is_no_block bid) refl
  where
    by_test : (v : Bool) → is_no_block bid ≡ v → (data_fault t s.bid_data ≡ None) × (sub_fault t 0 s.bid_sub ≡ None)
    by_test true e = let bad : Contains [] s = (rw (no_subs t bid e) at w) in absurd (omega (arith, bad.1))
    by_test false e = let bad : Some nesting ≡ None = sym (sub_fault_below t 0 bid refl e) ∙ h in cc
found_below t (suc limit) bid s h w = let p = entry_law t limit bid s h w in (p.0, sub_fault_more t limit s.bid_sub p.1)

pub found_law : FoundLaw
found_law t limit bid nid s h is = found_below t limit bid s h (found_there nid (subs_of t bid) s is).0

pub found_data : (t : Table) (limit bid nid : ℕ) (s : Sub) → sub_fault t limit bid ≡ None → first_with sub_nid nid (subs_of t bid) ≡ Some s → data_fault t s.bid_data ≡ None
found_data t limit bid nid s h is = (found_law t limit bid nid s h is).0

pub found_subs : (t : Table) (limit bid nid : ℕ) (s : Sub) → sub_fault t limit bid ≡ None → first_with sub_nid nid (subs_of t bid) ≡ Some s → sub_fault t limit s.bid_sub ≡ None
found_subs t limit bid nid s h is = (found_law t limit bid nid s h is).1
