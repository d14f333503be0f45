-- A known height tells what a walk afresh would answer under any limit.
use Rattle.std.proofs.Common.{◌≡◌, ℕ, zero, suc, ◌+◌, ◌<◌, ◌≤◌, max, Bool, true, false, List, [], ◌∷◌, Option, Some, None, refl, sym, ap, ◌∙◌, arith, ◌⊎◌, inl, inr}
use Rattle.std.specs.Prelude.{nat_le}
use Rattle.std.proofs.lemmas.Bool.{cases_lt}
use Rattle.std.proofs.lemmas.Bool.Decides.{nat_tests}
use Rattle.pst_fault.specs.declared.fault.Fault.{Fault}
use Rattle.pst_fault.specs.First.{◌then◌}
use Rattle.pst_fault.proofs.FirstLemmas.{then_none, none_then}
use Rattle.pst_block.specs.Table.{Table}
use Rattle.pst_datatree.specs.Bid.{is_no_block}
use Rattle.pst_datatree.specs.Data.{data_fault}
use Rattle.pst_subnode.specs.declared.sub.Sub.{Sub}
use Rattle.pst_subnode.specs.List.{subs_of, list_fault}
use Rattle.pst_subnode.specs.Tree.{most_among, entry_fault, entry_height, nesting, sub_fault, sub_height}
use Rattle.pst_fault.specs.Each.{first_of}
use Rattle.pst_subnode.specs.Laws.{limit_fault, DepthLaw}
use Rattle.pst_subnode.proofs.SubLemmas.{sub_fault_none, sub_height_none, sub_fault_below, sub_fault_list, sub_height_list}

pub fits_yes : (h m : ℕ) → h ≤ m → limit_fault h m ≡ None
fits_yes h m le = let fits : nat_le h m ≡ true = grind (arith, nat_tests) in rw fits refl

pub fits_no : (h m : ℕ) → m < h → limit_fault h m ≡ Some nesting
fits_no h m lt = let high : nat_le h m ≡ false = grind (arith, nat_tests) in rw high refl

-- the greater of two heights decides
fits_max : (a b m : ℕ) → (limit_fault a m then limit_fault b m) ≡ limit_fault (max a b) m
fits_max a b m =
    elim (cases_lt m a) [
      | inl lt ↦ rw (fits_no a m lt, fits_no (max a b) m (omega arith)) refl
      | inr le ↦
          elim (cases_lt m b) [
            | inl lt ↦ rw (fits_yes a m le, fits_no b m lt, fits_no (max a b) m (omega arith)) refl
            | inr also ↦ rw (fits_yes a m le, fits_yes b m also, fits_yes (max a b) m (omega arith)) refl
          ]
    ]

fits_suc : (h m : ℕ) → limit_fault h m ≡ limit_fault (h + 1) (suc m)
fits_suc h m =
    elim (cases_lt m h) [
      | inl lt ↦ rw (fits_no h m lt, fits_no (h + 1) (suc m) (omega arith)) refl
      | inr le ↦ rw (fits_yes h m le, fits_yes (h + 1) (suc m) (omega arith)) refl
    ]

-- an entry without fault, under another limit
entry_at : (t : Table) (n m : ℕ) (s : Sub) → ((b : ℕ) → sub_fault t n b ≡ None → sub_fault t m b ≡ limit_fault (sub_height t n b) m) → entry_fault t (sub_fault t n) s ≡ None → entry_fault t (sub_fault t m) s ≡ limit_fault (entry_height (sub_height t n) s) m
unfolding entry_fault entry_height
entry_at t n m s law e =
    let p = none_then (data_fault t s.bid_data) (sub_fault t n s.bid_sub) e in
    then_none _ _ p.0 ∙ law s.bid_sub p.1

entries_at : (t : Table) (n m : ℕ) (xs : List Sub) → ((b : ℕ) → sub_fault t n b ≡ None → sub_fault t m b ≡ limit_fault (sub_height t n b) m) → first_of (entry_fault t (sub_fault t n)) xs ≡ None → first_of (entry_fault t (sub_fault t m)) xs ≡ limit_fault (most_among (entry_height (sub_height t n)) xs) m
unfolding first_of most_among
entries_at t n m [] law h = sym (fits_yes 0 m (omega arith))
entries_at t n m (s ∷ rest) law h =
    let p = none_then (entry_fault t (sub_fault t n) s) (first_of (entry_fault t (sub_fault t n)) rest) h in
    let most = most_among (entry_height (sub_height t n)) rest in
    ap (λ o. o then first_of (entry_fault t (sub_fault t m)) rest) (entry_at t n m s law p.0)
    ∙ ap (λ o. limit_fault (entry_height (sub_height t n) s) m then o) (entries_at t n m rest law p.1)
    ∙ fits_max (entry_height (sub_height t n) s) most m

-- a list: one step of the law
list_law : (t : Table) (n bid : ℕ) → is_no_block bid ≡ false → ((m b : ℕ) → sub_fault t n b ≡ None → sub_fault t m b ≡ limit_fault (sub_height t n b) m) → (m : ℕ) → sub_fault t (suc n) bid ≡ None → sub_fault t m bid ≡ limit_fault (sub_height t (suc n) bid) m
list_law t n bid e law zero h =
    sub_fault_below t 0 bid refl e
    ∙ sym (rw (sub_height_list t (suc n) n bid (omega arith) e) (fits_no _ 0 (omega arith)))
list_law t n bid e law (suc m) h =
    let xs = subs_of t bid in
    let most = most_among (entry_height (sub_height t n)) xs in
    let p = none_then (list_fault t bid) (first_of (entry_fault t (sub_fault t n)) xs) (sym (sub_fault_list t (suc n) n bid (omega arith) e) ∙ h) in
    sub_fault_list t (suc m) m bid (omega arith) e
    ∙ then_none _ _ p.0
    ∙ entries_at t n m xs (law m) p.1
    ∙ fits_suc most m
    ∙ sym (rw (sub_height_list t (suc n) n bid (omega arith) e) refl)

-- by induction on the limit
pub depth_law : DepthLaw
depth_law t zero other bid h = by_test (is_no_block bid) refl
  where
    by_test : (v : Bool) → is_no_block bid ≡ v → sub_fault t other bid ≡ limit_fault (sub_height t 0 bid) other
    by_test true e = sub_fault_none t other bid e ∙ sym (rw (sub_height_none t 0 bid e) (fits_yes 0 other (omega arith)))
    by_test false e = let bad : Some nesting ≡ None = sym (sub_fault_below t 0 bid refl e) ∙ h in cc
depth_law t (suc limit) other bid h = by_test (is_no_block bid) refl (λ m b. depth_law t limit m b)
  where
    by_test : (v : Bool) → is_no_block bid ≡ v → ((m b : ℕ) → sub_fault t limit b ≡ None → sub_fault t m b ≡ limit_fault (sub_height t limit b) m) → sub_fault t other bid ≡ limit_fault (sub_height t (suc limit) bid) other
    by_test true e law = sub_fault_none t other bid e ∙ sym (rw (sub_height_none t (suc limit) bid e) (fits_yes 0 other (omega arith)))
    by_test false e law = list_law t limit bid e law other h

-- the height is the same under each limit that it keeps
pub height_same : (t : Table) (n m bid : ℕ) → sub_fault t n bid ≡ None → sub_fault t m bid ≡ None → sub_height t n bid ≡ sub_height t m bid
height_same t n m bid a b =
    omega (arith, at_most (sub_height t n bid) (sub_height t m bid) (λ k. sym (depth_law t n k bid a) ∙ depth_law t m k bid b), at_most (sub_height t m bid) (sub_height t n bid) (λ k. sym (depth_law t m k bid b) ∙ depth_law t n k bid a))
  where
    at_most : (x y : ℕ) → ((k : ℕ) → limit_fault x k ≡ limit_fault y k) → y ≤ x
    at_most x y h = elim (cases_lt x y) [ inl lt ↦ let bad : None ≡ Some nesting = sym (fits_yes x x (omega arith)) ∙ h x ∙ fits_no y x lt in cc | inr le ↦ le ]

none_or_deep : (h m : ℕ) (o : Option Fault) → o ≡ limit_fault h m → (o ≡ None) ⊎ (o ≡ Some nesting)
none_or_deep h m o is = elim (cases_lt m h) [ inl lt ↦ inr (is ∙ fits_no h m lt) | inr le ↦ inl (is ∙ fits_yes h m le) ]

-- what has no fault under one limit has none, or nests too deep, under another
pub list_or_deep : (t : Table) (n m bid : ℕ) → sub_fault t n bid ≡ None → (sub_fault t m bid ≡ None) ⊎ (sub_fault t m bid ≡ Some nesting)
list_or_deep t n m bid h = none_or_deep (sub_height t n bid) m _ (depth_law t n m bid h)

pub entry_or_deep : (t : Table) (n m : ℕ) (s : Sub) → entry_fault t (sub_fault t n) s ≡ None → (entry_fault t (sub_fault t m) s ≡ None) ⊎ (entry_fault t (sub_fault t m) s ≡ Some nesting)
entry_or_deep t n m s h = none_or_deep (entry_height (sub_height t n) s) m _ (entry_at t n m s (λ b. depth_law t n m b) h)
