-- What is found by halving is in the list.
use Rattle.std.proofs.Common.{◌≡◌, ℕ, zero, suc, ◌<◌, List, Option, Some, None, IfSome, refl, arith, inl, inr}
use Rattle.std.specs.List.{Contains}
use Rattle.std.proofs.lemmas.Bool.{cases_lt}
use Rattle.std.proofs.lemmas.List.Elements.{Contains-append_left, Contains-append_right}
use Rattle.pst_fault.specs.First.{join_below}
use Rattle.pst_block.specs.Table.{Table, entry_of}
use Rattle.pst_btree.specs.Entries.{first_with}
use Rattle.pst_subnode.specs.declared.sub.Sub.{Sub}
use Rattle.pst_datatree.specs.List.{count_in}
use Rattle.pst_subnode.specs.Body.{leaf_bid_in, sub_in, sub_at, subs_in}
use Rattle.pst_subnode.specs.List.{sub_nid, subs_at, slblock_subs, leaf_subs, subs_of}
use Rattle.pst_subnode.specs.Tree.{sub_fault}
use Rattle.pst_subnode.proofs.MapLaws.{map_law}

-- what is in one of lists is in them joined
below_there : {X : Type 0} (part : ℕ → List X) (n i : ℕ) (x : X) → i < n → Contains (part i) x → Contains (join_below part n) x
below_there part zero i x lt w = absurd (omega (arith, lt))
below_there part (suc n) i x lt w =
    elim (cases_lt i n) [
      | inl less ↦ Contains-append_left (join_below part n) (part n) x (below_there part n i x less w)
      | inr last ↦ let same : i ≡ n = omega (arith, lt, last) in Contains-append_right (join_below part n) (part n) x (rw (← same) w)
    ]

pub entry_there : (body : List ℕ) (i : ℕ) → i < count_in body → Contains (subs_in body) (sub_in body i)
unfolding subs_in
entry_there body i lt = below_there (sub_at body) (count_in body) i (sub_in body i) lt (0, omega arith, refl)

pub leaf_there : (t : Table) (body : List ℕ) (i : ℕ) (s : Sub) → i < count_in body → Contains (subs_at (slblock_subs t) (entry_of t (leaf_bid_in body i))) s → Contains (join_below (leaf_subs t body) (count_in body)) s
unfolding leaf_subs
leaf_there t body i s lt w = below_there (leaf_subs t body) (count_in body) i s lt w

pub leaf_guess : (t : Table) (body : List ℕ) (i : ℕ) (o : Option Sub) → i < count_in body → IfSome o (Contains (subs_at (slblock_subs t) (entry_of t (leaf_bid_in body i)))) → IfSome o (Contains (join_below (leaf_subs t body) (count_in body)))
leaf_guess t body i None lt h = h
leaf_guess t body i (Some s) lt h = leaf_there t body i s lt h

pub guessed : (t : Table) (limit bid nid : ℕ) (s : Sub) → sub_fault t limit bid ≡ None → Contains (subs_of t bid) s → s.nid ≡ nid → first_with sub_nid nid (subs_of t bid) ≡ Some s
guessed t limit bid nid s h w is = (map_law t limit bid nid s h).1 (w, is)
