-- The grammar of a subnode list, and its first fault and entries, say the same.
use Rattle.std.proofs.Common.{◌≡◌, ℕ, Bool, true, false, List, [], ◌∷◌, Some, None, refl, sym, ap, ◌∙◌, arith, ◌⊎◌, inl, inr, ◌↔◌, map}
use Rattle.std.specs.Prelude.{cond, nat_eq, if◌then◌else◌}
use Rattle.std.specs.List.{list_any, IsDistinct, AllByRecursion}
use Rattle.std.proofs.lemmas.Bool.Decides.{nat_tests}
use Rattle.std.proofs.lemmas.Bool.{or_parts}
use Rattle.pst_fault.specs.First.{◌then◌, holds_or}
use Rattle.pst_fault.proofs.FirstLemmas.{none_then, then_none, holds_or_none, holds_or_true, guard_then}
use Rattle.pst_fault.proofs.EachLemmas.{there_is}
use Rattle.pst_fault.proofs.GeneralLemmas.{clear_and}
use Rattle.pst_fault.proofs.JoinLemmas.{joined_law}
use Rattle.pst_page.specs.declared.entry.BlockEntry.{BlockEntry}
use Rattle.pst_block.specs.Table.{Table, entry_of, body_of}
use Rattle.pst_datatree.specs.Bid.{is_internal}
use Rattle.pst_datatree.specs.Data.{block_missing}
use Rattle.pst_subnode.specs.declared.sub.Sub.{Sub}
use Rattle.pst_datatree.specs.List.{count_in}
use Rattle.pst_subnode.specs.Body.{leaf_bid_in, is_slblock, is_siblock, has_level_one}
use Rattle.pst_subnode.specs.List.{subs_at, slblock_subs, leaf_subs, siblock_subs, block_subs, sub_nid, are_distinct, bad_list, slblock_fault, list_leaf_fault, siblock_fault, shape_fault, list_block_fault, list_fault}
use Rattle.pst_subnode.specs.Relation.{IsSlblock, IsListLeaf, IsSiblock, NamesList}

-- ---- the blocks

slblock_law : (t : Table) (e : BlockEntry) (xs : List Sub) → IsSlblock t e xs ↔ ((slblock_fault t e ≡ None) × (xs ≡ slblock_subs t e))
unfolding slblock_fault slblock_subs
slblock_law t e xs = (
  (λ w. (holds_or_true _ _ w.0, rw w.0 w.1)),
  (λ w. let is : is_slblock (body_of t e) ≡ true = holds_or_none _ _ w.0 in (is, (rw is at w.1))),
)

leaf_law : (t : Table) (e : BlockEntry) (i : ℕ) (xs : List Sub) → IsListLeaf t e i xs ↔ ((list_leaf_fault t e i ≡ None) × (xs ≡ leaf_subs t (body_of t e) i))
unfolding list_leaf_fault leaf_subs
leaf_law t e i xs =
    let bid = leaf_bid_in (body_of t e) i in (
      (λ w.
          let b = (slblock_law t w.0 xs).0 w.3 in
          (rw (w.1, w.2) b.0, b.1 ∙ sym (ap (subs_at (slblock_subs t)) w.1))),
      (λ w.
          let x = there_is (block_missing bid) (λ e'. if is_internal bid then slblock_fault t e' else Some (bad_list e)) (entry_of t bid) w.0 in
          let s = guard_then (is_internal bid) (slblock_fault t x.0) (bad_list e) x.2 in
          (x.0, x.1, s.0, (slblock_law t x.0 xs).1 (s.1, w.1 ∙ ap (subs_at (slblock_subs t)) x.1))),
    )

siblock_law : (t : Table) (e : BlockEntry) (xs : List Sub) → IsSiblock t e xs ↔ ((siblock_fault t e ≡ None) × (xs ≡ siblock_subs t e))
unfolding siblock_fault siblock_subs
siblock_law t e xs =
    let body = body_of t e in
    let law = joined_law (IsListLeaf t e) (list_leaf_fault t e) (leaf_subs t body) (leaf_law t e) (count_in body) xs in (
      (λ w.
          let j = law.0 w.1 in
          (then_none _ _ (holds_or_true _ _ w.0) ∙ j.0, rw w.0 j.1)),
      (λ w.
          let p = none_then (holds_or (is_siblock body) (bad_list e)) _ w.0 in
          let is : is_siblock body ≡ true = holds_or_none _ _ p.0 in
          (is, law.1 (p.1, (rw is at w.1)))),
    )

pub level_zero : (body : List ℕ) → is_slblock body ≡ true → has_level_one body ≡ false
unfolding is_slblock has_level_one
level_zero body h = grind (arith, nat_tests)

pub level_one : (body : List ℕ) → is_siblock body ≡ true → has_level_one body ≡ true
unfolding is_siblock has_level_one
level_one body h = grind (arith, nat_tests)

shape_law : (t : Table) (e : BlockEntry) (xs : List Sub) → (IsSlblock t e xs ⊎ IsSiblock t e xs) ↔ ((shape_fault t e ≡ None) × (xs ≡ block_subs t e))
unfolding shape_fault block_subs
shape_law t e xs = (to, from (has_level_one (body_of t e)) refl)
  where
    to : (IsSlblock t e xs ⊎ IsSiblock t e xs) → (cond (has_level_one (body_of t e)) (siblock_fault t e) (slblock_fault t e) ≡ None) × (xs ≡ cond (has_level_one (body_of t e)) (siblock_subs t e) (slblock_subs t e))
    to (inl w) = let p = (slblock_law t e xs).0 w in let l = level_zero (body_of t e) w.0 in (rw l p.0, rw l p.1)
    to (inr w) = let p = (siblock_law t e xs).0 w in let l = level_one (body_of t e) w.0 in (rw l p.0, rw l p.1)

    from : (b : Bool) → has_level_one (body_of t e) ≡ b → (cond (has_level_one (body_of t e)) (siblock_fault t e) (slblock_fault t e) ≡ None) × (xs ≡ cond (has_level_one (body_of t e)) (siblock_subs t e) (slblock_subs t e)) → (IsSlblock t e xs ⊎ IsSiblock t e xs)
    from true l w = inr ((siblock_law t e xs).1 ((rw l at w.0), (rw l at w.1)))
    from false l w = inl ((slblock_law t e xs).1 ((rw l at w.0), (rw l at w.1)))

-- ---- no number twice

others_law : (n : ℕ) (xs : List ℕ) → AllByRecursion (λ m. nat_eq n m ≡ false) xs ↔ (list_any (nat_eq n) xs ≡ false)
others_law n [] = ((λ w. refl), (λ w. tt))
others_law n (x ∷ rest) = (
  (λ w. rw (w.0, (others_law n rest).0 w.1) refl),
  (λ w. let p = or_parts (nat_eq n x) (list_any (nat_eq n) rest) w in (p.0, (others_law n rest).1 p.1)),
)

pub distinct_law : (xs : List ℕ) → IsDistinct nat_eq xs ↔ (are_distinct xs ≡ true)
unfolding are_distinct IsDistinct
distinct_law [] = ((λ w. refl), (λ w. tt))
distinct_law (x ∷ rest) = (
  (λ w. rw ((others_law x rest).0 w.0, (distinct_law rest).0 w.1) refl),
  (λ w. let p = clear_and (list_any (nat_eq x) rest) (are_distinct rest) w in ((others_law x rest).1 p.0, (distinct_law rest).1 p.1)),
)

-- ---- a block identifier

pub names_law : (t : Table) (bid : ℕ) (xs : List Sub) → NamesList t bid xs ↔ ((list_fault t bid ≡ None) × (xs ≡ subs_at (block_subs t) (entry_of t bid)))
unfolding list_fault list_block_fault
names_law t bid xs = (
  (λ w.
      let p = (shape_law t w.0 xs).0 w.3 in
      let apart : are_distinct (map sub_nid (block_subs t w.0)) ≡ true = rw (← p.1) ((distinct_law (map sub_nid xs)).0 w.4) in
      (rw (w.1, w.2) (then_none _ _ p.0 ∙ holds_or_true _ _ apart), p.1 ∙ sym (ap (subs_at (block_subs t)) w.1))),
  (λ w.
      let x = there_is (block_missing bid) (λ e. if is_internal bid then (shape_fault t e then holds_or (are_distinct (map sub_nid (block_subs t e))) (bad_list e)) else Some (bad_list e)) (entry_of t bid) w.0 in
      let s = guard_then (is_internal bid) _ (bad_list x.0) x.2 in
      let p = none_then (shape_fault t x.0) _ s.1 in
      let is : xs ≡ block_subs t x.0 = w.1 ∙ ap (subs_at (block_subs t)) x.1 in
      let apart : are_distinct (map sub_nid xs) ≡ true = rw is (holds_or_none _ _ p.1) in
      (x.0, x.1, s.0, (shape_law t x.0 xs).1 (p.0, is), (distinct_law (map sub_nid xs)).1 apart)),
)
