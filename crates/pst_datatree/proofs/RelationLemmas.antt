-- The grammar of data trees, and their first faults and spans, say the same.
use Rattle.std.proofs.Common.{◌≡◌, ℕ, true, false, List, Some, None, refl, sym, ap, ◌∙◌, arith, ◌⊎◌, inl, inr, ◌↔◌}
use Rattle.std.specs.Prelude.{nat_eq, if◌then◌else◌}
use Rattle.std.proofs.lemmas.Bool.Decides.{nat_tests}
use Rattle.pst_bytes.specs.declared.span.Span.{Span}
use Rattle.pst_fault.specs.First.{◌then◌, holds_or, first_below, join_below}
use Rattle.pst_fault.proofs.FirstLemmas.{none_then, then_none, holds_or_none, holds_or_true, guard_then}
use Rattle.pst_fault.proofs.EachLemmas.{there_is}
use Rattle.pst_fault.proofs.JoinLemmas.{joined_law}
use Rattle.pst_fault.proofs.GeneralLemmas.{number_of_test, test_of_number}
use Rattle.pst_page.specs.declared.entry.BlockEntry.{BlockEntry}
use Rattle.pst_block.specs.Table.{Table, entry_of, body_of}
use Rattle.pst_datatree.specs.declared.named.Named.{Named}
use Rattle.pst_datatree.specs.declared.named.Named.TheVariants.{Nothing, Missing, Data, Xblock, Xxblock}
use Rattle.pst_datatree.specs.Bid.{is_internal}
use Rattle.pst_datatree.specs.Named.{named_by}
use Rattle.pst_datatree.specs.List.{count_in, total_in, bid_in, is_block_list, has_level_two}
use Rattle.pst_datatree.specs.Data.{size_of, spans_at, data_block_spans, block_missing, bad_tree, leaf_spans, data_leaf_fault, xblock_spans, xblock_fault, child_spans, child_fault, xxblock_spans, xxblock_fault, named_spans, data_spans, named_fault, data_fault}
use Rattle.pst_datatree.specs.Relation.{IsDataLeaf, IsXblock, IsChild, IsXxblock, IsDataBlock, IsDataTree, HasData, DataLaw}
use Rattle.pst_datatree.proofs.AddLemmas.{leaf_external}
use Rattle.pst_datatree.proofs.NamedLemmas.{IsThere, IsNamed, named_is}

leaf_law : (t : Table) (e : BlockEntry) (i : ℕ) (xs : List Span) → IsDataLeaf t e i xs ↔ ((data_leaf_fault t e i ≡ None) × (xs ≡ leaf_spans t (body_of t e) i))
unfolding data_leaf_fault leaf_spans
leaf_law t e i xs =
    let bid = bid_in (body_of t e) i in (
      (λ w. (rw (w.1, w.2) refl, w.3 ∙ sym (rw w.1 refl))),
      (λ w.
          let x = there_is (block_missing bid) (λ _. if is_internal bid then Some (bad_tree e) else None) (entry_of t bid) w.0 in
          (x.0, x.1, leaf_external t e i w.0, w.1 ∙ ap (spans_at data_block_spans) x.1)),
    )

xblock_law : (t : Table) (e : BlockEntry) (xs : List Span) → IsXblock t e xs ↔ ((xblock_fault t e ≡ None) × (xs ≡ xblock_spans t e))
unfolding xblock_fault xblock_spans
xblock_law t e xs =
    let body = body_of t e in
    let law = joined_law (IsDataLeaf t e) (data_leaf_fault t e) (leaf_spans t body) (leaf_law t e) (count_in body) xs in (
      (λ w.
          let j = law.0 w.1 in
          let total : nat_eq (size_of (join_below (leaf_spans t body) (count_in body))) (total_in body) ≡ true = rw (← j.1) (rw w.2 (test_of_number (total_in body) (total_in body) refl)) in
          (then_none _ _ (holds_or_true _ _ w.0) ∙ (then_none _ _ j.0 ∙ holds_or_true _ _ total), j.1)),
      (λ w.
          let p = none_then (holds_or (is_block_list 1 body) (bad_tree e)) _ w.0 in
          let q = none_then (first_below (data_leaf_fault t e) (count_in body)) _ p.1 in
          let total = holds_or_none _ _ q.1 in
          (holds_or_none _ _ p.0, law.1 (q.0, w.1), rw w.1 (number_of_test _ _ total))),
    )

child_law : (t : Table) (e : BlockEntry) (i : ℕ) (xs : List Span) → IsChild t e i xs ↔ ((child_fault t e i ≡ None) × (xs ≡ child_spans t (body_of t e) i))
unfolding child_fault child_spans
child_law t e i xs =
    let bid = bid_in (body_of t e) i in (
      (λ w.
          let b = (xblock_law t w.0 xs).0 w.3 in
          (rw (w.1, w.2) b.0, b.1 ∙ sym (ap (spans_at (xblock_spans t)) w.1))),
      (λ w.
          let x = there_is (block_missing bid) (λ e'. if is_internal bid then xblock_fault t e' else Some (bad_tree e)) (entry_of t bid) w.0 in
          let s = guard_then (is_internal bid) (xblock_fault t x.0) (bad_tree e) x.2 in
          (x.0, x.1, s.0, (xblock_law t x.0 xs).1 (s.1, w.1 ∙ ap (spans_at (xblock_spans t)) x.1))),
    )

xxblock_law : (t : Table) (e : BlockEntry) (xs : List Span) → IsXxblock t e xs ↔ ((xxblock_fault t e ≡ None) × (xs ≡ xxblock_spans t e))
unfolding xxblock_fault xxblock_spans
xxblock_law t e xs =
    let body = body_of t e in
    let law = joined_law (IsChild t e) (child_fault t e) (child_spans t body) (child_law t e) (count_in body) xs in (
      (λ w.
          let j = law.0 w.1 in
          let total : nat_eq (size_of (join_below (child_spans t body) (count_in body))) (total_in body) ≡ true = rw (← j.1) (rw w.2 (test_of_number (total_in body) (total_in body) refl)) in
          (then_none _ _ (holds_or_true _ _ w.0) ∙ (then_none _ _ j.0 ∙ holds_or_true _ _ total), j.1)),
      (λ w.
          let p = none_then (holds_or (is_block_list 2 body) (bad_tree e)) _ w.0 in
          let q = none_then (first_below (child_fault t e) (count_in body)) _ p.1 in
          let total = holds_or_none _ _ q.1 in
          (holds_or_none _ _ p.0, law.1 (q.0, w.1), rw w.1 (number_of_test _ _ total))),
    )

-- ---- an internal block: which of the two it can be

level_one : (body : List ℕ) → is_block_list 1 body ≡ true → has_level_two body ≡ false
unfolding is_block_list has_level_two
level_one body h = grind (arith, nat_tests)

level_two : (body : List ℕ) → is_block_list 2 body ≡ true → has_level_two body ≡ true
unfolding is_block_list has_level_two
level_two body h = grind (arith, nat_tests)

-- what an identifier names
named_law : (t : Table) (bid : ℕ) (n : Named) (xs : List Span) → IsNamed t bid n → named_fault t bid n ≡ None → xs ≡ named_spans t n → HasData t bid xs
named_law t bid Nothing xs is none same = inl (is, same)
named_law t bid Missing xs is none same = cc
named_law t bid (Data e) xs is none same = inr (is.0.0, (e, is.0.1, inl (is.1, same)))
named_law t bid (Xblock e) xs is none same = inr (is.0.0, (e, is.0.1, inr (is.1, inl ((xblock_law t e xs).1 (none, same)))))
named_law t bid (Xxblock e) xs is none same = inr (is.0.0, (e, is.0.1, inr (is.1, inr ((xxblock_law t e xs).1 (none, same)))))

pub data_law : DataLaw
unfolding data_fault data_spans named_by
data_law t bid xs = (to, λ w. named_law t bid (named_by t bid) xs (named_is t bid) w.0 w.1)
  where
    of_block : (e : BlockEntry) → IsThere t bid e → (IsDataBlock t e xs ⊎ IsDataTree t e xs) → (named_fault t bid (named_by t bid) ≡ None) × (xs ≡ named_spans t (named_by t bid))
    of_block e there (inl w) = (rw (there.0, there.1, w.0) refl, rw (there.0, there.1, w.0) w.1)
    of_block e there (inr w) = elim w.1 [
      | inl one ↦ let level = level_one (body_of t e) one.0 in rw (there.0, there.1, w.0, level) ((xblock_law t e xs).0 one)
      | inr two ↦ let level = level_two (body_of t e) two.0 in rw (there.0, there.1, w.0, level) ((xxblock_law t e xs).0 two)
    ]

    to : HasData t bid xs → (named_fault t bid (named_by t bid) ≡ None) × (xs ≡ named_spans t (named_by t bid))
    to (inl w) = (rw w.0 refl, rw w.0 w.1)
    to (inr w) = of_block w.1.0 (w.0, w.1.1) w.1.2
