-- The first leaf with a record from a key on, item by item.
use Rattle.std.proofs.Common.{◌≡◌, ℕ, ◌+◌, ◌-◌, ◌<◌, List, [], ◌∷◌, ◌++◌, map, Some, None, refl, sym, ap, subst, ◌∙◌, arith, append_assoc, inl, inr}
use Rattle.std.proofs.lemmas.List.{append-nil}
use Rattle.std.proofs.lemmas.Bool.{cases_lt}
use Rattle.pst_bytes.specs.declared.span.Span.{Span}
use Rattle.pst_btree.specs.Order.{Rises}
use Rattle.pst_heap.specs.Values.{HeapData}
use Rattle.pst_bth.specs.declared.sizes.Sizes.{Sizes}
use Rattle.pst_bth.specs.declared.leaf.Leaf.{Leaf}
use Rattle.pst_bth.specs.Rows.{row_key, row_count, row_place, rows_at, rows_from}
use Rattle.pst_bth.specs.Rows.{leaf_size, branch_size}
use Rattle.pst_bth.specs.Values.{item_at, rows_below, tree_rows}
use Rattle.pst_bth.specs.Fault.{bth_children_fault, bth_tree_fault}
use Rattle.pst_bth.specs.Find.{rows_from_key, IsUpToKey, HasBthTree}
use Rattle.pst_bth.specs.Leaf.{BeginsAt, HasLeaf}
use Rattle.pst_bth.proofs.RowLemmas.{rows_before, rows_at_split, rows_before_none, rows_before_next, rows_before_all}
use Rattle.pst_bth.proofs.RestLemmas.{rest_skip, rest_lower}
use Rattle.pst_bth.proofs.FindLemmas.{branch_good, rows_of_branch, rows_below_append, rows_below_first, rows_below_nil, before_lower}
use Rattle.pst_bth.proofs.TreeLaws.{tree_rises}

-- ---- a leaf alone

pub leaf_alone : (I : List ℕ) (cb size low : ℕ) (leaf : Leaf) (rows : List ℕ) → rows ≡ rows_at size leaf.item → BeginsAt I cb size leaf.item low leaf.first → HasLeaf I cb size low leaf rows
leaf_alone I cb size low leaf rows is b = record { begins = b; before = []; after = []; parts = is ∙ sym (append-nil (rows_at size leaf.item)); lower = refl }

-- ---- the children before one, all of whose keys are lower

module _ (I : List ℕ) (cb size : ℕ) (s : Span) (below : ℕ → List ℕ) where
  pub skip_none : (low : ℕ) → rows_from_key I cb low (rows_below below cb (rows_before size s 0)) ≡ []
  skip_none low = ap (λ (xs : List ℕ). rows_from_key I cb low (rows_below below cb xs)) (rows_before_none size s) ∙ ap (rows_from_key I cb low) (rows_below_nil below cb)

  pub skip_next : (low i : ℕ) → rows_from_key I cb low (rows_below below cb (rows_before size s i)) ≡ [] → rows_from_key I cb low (below (row_place size s i + cb)) ≡ [] → rows_from_key I cb low (rows_below below cb (rows_before size s (i + 1))) ≡ []
  skip_next low i a b =
      let at = row_place size s i in
      ap (λ (xs : List ℕ). rows_from_key I cb low (rows_below below cb xs)) (rows_before_next size s i)
      ∙ ap (rows_from_key I cb low) (rows_below_append below cb (rows_before size s i) (at ∷ []))
      ∙ rest_skip I cb low (rows_below below cb (rows_before size s i)) (rows_below below cb (at ∷ [])) a
      ∙ ap (rows_from_key I cb low) (rows_below_first below cb at [] ∙ ap (λ (xs : List ℕ). below (at + cb) ++ xs) (rows_below_nil below cb) ∙ append-nil (below (at + cb)))
      ∙ b

  -- a leaf below a child is one of all children
  pub leaf_of_child : (leaf_of low i : ℕ) (leaf : Leaf) → i < row_count size s → rows_from_key I cb low (rows_below below cb (rows_before size s i)) ≡ [] → HasLeaf I cb leaf_of low leaf (below (row_place size s i + cb))
      → HasLeaf I cb leaf_of low leaf (rows_below below cb (rows_at size s))
  leaf_of_child leaf_of low i leaf lt skipped has =
      let at = row_place size s i in
      let front = rows_below below cb (rows_before size s i) in
      let behind = rows_below below cb (rows_from size s (i + 1)) in
      let here = rows_at leaf_of leaf.item in
      record {
        begins = has.begins;
        before = front ++ has.before;
        after = has.after ++ behind;
        parts =
            ap (rows_below below cb) (rows_at_split size s i lt)
            ∙ rows_below_append below cb (rows_before size s i) (at ∷ rows_from size s (i + 1))
            ∙ ap (λ (xs : List ℕ). front ++ xs) (rows_below_first below cb at (rows_from size s (i + 1)))
            ∙ ap (λ (xs : List ℕ). front ++ (xs ++ behind)) has.parts
            ∙ ap (λ (xs : List ℕ). front ++ xs) (append_assoc has.before (here ++ has.after) behind ∙ ap (λ (xs : List ℕ). has.before ++ xs) (append_assoc here has.after behind))
            ∙ sym (append_assoc front has.before (here ++ (has.after ++ behind)));
        lower = rest_skip I cb low front has.before skipped ∙ has.lower;
      }

-- ---- a branch

pub skip_start : (h : HeapData) (z : Sizes) (level below named : ℕ) (s : Span) (low n : ℕ) → HasBthTree h z level named → item_at h named ≡ Some s → level ≡ below + 1 → IsUpToKey h.image z.key (branch_size z) s low n
    → rows_from_key h.image z.key low (rows_below (tree_rows h z below) z.key (rows_before (branch_size z) s (n - 1))) ≡ []
skip_start h z level below named s low n t is e u =
    let size = branch_size z in
    let I = h.image in
    let cb = z.key in
    elim (cases_lt 0 n) [
      | inl pos ↦
          let g = branch_good h z level below named s t is e in
          let split = rows_at_split size s (n - 1) (omega (arith, u.within)) in
          let r = subst (λ (xs : List ℕ). Rises t.low t.high (map (row_key I cb) xs)) split g.rises in
          let c = subst (λ (xs : List ℕ). bth_children_fault I cb (bth_tree_fault h z below) t.high xs ≡ None) split g.children in
          rest_lower I cb low t.low (row_key I cb (row_place size s (n - 1))) (rows_below (tree_rows h z below) cb (rows_before size s (n - 1))) (u.before pos)
          (before_lower I cb (bth_tree_fault h z below) (tree_rows h z below) (tree_rises h z below) t.low t.high (rows_before size s (n - 1)) (row_place size s (n - 1)) (rows_from size s ((n - 1) + 1)) r c)
      | inr le ↦
          let none : n - 1 ≡ 0 = omega (arith, le) in
          ap (λ (i : ℕ). rows_from_key I cb low (rows_below (tree_rows h z below) cb (rows_before size s i))) none ∙ skip_none I cb size s (tree_rows h z below) low
    ]

pub skip_end : (h : HeapData) (z : Sizes) (level below named : ℕ) (s : Span) (low i : ℕ) → item_at h named ≡ Some s → level ≡ below + 1 → i ≡ row_count (branch_size z) s
    → rows_from_key h.image z.key low (rows_below (tree_rows h z below) z.key (rows_before (branch_size z) s i)) ≡ [] → rows_from_key h.image z.key low (tree_rows h z level named) ≡ []
skip_end h z level below named s low i is e all skipped =
    ap (rows_from_key h.image z.key low) (rows_of_branch h z level below named s is e ∙ ap (rows_below (tree_rows h z below) z.key) (sym (ap (rows_before (branch_size z) s) all ∙ rows_before_all (branch_size z) s))) ∙ skipped

pub leaf_of_branch : (h : HeapData) (z : Sizes) (level below named : ℕ) (s : Span) (low i : ℕ) (leaf : Leaf) → item_at h named ≡ Some s → level ≡ below + 1 → i < row_count (branch_size z) s
    → rows_from_key h.image z.key low (rows_below (tree_rows h z below) z.key (rows_before (branch_size z) s i)) ≡ []
    → HasLeaf h.image z.key (leaf_size z) low leaf (tree_rows h z below (row_place (branch_size z) s i + z.key)) → HasLeaf h.image z.key (leaf_size z) low leaf (tree_rows h z level named)
leaf_of_branch h z level below named s low i leaf is e lt skipped has =
    rw (rows_of_branch h z level below named s is e) (leaf_of_child h.image z.key (branch_size z) s (tree_rows h z below) (leaf_size z) low i leaf lt skipped has)
