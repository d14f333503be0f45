-- The grammar of the items of a BTH below its header, and their first fault and records, say the same.
use Rattle.std.proofs.Common.{◌≡◌, ℕ, suc, zero, ◌+◌, ◌<◌, List, [], ◌∷◌, ◌++◌, map, Option, None, refl, ap, ◌∙◌, ◌↔◌}
use Rattle.std.proofs.lemmas.Bool.{ltb-true, lt-ltb}
use Rattle.pst_bytes.specs.declared.span.Span.{Span}
use Rattle.pst_btree.specs.Order.{Rises}
use Rattle.pst_fault.proofs.FirstLemmas.{none_then, both_none, holds_or_none, holds_or_true}
use Rattle.pst_heap.specs.Values.{HeapData}
use Rattle.pst_fault.proofs.EachLemmas.{there_is}
use Rattle.pst_heap.specs.Fault.{no_item}
use Rattle.pst_bth.specs.declared.sizes.Sizes.{Sizes}
use Rattle.pst_bth.specs.Rows.{row_key, row_count, rows_at}
use Rattle.pst_bth.specs.Rows.{leaf_size, branch_size}
use Rattle.pst_bth.specs.Values.{item_at, rows_below, tree_rows}
use Rattle.pst_bth.specs.Fault.{BthVisit, bth_children_fault, bth_leaf_fault, bth_branch_fault, bth_below_fault, bth_tree_fault}
use Rattle.pst_bth.specs.Grammar.{BthItem, AreBelow, IsBthLeaf, IsBthBranch, IsBthTree}
use Rattle.pst_bth.proofs.OrderLemmas.{order_law}
use Rattle.pst_bth.proofs.RiseLemmas.{rows_rise}

-- items that are as told, each by its function, are as told together
module _ (I : List ℕ) (cb : ℕ) (Is : BthItem) (visit : BthVisit) (below : ℕ → List ℕ)
    (law : (named low : ℕ) (high : Option ℕ) (rows : List ℕ) → Is named low high rows ↔ ((visit named low high ≡ None) × (rows ≡ below named))) where
  below_law : (high : Option ℕ) (ats rows : List ℕ) → AreBelow I cb Is high ats rows ↔ ((bth_children_fault I cb visit high ats ≡ None) × (rows ≡ rows_below below cb ats))
  unfolding bth_children_fault rows_below
  below_law high [] rows = ((λ e. (refl, e)), (λ w. w.1))
  below_law high (at ∷ rest) rows = (
    (λ w.
        let first = (law _ _ _ w.0).0 w.2 in
        let more = (below_law high rest w.1).0 w.3 in
        (both_none _ _ first.0 more.0, w.4 ∙ ap (λ (xs : List ℕ). xs ++ w.1) first.1 ∙ ap (λ (xs : List ℕ). below (at + cb) ++ xs) more.1)),
    (λ w.
        let b = none_then _ _ w.0 in
        (below (at + cb), rows_below below cb rest, (law _ _ _ _).1 (b.0, refl), (below_law high rest _).1 (b.1, refl), w.1)),
  )

bth_leaf_law : (h : HeapData) (z : Sizes) (named low : ℕ) (high : Option ℕ) (rows : List ℕ) → IsBthLeaf h z named low high rows ↔ ((bth_tree_fault h z 0 named low high ≡ None) × (rows ≡ tree_rows h z 0 named))
unfolding bth_tree_fault tree_rows bth_leaf_fault
bth_leaf_law h z named low high rows = (
  (λ w. (rw w.1 ((order_law h.image z.key low high _).0 (rw w.2 at w.3)), rw w.1 w.2)),
  (λ w.
      let t = there_is (no_item named) (bth_leaf_fault h z low high) (item_at h named) w.0 in
      let is : rows ≡ rows_at (leaf_size z) t.0 = (rw t.1 at w.1) in
      (t.0, t.1, is, rw is ((order_law h.image z.key low high _).1 t.2))),
)

pub branch_law : (h : HeapData) (z : Sizes) (low : ℕ) (high : Option ℕ) (s : Span)
    → ((0 < row_count (branch_size z) s) × Rises low high (map (row_key h.image z.key) (rows_at (branch_size z) s))) ↔ (bth_branch_fault h z low high s ≡ None)
unfolding bth_branch_fault
branch_law h z low high s = (
  (λ w. both_none _ _ (holds_or_true _ _ (lt-ltb _ _ w.0)) ((order_law h.image z.key low high _).0 w.1)),
  (λ e. let b = none_then _ _ e in (ltb-true _ _ (holds_or_none _ _ b.0), (order_law h.image z.key low high _).1 b.1)),
)

-- a branch, where the law holds of the items that it names
tree_step : (h : HeapData) (z : Sizes) (level named low : ℕ) (high : Option ℕ) (rows : List ℕ)
    → ((high : Option ℕ) (ats rows : List ℕ) → AreBelow h.image z.key (IsBthTree h z level) high ats rows ↔ ((bth_children_fault h.image z.key (bth_tree_fault h z level) high ats ≡ None) × (rows ≡ rows_below (tree_rows h z level) z.key ats)))
    → IsBthBranch h z (IsBthTree h z level) named low high rows ↔ ((bth_tree_fault h z (suc level) named low high ≡ None) × (rows ≡ tree_rows h z (suc level) named))
unfolding bth_tree_fault tree_rows bth_below_fault
tree_step h z level named low high rows more = (
  (λ w.
      let m = (more high (rows_at (branch_size z) w.0) rows).0 w.4 in
      (rw w.1 (both_none _ _ ((branch_law h z low high w.0).0 (w.2, w.3)) m.0), rw w.1 m.1)),
  (λ w.
      let t = there_is (no_item named) (bth_below_fault h z (bth_tree_fault h z level) low high) (item_at h named) w.0 in
      let b = none_then (bth_branch_fault h z low high t.0) _ t.2 in
      let a = (branch_law h z low high t.0).1 b.0 in
      let is : rows ≡ rows_below (tree_rows h z level) z.key (rows_at (branch_size z) t.0) = (rw t.1 at w.1) in
      (t.0, t.1, a.0, a.1, (more high (rows_at (branch_size z) t.0) rows).1 (b.1, is))),
)

pub bth_tree_law : (h : HeapData) (z : Sizes) (level named low : ℕ) (high : Option ℕ) (rows : List ℕ) → IsBthTree h z level named low high rows ↔ ((bth_tree_fault h z level named low high ≡ None) × (rows ≡ tree_rows h z level named))
unfolding IsBthTree
bth_tree_law h z zero named low high rows = bth_leaf_law h z named low high rows
bth_tree_law h z (suc level) named low high rows =
    tree_step h z level named low high rows (below_law h.image z.key (IsBthTree h z level) (bth_tree_fault h z level) (tree_rows h z level) (bth_tree_law h z level))

pub tree_rises : (h : HeapData) (z : Sizes) (level named low : ℕ) (high : Option ℕ) → bth_tree_fault h z level named low high ≡ None → Rises low high (map (row_key h.image z.key) (tree_rows h z level named))
unfolding bth_tree_fault tree_rows bth_leaf_fault bth_below_fault
tree_rises h z zero named low high e =
    let t = there_is (no_item named) (bth_leaf_fault h z low high) (item_at h named) e in
    rw t.1 ((order_law h.image z.key low high _).1 t.2)
tree_rises h z (suc level) named low high e =
    let t = there_is (no_item named) (bth_below_fault h z (bth_tree_fault h z level) low high) (item_at h named) e in
    let b = none_then (bth_branch_fault h z low high t.0) _ t.2 in
    let a = (branch_law h z low high t.0).1 b.0 in
    rw t.1 (rows_rise h.image z.key (bth_tree_fault h z level) (tree_rows h z level) (tree_rises h z level) low high (rows_at (branch_size z) t.0) a.1 b.1)
