-- Steps of the check of a tree.
use Rattle.std.proofs.Common.{◌≡◌, ℕ, suc, zero, ◌+◌, ◌*◌, ◌<◌, List, [], Option, Some, None, refl, sym, ap, ◌∙◌, arith}
use Rattle.pst_bytes.specs.declared.span.Span.{Span}
use Rattle.pst_bytes.specs.Image.{num}
use Rattle.pst_fault.specs.declared.fault.Fault.{Fault}
use Rattle.pst_fault.specs.First.{◌then◌}
use Rattle.pst_fault.proofs.FirstLemmas.{then_some, then_none}
use Rattle.pst_heap.specs.Values.{HeapData, item_of}
use Rattle.pst_heap.specs.Fault.{no_item}
use Rattle.pst_bth.specs.declared.sizes.Sizes.{Sizes}
use Rattle.pst_bth.specs.Rows.{row_key, row_count, rows_at, rows_from}
use Rattle.pst_bth.specs.Rows.{next_row_key}
use Rattle.pst_bth.specs.Rows.{branch_size}
use Rattle.pst_bth.specs.Values.{item_at}
use Rattle.pst_bth.specs.Fault.{BthVisit, bth_children_fault, bth_leaf_fault, bth_branch_fault, bth_below_fault, bth_tree_fault}
use Rattle.pst_bth.proofs.RowLemmas.{rows_start, rows_next}

-- ---- the item

pub tree_none : (h : HeapData) (z : Sizes) (level named low : ℕ) (high : Option ℕ) → item_at h named ≡ None → bth_tree_fault h z level named low high ≡ Some (no_item named)
unfolding bth_tree_fault
tree_none h z zero named low high is = rw is refl
tree_none h z (suc level) named low high is = rw is refl

pub tree_leaf : (h : HeapData) (z : Sizes) (level named low : ℕ) (high : Option ℕ) (s : Span) → item_at h named ≡ Some s → level ≡ 0 → bth_tree_fault h z level named low high ≡ bth_leaf_fault h z low high s
unfolding bth_tree_fault
tree_leaf h z zero named low high s is e = rw is refl
tree_leaf h z (suc level) named low high s is e = absurd (omega arith)

pub tree_branch : (h : HeapData) (z : Sizes) (level below named low : ℕ) (high : Option ℕ) (s : Span) → item_at h named ≡ Some s → level ≡ below + 1
    → bth_tree_fault h z level named low high ≡ (bth_branch_fault h z low high s then bth_children_fault h.image z.key (bth_tree_fault h z below) high (rows_at (branch_size z) s))
unfolding bth_tree_fault bth_below_fault
tree_branch h z zero below named low high s is e = absurd (omega arith)
tree_branch h z (suc level) below named low high s is e =
    let same : level ≡ below = omega arith in
    rw (is, same) refl

-- a branch that is refused
pub tree_branch_fails : (h : HeapData) (z : Sizes) (level below named low : ℕ) (high : Option ℕ) (s : Span) (f : Fault) → item_at h named ≡ Some s → level ≡ below + 1 → bth_branch_fault h z low high s ≡ Some f
    → bth_tree_fault h z level named low high ≡ Some f
tree_branch_fails h z level below named low high s f is e failed = tree_branch h z level below named low high s is e ∙ then_some _ _ f failed

-- a branch that is not leaves the items below it
pub tree_branch_left : (h : HeapData) (z : Sizes) (level below named low : ℕ) (high : Option ℕ) (s : Span) → item_at h named ≡ Some s → level ≡ below + 1 → bth_branch_fault h z low high s ≡ None
    → bth_children_fault h.image z.key (bth_tree_fault h z below) high (rows_from (branch_size z) s 0) ≡ bth_tree_fault h z level named low high
tree_branch_left h z level below named low high s is e passed =
    ap (bth_children_fault h.image z.key (bth_tree_fault h z below) high) (rows_start (branch_size z) s) ∙ sym (tree_branch h z level below named low high s is e ∙ then_none _ _ passed)

-- ---- the items below

pub bth_children_done : (I : List ℕ) (cb : ℕ) (visit : BthVisit) (high : Option ℕ) → bth_children_fault I cb visit high [] ≡ None
unfolding bth_children_fault
bth_children_done I cb visit high = refl

-- one that fails ends the check of its branch
pub bth_child_fails : (I : List ℕ) (cb size : ℕ) (visit : BthVisit) (high : Option ℕ) (s : Span) (i : ℕ) (total : Option Fault) (f : Fault) (named key : ℕ) (bound : Option ℕ)
    → i < row_count size s → named ≡ s.at + i * size + cb → key ≡ row_key I cb (s.at + i * size) → bound ≡ next_row_key I cb (rows_from size s (i + 1)) high
    → visit named key bound ≡ Some f → bth_children_fault I cb visit high (rows_from size s i) ≡ total → total ≡ Some f
unfolding bth_children_fault
bth_child_fails I cb size visit high s i total f named key bound lt a b c e so_far =
    let at = s.at + i * size in
    let one : visit (at + cb) (row_key I cb at) (next_row_key I cb (rows_from size s (i + 1)) high) ≡ Some f = rw (← a, ← b, ← c) e in
    sym so_far ∙ rw (rows_next size s i lt) (then_some _ _ f one)

-- one that does not leaves the rest
pub bth_child_goes_on : (I : List ℕ) (cb size : ℕ) (visit : BthVisit) (high : Option ℕ) (s : Span) (i : ℕ) (total : Option Fault) (named key : ℕ) (bound : Option ℕ)
    → i < row_count size s → named ≡ s.at + i * size + cb → key ≡ row_key I cb (s.at + i * size) → bound ≡ next_row_key I cb (rows_from size s (i + 1)) high
    → visit named key bound ≡ None → bth_children_fault I cb visit high (rows_from size s i) ≡ total → bth_children_fault I cb visit high (rows_from size s (i + 1)) ≡ total
unfolding bth_children_fault
bth_child_goes_on I cb size visit high s i total named key bound lt a b c e so_far =
    let at = s.at + i * size in
    let one : visit (at + cb) (row_key I cb at) (next_row_key I cb (rows_from size s (i + 1)) high) ≡ None = rw (← a, ← b, ← c) e in
    let step : bth_children_fault I cb visit high (rows_from size s i) ≡ bth_children_fault I cb visit high (rows_from size s (i + 1)) = rw (rows_next size s i lt) (then_none _ _ one) in
    sym step ∙ so_far

-- the item that is looked up by the identifier that stands there
pub item_at_is : (h : HeapData) (named hid : ℕ) (o : Option Span) → hid ≡ num h.image named 4 → o ≡ item_of h hid → item_at h named ≡ o
unfolding item_at
item_at_is h named hid o a b = rw (b, a) refl
