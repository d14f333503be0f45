-- Look-ups in a tree, item by item.
use Rattle.std.proofs.Common.{◌≡◌, ◌≢◌, ℕ, zero, suc, ◌+◌, ◌-◌, ◌<◌, ◌≤◌, List, [], ◌∷◌, ◌++◌, map, Option, Some, None, refl, sym, ap, subst, ◌∙◌, arith, inl, inr, append_assoc}
use Rattle.std.proofs.lemmas.Bool.{cases_lt}
use Rattle.pst_bytes.specs.declared.span.Span.{Span}
use Rattle.pst_btree.specs.Entries.{first_with}
use Rattle.pst_btree.specs.Order.{Rises}
use Rattle.pst_fault.proofs.FirstLemmas.{none_then, both_none}
use Rattle.pst_fault.proofs.EachLemmas.{there_is}
use Rattle.pst_heap.specs.Fault.{no_item}
use Rattle.pst_heap.specs.Values.{HeapData}
use Rattle.pst_bth.specs.declared.sizes.Sizes.{Sizes}
use Rattle.pst_bth.specs.Rows.{row_key, row_count, row_place, rows_at, rows_from}
use Rattle.pst_bth.specs.Rows.{next_row_key}
use Rattle.pst_bth.specs.Rows.{leaf_size, branch_size}
use Rattle.pst_bth.specs.Values.{item_at, rows_below, tree_rows}
use Rattle.pst_bth.specs.Fault.{BthVisit, bth_children_fault, bth_leaf_fault, bth_branch_fault, bth_below_fault, bth_tree_fault}
use Rattle.pst_bth.specs.Find.{IsUpToKey, HasBthTree}
use Rattle.pst_bth.proofs.RowLemmas.{rows_start, rows_next, rows_end, rows_before, rows_at_split}
use Rattle.pst_bth.proofs.KeyLemmas.{IsAbove, first_skip, first_front, first_here, first_later, first_nil, first_lower, first_higher, first_above, rises_front, rises_back, from_first, find_at}
use Rattle.pst_bth.proofs.RiseLemmas.{rows_rise}
use Rattle.pst_bth.proofs.TreeLaws.{branch_law, tree_rises}

-- ---- the records behind those whose keys are at most a key

pub above_from : (I : List ℕ) (cb size : ℕ) (s : Span) (key n : ℕ) → IsUpToKey I cb size s key n → IsAbove (row_key I cb) key (rows_from size s n)
above_from I cb size s key n u =
    elim (cases_lt n (row_count size s)) [
      | inl lt ↦ rw (rows_next size s n lt) (u.after lt)
      | inr le ↦ rw (rows_end size s n le) tt
    ]

-- ---- a leaf

pub find_none : (I : List ℕ) (cb size : ℕ) (s : Span) (key low : ℕ) (high : Option ℕ) (n : ℕ) → Rises low high (map (row_key I cb) (rows_at size s)) → IsUpToKey I cb size s key n → n ≡ 0 → first_with (row_key I cb) key (rows_at size s) ≡ None
find_none I cb size s key low high n r u e =
    let start : rows_from size s n ≡ rows_at size s = ap (rows_from size s) e ∙ rows_start size s in
    first_above (row_key I cb) key low high (rows_at size s) (subst (IsAbove (row_key I cb) key) start (above_from I cb size s key n u)) r

find_row : (I : List ℕ) (cb size : ℕ) (s : Span) (key low : ℕ) (high : Option ℕ) (n : ℕ) → Rises low high (map (row_key I cb) (rows_at size s)) → IsUpToKey I cb size s key n → 0 < n
    → first_with (row_key I cb) key (rows_at size s) ≡ first_with (row_key I cb) key (row_place size s (n - 1) ∷ [])
find_row I cb size s key low high n r u pos =
    let next : (n - 1) + 1 ≡ n = omega arith in
    let split : rows_at size s ≡ rows_before size s (n - 1) ++ row_place size s (n - 1) ∷ rows_from size s n =
    rows_at_split size s (n - 1) (omega (arith, u.within)) ∙ ap (λ (i : ℕ). rows_before size s (n - 1) ++ row_place size s (n - 1) ∷ rows_from size s i) next in
    ap (first_with (row_key I cb) key) split
    ∙ find_at (row_key I cb) key low high (rows_before size s (n - 1)) (row_place size s (n - 1)) (rows_from size s n)
    (subst (λ (xs : List ℕ). Rises low high (map (row_key I cb) xs)) split r) (u.before pos) (above_from I cb size s key n u)

pub find_is : (I : List ℕ) (cb size : ℕ) (s : Span) (key low : ℕ) (high : Option ℕ) (n : ℕ) → Rises low high (map (row_key I cb) (rows_at size s)) → IsUpToKey I cb size s key n → 0 < n
    → row_key I cb (row_place size s (n - 1)) ≡ key → first_with (row_key I cb) key (rows_at size s) ≡ Some (row_place size s (n - 1))
find_is I cb size s key low high n r u pos e = find_row I cb size s key low high n r u pos ∙ first_here (row_key I cb) key (row_place size s (n - 1)) [] e

pub find_not : (I : List ℕ) (cb size : ℕ) (s : Span) (key low : ℕ) (high : Option ℕ) (n : ℕ) → Rises low high (map (row_key I cb) (rows_at size s)) → IsUpToKey I cb size s key n → 0 < n
    → row_key I cb (row_place size s (n - 1)) ≢ key → first_with (row_key I cb) key (rows_at size s) ≡ None
find_not I cb size s key low high n r u pos e =
    find_row I cb size s key low high n r u pos ∙ first_later (row_key I cb) key (row_place size s (n - 1)) [] e ∙ first_nil (row_key I cb) key

-- ---- the items below a branch, divided at a record

pub rows_below_append : (below : ℕ → List ℕ) (cb : ℕ) (xs ys : List ℕ) → rows_below below cb (xs ++ ys) ≡ rows_below below cb xs ++ rows_below below cb ys
unfolding rows_below
rows_below_append below cb [] ys = refl
rows_below_append below cb (x ∷ xs) ys =
    ap (λ (zs : List ℕ). below (x + cb) ++ zs) (rows_below_append below cb xs ys) ∙ sym (append_assoc (below (x + cb)) (rows_below below cb xs) (rows_below below cb ys))

pub children_front : (I : List ℕ) (cb : ℕ) (visit : BthVisit) (high : Option ℕ) (xs : List ℕ) (y : ℕ) (ys : List ℕ) → bth_children_fault I cb visit high (xs ++ y ∷ ys) ≡ None → bth_children_fault I cb visit (Some (row_key I cb y)) xs ≡ None
unfolding bth_children_fault
children_front I cb visit high [] y ys e = refl
children_front I cb visit high (x ∷ []) y ys e = both_none _ _ (none_then _ _ e).0 refl
children_front I cb visit high (x ∷ w ∷ xs) y ys e =
    both_none _ _ (none_then _ _ e).0 (children_front I cb visit high (w ∷ xs) y ys (none_then _ _ e).1)

pub children_back : (I : List ℕ) (cb : ℕ) (visit : BthVisit) (high : Option ℕ) (xs ys : List ℕ) → bth_children_fault I cb visit high (xs ++ ys) ≡ None → bth_children_fault I cb visit high ys ≡ None
unfolding bth_children_fault
children_back I cb visit high [] ys e = e
children_back I cb visit high (x ∷ xs) ys e = children_back I cb visit high xs ys (none_then _ _ e).1

-- the first child, and the others
pub children_first : (I : List ℕ) (cb : ℕ) (visit : BthVisit) (high : Option ℕ) (y : ℕ) (ys : List ℕ) → bth_children_fault I cb visit high (y ∷ ys) ≡ None → (visit (y + cb) (row_key I cb y) (next_row_key I cb ys high) ≡ None) × (bth_children_fault I cb visit high ys ≡ None)
unfolding bth_children_fault
children_first I cb visit high y ys e = none_then _ _ e

pub rows_below_first : (below : ℕ → List ℕ) (cb y : ℕ) (ys : List ℕ) → rows_below below cb (y ∷ ys) ≡ below (y + cb) ++ rows_below below cb ys
unfolding rows_below
rows_below_first below cb y ys = refl

pub rows_below_nil : (below : ℕ → List ℕ) (cb : ℕ) → rows_below below cb [] ≡ []
unfolding rows_below
rows_below_nil below cb = refl

module _ (I : List ℕ) (cb : ℕ) (visit : BthVisit) (below : ℕ → List ℕ) (rises : (named low : ℕ) (high : Option ℕ) → visit named low high ≡ None → Rises low high (map (row_key I cb) (below named))) where
  above_none : (key low : ℕ) (high : Option ℕ) (ys : List ℕ) → IsAbove (row_key I cb) key ys → Rises low high (map (row_key I cb) ys) → bth_children_fault I cb visit high ys ≡ None → first_with (row_key I cb) key (rows_below below cb ys) ≡ None
  above_none key low high [] above r e = rw (rows_below_nil below cb) (first_nil (row_key I cb) key)
  above_none key low high (y ∷ ys) above r e =
      let all = rows_rise I cb visit below rises (row_key I cb y) high (y ∷ ys) (from_first (row_key I cb) low high y ys r) e in
      higher all
    where
      higher : Rises (row_key I cb y) high (map (row_key I cb) (rows_below below cb (y ∷ ys))) → first_with (row_key I cb) key (rows_below below cb (y ∷ ys)) ≡ None
      higher all = first_higher (row_key I cb) key (row_key I cb y) high (rows_below below cb (y ∷ ys)) above all

  -- all keys before a record are lower than its own
  pub before_lower : (low : ℕ) (high : Option ℕ) (xs : List ℕ) (y : ℕ) (ys : List ℕ) → Rises low high (map (row_key I cb) (xs ++ y ∷ ys)) → bth_children_fault I cb visit high (xs ++ y ∷ ys) ≡ None
      → Rises low (Some (row_key I cb y)) (map (row_key I cb) (rows_below below cb xs))
  before_lower low high xs y ys r e =
      rows_rise I cb visit below rises low (Some (row_key I cb y)) xs (rises_front (row_key I cb) low high xs y ys r).0 (children_front I cb visit high xs y ys e)

  find_below : (key low : ℕ) (high : Option ℕ) (xs : List ℕ) (y : ℕ) (ys : List ℕ) → Rises low high (map (row_key I cb) (xs ++ y ∷ ys)) → bth_children_fault I cb visit high (xs ++ y ∷ ys) ≡ None → row_key I cb y ≤ key → IsAbove (row_key I cb) key ys
      → first_with (row_key I cb) key (rows_below below cb (xs ++ y ∷ ys)) ≡ first_with (row_key I cb) key (below (y + cb))
  find_below key low high xs y ys r e le above =
      let f = row_key I cb in
      let lower = first_lower f key low (f y) (rows_below below cb xs) le (before_lower low high xs y ys r e) in
      let back : Rises low high (map f (y ∷ ys)) = rises_back f low high xs (y ∷ ys) r in
      let behind = (children_first I cb visit high y ys (children_back I cb visit high xs (y ∷ ys) e)).1 in
      ap (first_with f key) (rows_below_append below cb xs (y ∷ ys))
      ∙ first_skip f key (rows_below below cb xs) (rows_below below cb (y ∷ ys)) lower
      ∙ ap (first_with f key) (rows_below_first below cb y ys)
      ∙ first_front f key (below (y + cb)) (rows_below below cb ys) (above_none key (f y + 1) high ys above back.2 behind)

-- ---- a tree

pub rows_of_leaf : (h : HeapData) (z : Sizes) (level named : ℕ) (s : Span) → item_at h named ≡ Some s → level ≡ 0 → tree_rows h z level named ≡ rows_at (leaf_size z) s
unfolding tree_rows
rows_of_leaf h z zero named s is e = rw is refl
rows_of_leaf h z (suc level) named s is e = absurd (omega arith)

pub rows_of_branch : (h : HeapData) (z : Sizes) (level below named : ℕ) (s : Span) → item_at h named ≡ Some s → level ≡ below + 1 → tree_rows h z level named ≡ rows_below (tree_rows h z below) z.key (rows_at (branch_size z) s)
unfolding tree_rows
rows_of_branch h z zero below named s is e = absurd (omega arith)
rows_of_branch h z (suc level) below named s is e =
    let same : level ≡ below = omega arith in
    rw (is, same) refl

-- the item is there
pub item_is_there : (h : HeapData) (z : Sizes) (level named : ℕ) → HasBthTree h z level named → item_at h named ≡ None → ⊥
unfolding bth_tree_fault
item_is_there h z zero named t e = let w = there_is (no_item named) (bth_leaf_fault h z t.low t.high) (item_at h named) t.none in let impossible : None ≡ Some w.0 = sym e ∙ w.1 in cc
item_is_there h z (suc level) named t e = let w = there_is (no_item named) (bth_below_fault h z (bth_tree_fault h z level) t.low t.high) (item_at h named) t.none in let impossible : None ≡ Some w.0 = sym e ∙ w.1 in cc

-- the keys of a leaf rise
pub leaf_rises : (h : HeapData) (z : Sizes) (level named : ℕ) (s : Span) → (t : HasBthTree h z level named) → item_at h named ≡ Some s → level ≡ 0 → Rises t.low t.high (map (row_key h.image z.key) (rows_at (leaf_size z) s))
leaf_rises h z level named s t is e = rw (← rows_of_leaf h z level named s is e) (tree_rises h z level named t.low t.high t.none)

-- a branch has a record, its keys rise, and the items that its records name have no fault
pub record IsGoodBranch (h : HeapData) (z : Sizes) (below : ℕ) (low : ℕ) (high : Option ℕ) (s : Span) : Type 0 where
  pub some : 0 < row_count (branch_size z) s
  pub rises : Rises low high (map (row_key h.image z.key) (rows_at (branch_size z) s))
  pub children : bth_children_fault h.image z.key (bth_tree_fault h z below) high (rows_at (branch_size z) s) ≡ None

good_below : (h : HeapData) (z : Sizes) (below low : ℕ) (high : Option ℕ) (s : Span) → bth_below_fault h z (bth_tree_fault h z below) low high s ≡ None → IsGoodBranch h z below low high s
unfolding bth_below_fault
good_below h z below low high s e =
    let b = none_then (bth_branch_fault h z low high s) _ e in
    let a = (branch_law h z low high s).1 b.0 in
    record { some = a.0; rises = a.1; children = b.1 }

below_at : (h : HeapData) (z : Sizes) (below named low : ℕ) (high : Option ℕ) (s : Span) → bth_tree_fault h z (suc below) named low high ≡ None → item_at h named ≡ Some s → bth_below_fault h z (bth_tree_fault h z below) low high s ≡ None
unfolding bth_tree_fault
below_at h z below named low high s e is = (rw is at e)

pub branch_good : (h : HeapData) (z : Sizes) (level below named : ℕ) (s : Span) → (t : HasBthTree h z level named) → item_at h named ≡ Some s → level ≡ below + 1 → IsGoodBranch h z below t.low t.high s
branch_good h z zero below named s t is e = absurd (omega arith)
branch_good h z (suc level) below named s t is e =
    let same : level ≡ below = omega arith in
    let none : bth_tree_fault h z (suc below) named t.low t.high ≡ None = (rw same at t.none) in
    good_below h z below t.low t.high s (below_at h z below named t.low t.high s none is)

-- what a record of a branch names
pub child_has : (h : HeapData) (z : Sizes) (level below named : ℕ) (s : Span) (i : ℕ) → HasBthTree h z level named → item_at h named ≡ Some s → level ≡ below + 1 → i < row_count (branch_size z) s
    → HasBthTree h z below (row_place (branch_size z) s i + z.key)
child_has h z level below named s i t is e lt =
    let g = branch_good h z level below named s t is e in
    let split = rows_at_split (branch_size z) s i lt in
    let c = children_back h.image z.key (bth_tree_fault h z below) t.high (rows_before (branch_size z) s i) _ (rw split at g.children) in
    let f = children_first h.image z.key (bth_tree_fault h z below) t.high (row_place (branch_size z) s i) (rows_from (branch_size z) s (i + 1)) c in
    record { low = _; high = _; none = f.0 }

pub find_child : (h : HeapData) (z : Sizes) (level below named : ℕ) (s : Span) (key n : ℕ) → HasBthTree h z level named → item_at h named ≡ Some s → level ≡ below + 1 → IsUpToKey h.image z.key (branch_size z) s key n → 0 < n
    → first_with (row_key h.image z.key) key (tree_rows h z level named) ≡ first_with (row_key h.image z.key) key (tree_rows h z below (row_place (branch_size z) s (n - 1) + z.key))
find_child h z level below named s key n t is e u pos =
    let g = branch_good h z level below named s t is e in
    let next : (n - 1) + 1 ≡ n = omega arith in
    let size = branch_size z in
    let split : rows_at size s ≡ rows_before size s (n - 1) ++ row_place size s (n - 1) ∷ rows_from size s n =
    rows_at_split size s (n - 1) (omega (arith, u.within)) ∙ ap (λ (i : ℕ). rows_before size s (n - 1) ++ row_place size s (n - 1) ∷ rows_from size s i) next in
    ap (first_with (row_key h.image z.key) key) (rows_of_branch h z level below named s is e ∙ ap (rows_below (tree_rows h z below) z.key) split)
    ∙ find_below h.image z.key (bth_tree_fault h z below) (tree_rows h z below) (tree_rises h z below) key t.low t.high (rows_before size s (n - 1)) (row_place size s (n - 1)) (rows_from size s n)
    (subst (λ (xs : List ℕ). Rises t.low t.high (map (row_key h.image z.key) xs)) split g.rises)
    (subst (λ (xs : List ℕ). bth_children_fault h.image z.key (bth_tree_fault h z below) t.high xs ≡ None) split g.children)
    (u.before pos) (above_from h.image z.key size s key n u)

pub find_nowhere : (h : HeapData) (z : Sizes) (level below named : ℕ) (s : Span) (key n : ℕ) → HasBthTree h z level named → item_at h named ≡ Some s → level ≡ below + 1 → IsUpToKey h.image z.key (branch_size z) s key n → n ≡ 0
    → first_with (row_key h.image z.key) key (tree_rows h z level named) ≡ None
find_nowhere h z level below named s key n t is e u zero_is =
    let g = branch_good h z level below named s t is e in
    let size = branch_size z in
    let start : rows_from size s n ≡ rows_at size s = ap (rows_from size s) zero_is ∙ rows_start size s in
    ap (first_with (row_key h.image z.key) key) (rows_of_branch h z level below named s is e)
    ∙ above_none h.image z.key (bth_tree_fault h z below) (tree_rows h z below) (tree_rises h z below) key t.low t.high (rows_at size s)
    (subst (IsAbove (row_key h.image z.key) key) start (above_from h.image z.key size s key n u)) g.rises g.children
