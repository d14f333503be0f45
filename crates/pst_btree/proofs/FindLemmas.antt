-- Looking through a tree that the image spells.
use Rattle.std.proofs.Common.{◌≡◌, ◌≢◌, ℕ, suc, zero, ◌+◌, ◌*◌, ◌<◌, ◌≤◌, Bool, true, false, cond, eqb, List, [], ◌∷◌, ◌++◌, Some, None, refl, arith}
use Rattle.std.proofs.lemmas.Bool.{eq-eqb, ne_eqb}
use Rattle.pst_header.specs.declared.header.Bref.{Bref}
use Rattle.pst_page.specs.declared.kind.PageKind.{PageKind}
use Rattle.pst_page.specs.Page.{entries_at, entries_from, count_at, width_at}
use Rattle.pst_page.specs.Entry.{key_at, child_at}
use Rattle.pst_page.specs.Fault.{has_shape}
use Rattle.pst_page.proofs.EntryLemmas.{entries_from_start, entries_from_next, entries_from_end}
use Rattle.pst_page.proofs.PageLemmas.{good_has_shape}
use Rattle.pst_btree.specs.Find.{first_at}
use Rattle.pst_btree.specs.Tree.{Forest, entries_of, forest_entries, IsPage, Spells, tree_at, forest_at}

-- ---- a page

pub page_inside : (kind : PageKind) (I : List ℕ) (end level : ℕ) (page : Bref) → IsPage kind I end level page → page.ib + 512 ≤ end
page_inside kind I end level page p = p.good.place.inside

pub page_shape : (kind : PageKind) (I : List ℕ) (end level : ℕ) (page : Bref) → IsPage kind I end level page → has_shape kind I page.ib ≡ true
page_shape kind I end level page p = good_has_shape kind I page.ib p.shape

-- ---- the first entry with a key, step by step

pub first_here : (kind : PageKind) (I : List ℕ) (key at : ℕ) (rest : List ℕ) → key_at kind I at ≡ key → first_at kind I key (at ∷ rest) ≡ Some at
unfolding first_at
first_here kind I key at rest e = rw (eq-eqb _ _ e) refl

pub first_later : (kind : PageKind) (I : List ℕ) (key at : ℕ) (rest : List ℕ) → key_at kind I at ≢ key → first_at kind I key (at ∷ rest) ≡ first_at kind I key rest
unfolding first_at
first_later kind I key at rest h = rw (ne_eqb _ _ h) refl

pub first_none : (kind : PageKind) (I : List ℕ) (key : ℕ) → first_at kind I key [] ≡ None
unfolding first_at
first_none kind I key = refl

pub first_none-append : (kind : PageKind) (I : List ℕ) (key : ℕ) (xs ys : List ℕ) → first_at kind I key xs ≡ None → first_at kind I key (xs ++ ys) ≡ first_at kind I key ys
unfolding first_at
first_none-append kind I key [] ys e = refl
first_none-append kind I key (x ∷ xs) ys e = by_test (eqb (key_at kind I x) key) (first_none-append kind I key xs ys) e
  where
    by_test : (t : Bool) → (first_at kind I key xs ≡ None → first_at kind I key (xs ++ ys) ≡ first_at kind I key ys) → cond t (Some x) (first_at kind I key xs) ≡ None → cond t (Some x) (first_at kind I key (xs ++ ys)) ≡ first_at kind I key ys
    by_test true ih h = absurd cc
    by_test false ih h = ih h

-- ---- the children from entry i on

unfoldable pub forest_from : PageKind → List ℕ → ℕ → ℕ → ℕ → Forest
forest_from kind I level ib i = forest_at kind I (tree_at kind I level) (entries_from I ib i)

pub spelt_page : (kind : PageKind) (I : List ℕ) (end level : ℕ) (page : Bref) → Spells kind I end level (tree_at kind I level page) → IsPage kind I end level page
unfolding tree_at
spelt_page kind I end zero page s = s.0
spelt_page kind I end (suc level) page s = s.0

-- the entries below them
unfoldable pub below_from : PageKind → List ℕ → ℕ → ℕ → ℕ → List ℕ
below_from kind I level ib i = forest_entries (forest_from kind I level ib i)

pub below_start : (kind : PageKind) (I : List ℕ) (level below : ℕ) (page : Bref) → level ≡ below + 1 → entries_of (tree_at kind I level page) ≡ below_from kind I below page.ib 0
unfolding tree_at below_from forest_from
below_start kind I zero below page e = absurd (omega arith)
below_start kind I (suc level) below page e =
    let same : level ≡ below = omega arith in
    rw (entries_from_start I page.ib, ← same) refl

pub below_next : (kind : PageKind) (I : List ℕ) (level ib i : ℕ) → i < count_at I ib → below_from kind I level ib i ≡ entries_of (tree_at kind I level (child_at I (ib + i * width_at I ib))) ++ below_from kind I level ib (i + 1)
unfolding below_from forest_from
below_next kind I level ib i lt = rw (entries_from_next I ib i lt) refl

pub below_end : (kind : PageKind) (I : List ℕ) (level ib i : ℕ) → count_at I ib ≤ i → below_from kind I level ib i ≡ []
unfolding below_from forest_from
below_end kind I level ib i le = rw (entries_from_end I ib i le) refl

pub leaf_entries : (kind : PageKind) (I : List ℕ) (page : Bref) → entries_of (tree_at kind I 0 page) ≡ entries_at I page.ib
unfolding tree_at
leaf_entries kind I page = refl
