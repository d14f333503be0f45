-- Trees of pages ([MS-PST] 2.2.2.7.7), what spells one in an image, and the bounds of its keys.
use Rattle.std.specs.Prelude.{◌≡◌, ℕ, zero, suc, ⊤, List, [], ◌∷◌, ◌++◌, map, Option, Some, None}
use Rattle.pst_bytes.specs.declared.span.Span.{Span}
use Rattle.pst_header.specs.declared.header.Bref.{Bref}
use Rattle.pst_page.specs.declared.kind.PageKind.{PageKind}
use Rattle.pst_page.specs.Page.{entries_at, level_at, page_span}
use Rattle.pst_page.specs.Entry.{key_at, child_at}
use Rattle.pst_page.specs.Good.{GoodPage, HasShape}
use Rattle.pst_btree.specs.Order.{Rises}

-- A tree is a leaf with the places of its entries, or a branch with its children, each under a key.
mutual
  pub data Tree : Type 0 where
    leaf : Bref → List ℕ → Tree
    branch : Bref → Forest → Tree

  pub data Forest : Type 0 where
    none : Forest
    more : ℕ → Tree → Forest → Forest

-- the reference (BREF) that names the page at the top
abbrev pub root_of : Tree → Bref
root_of (leaf page entries) = page
root_of (branch page children) = page

abbrev mutual
  -- the places of the leaves' entries from left to right
  pub entries_of : Tree → List ℕ
  entries_of (leaf page entries) = entries
  entries_of (branch page children) = forest_entries children

  pub forest_entries : Forest → List ℕ
  forest_entries none = []
  forest_entries (more key tree rest) = entries_of tree ++ forest_entries rest

abbrev mutual
  -- the pages, each before its children
  pub pages_of : Tree → List Bref
  pages_of (leaf page entries) = page ∷ []
  pages_of (branch page children) = page ∷ forest_pages children

  pub forest_pages : Forest → List Bref
  forest_pages none = []
  forest_pages (more key tree rest) = pages_of tree ++ forest_pages rest

-- ---- what an image spells

-- a good page of this level, with its shape
pub record IsPage (kind : PageKind) (I : List ℕ) (end level : ℕ) (page : Bref) : Type 0 where
  pub good : GoodPage I end kind page
  pub shape : HasShape I kind page.ib
  pub level_is : level_at I page.ib ≡ level

abbrev mutual
  -- The image spells the tree, whose top is at this level: a leaf (level 0) has the entries of its page in order, and a
  -- branch a child for each entry of its page in order, one level lower.
  pub Spells : PageKind → List ℕ → ℕ → ℕ → Tree → Type 0
  Spells kind I end zero (leaf page entries) = IsPage kind I end 0 page × (entries ≡ entries_at I page.ib)
  Spells kind I end (suc level) (branch page children) = IsPage kind I end (suc level) page × SpellsEach kind I end level children (entries_at I page.ib)
  Spells kind I end (suc level) (leaf page entries) = ⊥
  Spells kind I end zero (branch page children) = ⊥

  -- the entries at the places name the trees, which are at this level
  pub SpellsEach : PageKind → List ℕ → ℕ → ℕ → Forest → List ℕ → Type 0
  SpellsEach kind I end level none [] = ⊤
  SpellsEach kind I end level none (at ∷ rest) = ⊥
  SpellsEach kind I end level (more key tree children) [] = ⊥
  SpellsEach kind I end level (more key tree children) (at ∷ rest) =
      (key ≡ key_at kind I at) × (root_of tree ≡ child_at I at) × Spells kind I end level tree × SpellsEach kind I end level children rest

-- ---- the bounds of its keys

abbrev pub forest_keys : Forest → List ℕ
forest_keys none = []
forest_keys (more key tree rest) = key ∷ forest_keys rest

-- the next key, or the bound of the page
abbrev pub next_of : Forest → Option ℕ → Option ℕ
next_of none high = high
next_of (more key tree rest) high = Some key

abbrev mutual
  -- In each page keys rise within the bounds that all pages above give it: those below an entry are at least its key,
  -- and below the next entry's key or, for the last entry, below the bound of the page.
  pub Bounded : PageKind → List ℕ → Tree → ℕ → Option ℕ → Type 0
  Bounded kind I (leaf page entries) low high = Rises low high (map (key_at kind I) entries)
  Bounded kind I (branch page children) low high = Rises low high (forest_keys children) × BoundedEach kind I children high

  pub BoundedEach : PageKind → List ℕ → Forest → Option ℕ → Type 0
  BoundedEach kind I none high = ⊤
  BoundedEach kind I (more key tree rest) high = Bounded kind I tree key (next_of rest high) × BoundedEach kind I rest high

-- a whole tree, under the root that the header names: its keys have no bounds but their own
pub record IsTree (kind : PageKind) (I : List ℕ) (end : ℕ) (root : Bref) (level : ℕ) (tree : Tree) : Type 0 where
  pub root_is : root_of tree ≡ root
  pub spells : Spells kind I end level tree
  pub bounded : Bounded kind I tree 0 None

-- ---- the space that it takes

abbrev pub span_of : Bref → Span
span_of page = page_span page.ib

-- the spans of its pages, each before its children
abbrev pub page_spans : Tree → List Span
page_spans tree = map span_of (pages_of tree)

-- ---- the tree that lies at a place, read with no check

abbrev pub forest_at : PageKind → List ℕ → (Bref → Tree) → List ℕ → Forest
forest_at kind I below [] = none
forest_at kind I below (at ∷ rest) = more (key_at kind I at) (below (child_at I at)) (forest_at kind I below rest)

unfoldable pub tree_at : PageKind → List ℕ → ℕ → Bref → Tree
tree_at kind I zero page = leaf page (entries_at I page.ib)
tree_at kind I (suc level) page = branch page (forest_at kind I (tree_at kind I level) (entries_at I page.ib))

unfoldable pub page_spans_at : PageKind → List ℕ → ℕ → Bref → List Span
page_spans_at kind I level page = page_spans (tree_at kind I level page)

-- the image spells the tree that lies there, and its keys keep their bounds
pub record IsTreeAt (kind : PageKind) (I : List ℕ) (end level : ℕ) (page : Bref) (low : ℕ) (high : Option ℕ) : Type 0 where
  pub spells : Spells kind I end level (tree_at kind I level page)
  pub bounded : Bounded kind I (tree_at kind I level page) low high

-- within some bounds
pub record HasTreeAt (kind : PageKind) (I : List ℕ) (end level : ℕ) (page : Bref) : Type 0 where
  pub low : ℕ
  pub high : Option ℕ
  pub tree : IsTreeAt kind I end level page low high
