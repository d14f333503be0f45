-- That an image spells a tree has one proof, so a view may keep it; and so has where a stretch of a leaf lies.
use Rattle.std.specs.Prelude.{ℕ, zero, suc, ◌+◌, List, [], ◌∷◌, map, Option}
use Rattle.std.proofs.Props.{props}
use Rattle.pst_header.specs.declared.header.Bref.{Bref}
use Rattle.pst_page.specs.declared.kind.PageKind.{PageKind}
use Rattle.pst_header.specs.Place.{IsPlace}
use Rattle.pst_bytes.specs.declared.span.Span.{Span}
use Rattle.pst_page.specs.Page.{entries_at, page_span}
use Rattle.pst_page.specs.Entry.{key_at}
use Rattle.pst_page.specs.Good.{HasPageTrailer, GoodPage, HasShape}
use Rattle.pst_btree.specs.Find.{IsStretch}
use Rattle.pst_btree.specs.Order.{Rises}
use Rattle.pst_btree.specs.Tree.{Tree, leaf, branch, Forest, none, more, Spells, SpellsEach, Bounded, BoundedEach, tree_at, IsTreeAt, IsPage, forest_keys, next_of}

pub IsPlace-prop : (end : ℕ) (s : Span) → IsProp (IsPlace end s)
IsPlace-prop end s = hlevel props

pub HasTrailer-prop : (I : List ℕ) (kind : PageKind) (page : Bref) → IsProp (HasPageTrailer I kind page)
HasTrailer-prop I kind page = hlevel props

pub GoodPage-prop : (I : List ℕ) (end : ℕ) (kind : PageKind) (page : Bref) → IsProp (GoodPage I end kind page)
GoodPage-prop I end kind page = hlevel (props, IsPlace-prop end (page_span page.ib), HasTrailer-prop I kind page)

pub HasShape-prop : (I : List ℕ) (kind : PageKind) (ib : ℕ) → IsProp (HasShape I kind ib)
HasShape-prop I kind ib = hlevel props

pub IsPage-prop : (kind : PageKind) (I : List ℕ) (end level : ℕ) (page : Bref) → IsProp (IsPage kind I end level page)
IsPage-prop kind I end level page = hlevel (props, GoodPage-prop I end kind page, HasShape-prop I kind page.ib)

pub Rises-prop : (low : ℕ) (high : Option ℕ) (keys : List ℕ) → IsProp (Rises low high keys)
Rises-prop low high [] = hlevel props
Rises-prop low high (key ∷ keys) = hlevel (props, Rises-prop (key + 1) high keys)

mutual
  pub Spells-prop : (kind : PageKind) (I : List ℕ) (end level : ℕ) (tree : Tree) → IsProp (Spells kind I end level tree)
  Spells-prop kind I end zero (leaf page entries) = hlevel (props, IsPage-prop kind I end 0 page)
  Spells-prop kind I end (suc level) (branch page children) = hlevel (props, IsPage-prop kind I end (suc level) page, SpellsEach-prop kind I end level children (entries_at I page.ib))
  Spells-prop kind I end (suc level) (leaf page entries) = hlevel props
  Spells-prop kind I end zero (branch page children) = hlevel props

  pub SpellsEach-prop : (kind : PageKind) (I : List ℕ) (end level : ℕ) (children : Forest) (places : List ℕ) → IsProp (SpellsEach kind I end level children places)
  SpellsEach-prop kind I end level none [] = hlevel props
  SpellsEach-prop kind I end level none (at ∷ rest) = hlevel props
  SpellsEach-prop kind I end level (more key tree children) [] = hlevel props
  SpellsEach-prop kind I end level (more key tree children) (at ∷ rest) = hlevel (props, Spells-prop kind I end level tree, SpellsEach-prop kind I end level children rest)

mutual
  pub Bounded-prop : (kind : PageKind) (I : List ℕ) (tree : Tree) (low : ℕ) (high : Option ℕ) → IsProp (Bounded kind I tree low high)
  Bounded-prop kind I (leaf page entries) low high = Rises-prop low high (map (key_at kind I) entries)
  Bounded-prop kind I (branch page children) low high = hlevel (props, Rises-prop low high (forest_keys children), BoundedEach-prop kind I children high)

  pub BoundedEach-prop : (kind : PageKind) (I : List ℕ) (children : Forest) (high : Option ℕ) → IsProp (BoundedEach kind I children high)
  BoundedEach-prop kind I none high = hlevel props
  BoundedEach-prop kind I (more key tree rest) high = hlevel (props, Bounded-prop kind I tree key (next_of rest high), BoundedEach-prop kind I rest high)

pub IsTreeAt-prop : (kind : PageKind) (I : List ℕ) (end level : ℕ) (page : Bref) (low : ℕ) (high : Option ℕ) → IsProp (IsTreeAt kind I end level page low high)
IsTreeAt-prop kind I end level page low high = hlevel (props, Spells-prop kind I end level (tree_at kind I level page), Bounded-prop kind I (tree_at kind I level page) low high)

pub IsStretch-prop : (kind : PageKind) (I entries : List ℕ) (low at width count : ℕ) → IsProp (IsStretch kind I entries low at width count)
IsStretch-prop kind I entries low at width count = hlevel props
