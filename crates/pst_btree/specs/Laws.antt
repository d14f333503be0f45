-- What a walk without fault says of the image.
use Rattle.std.specs.Prelude.{◌≡◌, ℕ, ◌-◌, ◌/◌, ◌↔◌, List, length, Ok}
use Rattle.pst_header.specs.declared.header.TheConstants.{FIRST_AMAP, UNIT}
use Rattle.pst_header.specs.declared.header.Bref.{Bref}
use Rattle.pst_page.specs.declared.kind.PageKind.{PageKind}
use Rattle.pst_space.specs.Claimed.{Claimed, with_spans}
use Rattle.pst_space.specs.Apart.{AreFree, AreApart}
use Rattle.pst_btree.specs.Tree.{Tree, IsTree, entries_of, pages_of, page_spans}
use Rattle.pst_btree.specs.Walk.{Found, tree_walk}

-- what was found is of this tree
pub record IsFoundOf (claimed : Claimed) (found : Found) (tree : Tree) : Type 0 where
  pub entries : found.entries ≡ entries_of tree
  pub pages : found.pages ≡ length (pages_of tree)
  -- its pages have no byte in common with what was claimed, and none with each other
  pub free : AreFree claimed (page_spans tree)
  pub apart : AreApart (page_spans tree)
  -- and they are claimed now
  pub claims : found.claimed ≡ with_spans claimed (page_spans tree)

-- Where each unit of the mapped part has its flag, there is no fault exactly where the image spells a tree under the root,
-- whose keys keep their bounds and whose pages lie on nothing that is claimed and not on each other; and what is found is
-- that tree's.
abbrev pub WalkLaw : Type 0
WalkLaw = (kind : PageKind) (I : List ℕ) (end : ℕ) (claimed : Claimed) (root : Bref) (found : Found) → length claimed ≡ (end - FIRST_AMAP) / UNIT →
    (tree_walk kind I end claimed root ≡ Ok found) ↔ ((level : ℕ) × (tree : Tree) × IsTree kind I end root level tree × IsFoundOf claimed found tree)

-- An image spells at most one tree under a root.
abbrev pub OneTreeLaw : Type 0
OneTreeLaw = (kind : PageKind) (I : List ℕ) (end : ℕ) (root : Bref) (level other : ℕ) (tree second : Tree) → IsTree kind I end root level tree → IsTree kind I end root other second → (level ≡ other) × (tree ≡ second)
