-- The walk of a tree as a function of the image: what is claimed and found, or the first fault. Each page comes before its
-- children, and children come from left to right.
use Rattle.std.specs.Prelude.{ℕ, zero, suc, ◌+◌, List, [], ◌∷◌, ◌++◌, Option, Some, None, Ok}
use Rattle.pst_fault.specs.declared.fault.Fault.{Fault}
use Rattle.pst_fault.specs.First.{◌then◌}
use Rattle.pst_header.specs.declared.header.Bref.{Bref}
use Rattle.pst_page.specs.declared.kind.PageKind.{PageKind}
use Rattle.pst_page.specs.Page.{entries_at, level_at}
use Rattle.pst_page.specs.Entry.{key_at, child_at}
use Rattle.pst_page.specs.Fault.{page_place_fault, open_fault, level_fault}
use Rattle.pst_space.specs.Claimed.{Claimed}
use Rattle.pst_space.specs.Step.{Step, ◌>>=◌, unless, claim_step}
use Rattle.pst_btree.specs.Order.{order_fault}
use Rattle.pst_btree.specs.Tree.{span_of}

-- what a walk has so far: the claims, the places of the leaves' entries, and how many pages
pub record Found : Type 0 where
  pub claimed : Claimed
  pub entries : List ℕ
  pub pages : ℕ

abbrev pub found_so_far : Claimed → List ℕ → ℕ → Found
found_so_far claimed entries pages = record { claimed = claimed; entries = entries; pages = pages }

-- before the first page
abbrev pub nothing_found : Claimed → Found
nothing_found claimed = found_so_far claimed [] 0

-- The first fault of a page in its place: its trailer and its shape, its level, and the order of its keys.
unfoldable pub body_fault : PageKind → List ℕ → ℕ → Bref → ℕ → Option ℕ → Option Fault
body_fault kind I level page low high =
    open_fault kind I page then level_fault I level page then order_fault kind I page.bid low high (entries_at I page.ib)

-- a page alone: its place, its claim, and then the rest
unfoldable pub opened : PageKind → List ℕ → ℕ → ℕ → Claimed → Bref → ℕ → Option ℕ → Step Claimed
opened kind I end level claimed page low high =
    unless (page_place_fault end page) claimed (do
      more ← claim_step (span_of page) page.bid claimed
      unless (body_fault kind I level page low high) more (Ok more))

-- the bound of the keys below an entry: the next entry's key, or the bound of the page
abbrev pub next_key : PageKind → List ℕ → List ℕ → Option ℕ → Option ℕ
next_key kind I [] high = high
next_key kind I (at ∷ rest) high = Some (key_at kind I at)

-- what is done at a page, under its bounds
abbrev pub Visit : Type 0
Visit = Found → Bref → ℕ → Option ℕ → Step Found

-- the pages that the entries name, from left to right
unfoldable pub children : PageKind → List ℕ → Visit → Option ℕ → Found → List ℕ → Step Found
children kind I visit high found [] = Ok found
children kind I visit high found (at ∷ rest) = do
  next ← visit found (child_at I at) (key_at kind I at) (next_key kind I rest high)
  children kind I visit high next rest

-- a page of this level and all below it
unfoldable pub walk_of : PageKind → List ℕ → ℕ → ℕ → Visit
walk_of kind I end zero found page low high = do
  claimed ← opened kind I end 0 found.claimed page low high
  Ok (found_so_far claimed (found.entries ++ entries_at I page.ib) (found.pages + 1))
walk_of kind I end (suc level) found page low high = do
  claimed ← opened kind I end (suc level) found.claimed page low high
  children kind I (walk_of kind I end level) high (found_so_far claimed found.entries (found.pages + 1)) (entries_at I page.ib)

-- a whole tree, from its root: keys have no bounds but their own, and the root has the level that it says
abbrev pub tree_walk : PageKind → List ℕ → ℕ → Claimed → Bref → Step Found
tree_walk kind I end claimed root = walk_of kind I end (level_at I root.ib) (nothing_found claimed) root 0 None
