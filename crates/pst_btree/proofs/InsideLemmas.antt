-- The entries of a tree that is spelt lie inside the mapped part.
use Rattle.std.proofs.Common.{ℕ, suc, zero, ◌+◌, ◌*◌, ◌≤◌, List, [], ◌∷◌, ◌++◌, Option, length, arith, All}
use Rattle.std.specs.List.{AllByRecursion}
use Rattle.std.proofs.lemmas.List.Elements.{All-from_recursion}
use Rattle.pst_header.specs.declared.header.Bref.{Bref}
use Rattle.pst_page.specs.declared.kind.PageKind.{PageKind}
use Rattle.pst_page.specs.Page.{places, entries_at, count_at, width_at}
use Rattle.pst_page.specs.Entry.{entry_size}
use Rattle.pst_btree.specs.Tree.{Tree, leaf, branch, Forest, none, more, entries_of, forest_entries, Spells, SpellsEach, IsPage, IsTreeAt, tree_at}

inside_places : (size end at width n : ℕ) → size ≤ width → at + n * width ≤ end → AllByRecursion (λ p. p + size ≤ end) (places at width n)
inside_places size end at width zero wide room = tt
inside_places size end at width (suc n) wide room = (omega arith, inside_places size end (at + width) width n wide (omega arith))

both : (size end : ℕ) (xs ys : List ℕ) → AllByRecursion (λ p. p + size ≤ end) xs → AllByRecursion (λ p. p + size ≤ end) ys → AllByRecursion (λ p. p + size ≤ end) (xs ++ ys)
both size end [] ys a b = b
both size end (x ∷ xs) ys a b = (a.0, both size end xs ys a.1 b)

page_inside : (kind : PageKind) (I : List ℕ) (end : ℕ) (page : Bref) → IsPage kind I end 0 page → AllByRecursion (λ p. p + entry_size kind 0 ≤ end) (entries_at I page.ib)
unfolding entries_at
page_inside kind I end page p =
    let place = p.good.place.inside in
    let room = p.shape.room in
    let wide = rw p.level_is at p.shape.wide in
    inside_places (entry_size kind 0) end page.ib (width_at I page.ib) (count_at I page.ib) wide (omega (arith, place, room))

mutual
  tree_inside : (kind : PageKind) (I : List ℕ) (end level : ℕ) (tree : Tree) → Spells kind I end level tree → AllByRecursion (λ p. p + entry_size kind 0 ≤ end) (entries_of tree)
  tree_inside kind I end zero (leaf page entries) s = rw s.1 (page_inside kind I end page s.0)
  tree_inside kind I end zero (branch page children) s = absurd s
  tree_inside kind I end (suc level) (leaf page entries) s = absurd s
  tree_inside kind I end (suc level) (branch page children) s = forest_inside kind I end level children (entries_at I page.ib) s.1

  forest_inside : (kind : PageKind) (I : List ℕ) (end level : ℕ) (forest : Forest) (ps : List ℕ) → SpellsEach kind I end level forest ps → AllByRecursion (λ p. p + entry_size kind 0 ≤ end) (forest_entries forest)
  forest_inside kind I end level none ps s = tt
  forest_inside kind I end level (more key tree rest) [] s = absurd s
  forest_inside kind I end level (more key tree rest) (p ∷ ps) s =
      both (entry_size kind 0) end (entries_of tree) (forest_entries rest) (tree_inside kind I end level tree s.2) (forest_inside kind I end level rest ps s.3)

weaker : (size end most : ℕ) (xs : List ℕ) → end ≤ most → AllByRecursion (λ p. p + size ≤ end) xs → AllByRecursion (λ p. p + size ≤ most) xs
weaker size end most [] le a = tt
weaker size end most (x ∷ xs) le a = (omega (arith, a.0, le), weaker size end most xs le a.1)

pub entries_inside : (kind : PageKind) (I : List ℕ) (end level : ℕ) (page : Bref) (low : ℕ) (high : Option ℕ) → IsTreeAt kind I end level page low high → end ≤ length I → All (λ at. at + entry_size kind 0 ≤ length I) (entries_of (tree_at kind I level page))
entries_inside kind I end level page low high t le =
    All-from_recursion (λ at. at + entry_size kind 0 ≤ length I) _ (weaker (entry_size kind 0) end (length I) _ le (tree_inside kind I end level (tree_at kind I level page) t.spells))
