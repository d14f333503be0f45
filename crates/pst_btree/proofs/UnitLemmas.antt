-- The pages of a tree take whole units of the mapped part.
use Rattle.std.proofs.Common.{◌≡◌, ℕ, suc, zero, ◌-◌, ◌/◌, List, [], ◌∷◌, length, map, refl, sym, subst, arith}
use Rattle.std.proofs.lemmas.List.{map-append}
use Rattle.pst_header.specs.declared.header.Bref.{Bref}
use Rattle.pst_page.specs.declared.kind.PageKind.{PageKind}
use Rattle.pst_page.specs.Page.{entries_at, page_span}
use Rattle.pst_header.specs.Place.{IsPlace}
use Rattle.pst_space.specs.Claimed.{Claimed, IsUnits}
use Rattle.pst_space.specs.Apart.{AreUnits}
use Rattle.pst_space.proofs.ApartLemmas.{units_append}
use Rattle.pst_btree.specs.Tree.{Tree, leaf, branch, Forest, none, more, pages_of, forest_pages, span_of, page_spans, Spells, SpellsEach}

page_units : (end : ℕ) (m : Claimed) (page : Bref) → length m ≡ (end - 17408) / 64 → IsPlace end (page_span page.ib) → IsUnits m (span_of page)
page_units end m page long p = record {
  mapped = p.mapped;
  whole = p.whole_units;
  whole_len = refl;
  some = omega arith;
  inside = omega (arith, long, p.mapped, p.whole_units, p.inside);
}

mutual
  pub tree_units : (kind : PageKind) (I : List ℕ) (end level : ℕ) (m : Claimed) (tree : Tree) → length m ≡ (end - 17408) / 64 → Spells kind I end level tree → AreUnits m (page_spans tree)
  tree_units kind I end zero m (leaf page entries) long s = (page_units end m page long s.0.good.place, tt)
  tree_units kind I end zero m (branch page children) long s = absurd s
  tree_units kind I end (suc level) m (leaf page entries) long s = absurd s
  tree_units kind I end (suc level) m (branch page children) long s = (page_units end m page long s.0.good.place, forest_units kind I end level m children (entries_at I page.ib) long s.1)

  forest_units : (kind : PageKind) (I : List ℕ) (end level : ℕ) (m : Claimed) (forest : Forest) (places : List ℕ) → length m ≡ (end - 17408) / 64 → SpellsEach kind I end level forest places → AreUnits m (map span_of (forest_pages forest))
  forest_units kind I end level m none places long s = tt
  forest_units kind I end level m (more key tree rest) [] long s = absurd s
  forest_units kind I end level m (more key tree rest) (at ∷ places) long s =
      subst (AreUnits m) (sym (map-append span_of (pages_of tree) (forest_pages rest)))
      (units_append m (map span_of (pages_of tree)) (map span_of (forest_pages rest)) (tree_units kind I end level m tree long s.2) (forest_units kind I end level m rest places long s.3))
