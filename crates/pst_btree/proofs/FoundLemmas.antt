-- What a walk that finds no fault says of the image: there is a tree, and this is it.
use Rattle.std.proofs.Common.{◌≡◌, ℕ, suc, zero, ◌+◌, List, [], ◌∷◌, ◌++◌, length, map, Option, Some, None, Ok, refl, sym, ap, ◌∙◌, append_assoc, arith}
use Rattle.std.proofs.lemmas.Bool.{leb-true, and_parts}
use Rattle.std.proofs.lemmas.List.{append-nil, map-append, length-append}
use Rattle.pst_fault.specs.declared.fault.Fault.{Fault}
use Rattle.pst_fault.proofs.FirstLemmas.{none_then, guard_then}
use Rattle.pst_header.specs.declared.header.Bref.{Bref}
use Rattle.pst_page.specs.declared.kind.PageKind.{PageKind}
use Rattle.pst_page.specs.Page.{entries_at}
use Rattle.pst_page.specs.Entry.{key_at}
use Rattle.pst_page.specs.Fault.{open_fault, level_fault}
use Rattle.pst_page.proofs.PageLaws.{place_law, open_law, level_law}
use Rattle.pst_space.specs.Claimed.{Claimed, claim_of, claim_all}
use Rattle.pst_space.specs.Step.{Step, unless, claimed_or}
use Rattle.pst_space.proofs.StepLemmas.{bind_ok, claim_all-append}
use Rattle.pst_btree.specs.Order.{order_fault, Rises}
use Rattle.pst_btree.specs.Walk.{Found, Visit, body_fault, children, walk_of, opened, next_key}
use Rattle.pst_btree.specs.Tree.{Tree, leaf, branch, Forest, none, more, root_of, entries_of, forest_entries, pages_of, forest_pages, span_of, IsPage, Spells, SpellsEach, forest_keys, next_of, Bounded, BoundedEach}

unless_ok : {A : Type 0} (o : Option Fault) (c : Claimed) (s : Step A) (y : A) → unless o c s ≡ Ok y → (o ≡ None) × (s ≡ Ok y)
unless_ok None c s y e = (refl, e)
unless_ok (Some f) c s y e = absurd cc

claimed_ok : (page : Bref) (c : Claimed) (o : Option Claimed) (d : Claimed) → claimed_or (span_of page) page.bid c o ≡ Ok d → o ≡ Some d
claimed_ok page c None d e = absurd cc
claimed_ok page c (Some x) d e = cc

order_none : (kind : PageKind) (I : List ℕ) (bid low : ℕ) (high : Option ℕ) (places : List ℕ) → order_fault kind I bid low high places ≡ None → Rises low high (map (key_at kind I) places)
unfolding order_fault
order_none kind I bid low high [] e = tt
order_none kind I bid low high (at ∷ rest) e =
    let g = guard_then _ _ _ e in
    let both = and_parts _ _ g.0 in
    (leb-true _ _ both.0, both.1, order_none kind I bid (key_at kind I at + 1) high rest g.1)

done_is : {A : Type 0} (x y : A) → (let a : Step A = Ok x in a ≡ Ok y) → x ≡ y
done_is x y e = cc

record IsOpened (kind : PageKind) (I : List ℕ) (end level : ℕ) (claimed new : Claimed) (page : Bref) (low : ℕ) (high : Option ℕ) : Type 0 where
  page_is : IsPage kind I end level page
  claims : claim_of claimed (span_of page) ≡ Some new
  rises : Rises low high (map (key_at kind I) (entries_at I page.ib))

body_none : (kind : PageKind) (I : List ℕ) (level : ℕ) (page : Bref) (low : ℕ) (high : Option ℕ) → body_fault kind I level page low high ≡ None
    → (open_fault kind I page ≡ None) × (level_fault I level page ≡ None) × (order_fault kind I page.bid low high (entries_at I page.ib) ≡ None)
unfolding body_fault
body_none kind I level page low high e =
    let a = none_then (open_fault kind I page) _ e in
    let b = none_then (level_fault I level page) _ a.1 in
    (a.0, b.0, b.1)

opened_ok : (kind : PageKind) (I : List ℕ) (end level : ℕ) (claimed new : Claimed) (page : Bref) (low : ℕ) (high : Option ℕ) → opened kind I end level claimed page low high ≡ Ok new → IsOpened kind I end level claimed new page low high
unfolding opened
opened_ok kind I end level claimed new page low high e =
    let a = unless_ok _ _ _ _ e in
    let b = bind_ok _ _ _ a.1 in
    let c = unless_ok _ _ _ _ b.2 in
    let same : b.0 ≡ new = done_is _ _ c.1 in
    let f = body_none kind I level page low high c.0 in
    let p = (open_law kind I page).1 f.0 in
    record {
      page_is = record {
        good = record { place = (place_law end page).1 a.0; trailer = p.0 };
        shape = p.1;
        level_is = (level_law I level page).1 f.1;
      };
      claims = claimed_ok page claimed _ _ b.1 ∙ ap Some same;
      rises = order_none kind I page.bid low high (entries_at I page.ib) f.2;
    }

-- what a walk that found no fault says: there is a tree, and this is it
pub record IsFound (kind : PageKind) (I : List ℕ) (end level : ℕ) (found new : Found) (page : Bref) (low : ℕ) (high : Option ℕ) : Type 0 where
  pub tree : Tree
  pub root : root_of tree ≡ page
  pub spells : Spells kind I end level tree
  pub bounded : Bounded kind I tree low high
  pub entries : new.entries ≡ found.entries ++ entries_of tree
  pub pages : new.pages ≡ found.pages + length (pages_of tree)
  pub claims : claim_all found.claimed (map span_of (pages_of tree)) ≡ Some new.claimed

record AreFound (kind : PageKind) (I : List ℕ) (end level : ℕ) (found new : Found) (places : List ℕ) (high : Option ℕ) : Type 0 where
  forest : Forest
  spells : SpellsEach kind I end level forest places
  keys : forest_keys forest ≡ map (key_at kind I) places
  next : next_of forest high ≡ next_key kind I places high
  bounded : BoundedEach kind I forest high
  entries : new.entries ≡ found.entries ++ forest_entries forest
  pages : new.pages ≡ found.pages + length (forest_pages forest)
  claims : claim_all found.claimed (map span_of (forest_pages forest)) ≡ Some new.claimed

module _ (kind : PageKind) (I : List ℕ) (end level : ℕ) (visit : Visit) (each : (found new : Found) (page : Bref) (low : ℕ) (high : Option ℕ) → visit found page low high ≡ Ok new → IsFound kind I end level found new page low high) where
  children_found : (found new : Found) (places : List ℕ) (high : Option ℕ) → children kind I visit high found places ≡ Ok new → AreFound kind I end level found new places high
  unfolding children
  children_found found new [] high e =
      let same : found ≡ new = done_is _ _ e in
      record {
        forest = none;
        spells = tt;
        keys = refl;
        next = refl;
        bounded = tt;
        entries = rw (← same) (sym (append-nil found.entries));
        pages = rw (← same) (omega arith);
        claims = ap (λ (f : Found). Some f.claimed) same;
      }
  children_found found new (at ∷ rest) high e =
      let b = bind_ok _ _ _ e in
      let s = each _ _ _ _ _ b.1 in
      let r = children_found b.0 new rest high b.2 in
      record {
        forest = more (key_at kind I at) s.tree r.forest;
        spells = (refl, s.root, s.spells, r.spells);
        keys = ap (λ (ks : List ℕ). key_at kind I at ∷ ks) r.keys;
        next = refl;
        bounded = (rw r.next s.bounded, r.bounded);
        entries = r.entries ∙ ap (λ (es : List ℕ). es ++ forest_entries r.forest) s.entries ∙ append_assoc found.entries (entries_of s.tree) (forest_entries r.forest);
        pages = omega (arith, r.pages, s.pages, length-append (pages_of s.tree) (forest_pages r.forest));
        claims = rw (map-append span_of (pages_of s.tree) (forest_pages r.forest), claim_all-append found.claimed (map span_of (pages_of s.tree)) (map span_of (forest_pages r.forest)), s.claims) r.claims;
      }

pub walk_found : (kind : PageKind) (I : List ℕ) (end level : ℕ) (found new : Found) (page : Bref) (low : ℕ) (high : Option ℕ) → walk_of kind I end level found page low high ≡ Ok new → IsFound kind I end level found new page low high
unfolding walk_of
walk_found kind I end zero found new page low high e =
    let b = bind_ok _ _ _ e in
    let o = opened_ok _ _ _ _ _ _ _ _ _ b.1 in
    let same = done_is _ _ b.2 in
    record {
      tree = leaf page (entries_at I page.ib);
      root = refl;
      spells = (o.page_is, refl);
      bounded = o.rises;
      entries = ap (λ (f : Found). f.entries) (sym same);
      pages = ap (λ (f : Found). f.pages) (sym same);
      claims = rw o.claims (ap (λ (f : Found). Some f.claimed) same);
    }
walk_found kind I end (suc level) found new page low high e =
    let b = bind_ok _ _ _ e in
    let o = opened_ok _ _ _ _ _ _ _ _ _ b.1 in
    let r = children_found kind I end level (walk_of kind I end level) (walk_found kind I end level) _ _ _ _ b.2 in
    record {
      tree = branch page r.forest;
      root = refl;
      spells = (o.page_is, r.spells);
      bounded = (rw r.keys o.rises, r.bounded);
      entries = r.entries;
      pages = omega (arith, r.pages);
      claims = rw o.claims r.claims;
    }
