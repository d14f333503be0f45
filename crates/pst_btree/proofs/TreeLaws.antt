-- What a walk that finds no fault says of the image, and back.
use Rattle.std.proofs.Common.{◌≡◌, ℕ, suc, zero, ◌+◌, ◌≤◌, List, [], ◌∷◌, ◌++◌, length, map, Option, Some, None, Result, Ok, Err, refl, sym, ap, subst, ◌∙◌, append_assoc, inl, inr, arith}
use Rattle.std.specs.Prelude.{option_and_then, IfErr, ◌↔◌}
use Rattle.std.proofs.lemmas.Bool.{le-leb}
use Rattle.std.proofs.lemmas.List.{append-nil, map-append, length-append}
use Rattle.pst_fault.specs.declared.fault.Fault.{Fault}
use Rattle.pst_fault.specs.Fault.{no_memory}
use Rattle.pst_fault.proofs.FirstLemmas.{both_none}
use Rattle.pst_fault.proofs.GeneralLemmas.{some_is}
use Rattle.pst_header.specs.declared.header.Bref.{Bref}
use Rattle.pst_page.specs.declared.kind.PageKind.{PageKind}
use Rattle.pst_page.specs.Page.{entries_at, level_at}
use Rattle.pst_page.specs.Entry.{key_at, child_at}
use Rattle.pst_page.specs.Fault.{open_fault, level_fault}
use Rattle.pst_page.proofs.PageLaws.{place_law, open_law, level_law}
use Rattle.pst_space.specs.Claimed.{Claimed, claim_of, claim_all}
use Rattle.pst_space.specs.Step.{Step, GivesStepBy}
use Rattle.pst_space.proofs.ApartLemmas.{claims_law}
use Rattle.pst_space.proofs.StepLemmas.{claim_all-append}
use Rattle.pst_btree.specs.Laws.{WalkLaw, OneTreeLaw}
use Rattle.pst_btree.specs.Order.{order_fault, Rises}
use Rattle.pst_btree.specs.Walk.{Found, found_so_far, nothing_found, Visit, body_fault, children, walk_of, tree_walk, opened, next_key}
use Rattle.pst_btree.specs.Tree.{tree_at, forest_at, IsTreeAt, IsTree, Tree, leaf, branch, Forest, none, more, root_of, entries_of, forest_entries, pages_of, forest_pages, span_of, page_spans, IsPage, Spells, SpellsEach, forest_keys, next_of, Bounded, BoundedEach}
use Rattle.pst_btree.proofs.FoundLemmas.{walk_found}
use Rattle.pst_btree.proofs.UnitLemmas.{tree_units}

-- ---- where there is such a tree, the walk finds no fault

order_again : (kind : PageKind) (I : List ℕ) (bid low : ℕ) (high : Option ℕ) (places : List ℕ) → Rises low high (map (key_at kind I) places) → order_fault kind I bid low high places ≡ None
unfolding order_fault
order_again kind I bid low high [] r = refl
order_again kind I bid low high (at ∷ rest) r = rw (le-leb _ _ r.0, r.1) (order_again kind I bid (key_at kind I at + 1) high rest r.2)

body_again : (kind : PageKind) (I : List ℕ) (end level : ℕ) (page : Bref) (low : ℕ) (high : Option ℕ) → IsPage kind I end level page → Rises low high (map (key_at kind I) (entries_at I page.ib)) → body_fault kind I level page low high ≡ None
unfolding body_fault
body_again kind I end level page low high p r =
    both_none (open_fault kind I page) _ ((open_law kind I page).0 (p.good.trailer, p.shape))
    (both_none (level_fault I level page) _ ((level_law I level page).0 p.level_is) (order_again kind I page.bid low high (entries_at I page.ib) r))

opened_again : (kind : PageKind) (I : List ℕ) (end level : ℕ) (claimed new : Claimed) (page : Bref) (low : ℕ) (high : Option ℕ) → IsPage kind I end level page → claim_of claimed (span_of page) ≡ Some new
    → Rises low high (map (key_at kind I) (entries_at I page.ib)) → opened kind I end level claimed page low high ≡ Ok new
unfolding opened
opened_again kind I end level claimed new page low high p c r =
    rw ((place_law end page).0 p.good.place, c, body_again kind I end level page low high p r) refl

pub then_some : {A B : Type 0} (f : A → Option B) (o : Option A) (y : B) → option_and_then f o ≡ Some y → (x : A) × (o ≡ Some x) × (f x ≡ Some y)
then_some f None y e = absurd cc
then_some f (Some x) y e = (x, refl, e)

module _ (kind : PageKind) (I : List ℕ) (end level : ℕ) where
  keys_again : (forest : Forest) (places : List ℕ) → SpellsEach kind I end level forest places → forest_keys forest ≡ map (key_at kind I) places
  keys_again none [] s = refl
  keys_again none (at ∷ rest) s = absurd s
  keys_again (more key tree forest) [] s = absurd s
  keys_again (more key tree forest) (at ∷ rest) s = rw (s.0, keys_again forest rest s.3) refl

  next_again : (forest : Forest) (places : List ℕ) (high : Option ℕ) → SpellsEach kind I end level forest places → next_of forest high ≡ next_key kind I places high
  next_again none [] high s = refl
  next_again none (at ∷ rest) high s = absurd s
  next_again (more key tree forest) [] high s = absurd s
  next_again (more key tree forest) (at ∷ rest) high s = ap Some s.0

  abbrev IsFoundAgain : Visit → Type 0
  IsFoundAgain visit = (found : Found) (new : Claimed) (tree : Tree) (low : ℕ) (high : Option ℕ) → Spells kind I end level tree → Bounded kind I tree low high
      → claim_all found.claimed (map span_of (pages_of tree)) ≡ Some new → visit found (root_of tree) low high ≡ Ok (found_so_far new (found.entries ++ entries_of tree) (found.pages + length (pages_of tree)))

  children_again : (visit : Visit) → IsFoundAgain visit → (found : Found) (new : Claimed) (forest : Forest) (places : List ℕ) (high : Option ℕ) → SpellsEach kind I end level forest places → BoundedEach kind I forest high
      → claim_all found.claimed (map span_of (forest_pages forest)) ≡ Some new → children kind I visit high found places ≡ Ok (found_so_far new (found.entries ++ forest_entries forest) (found.pages + length (forest_pages forest)))
  unfolding children
  children_again visit each found new none [] high s b c =
      let count : found.pages + 0 ≡ found.pages = omega arith in
      rw (append-nil found.entries, count, ← some_is _ _ c) refl
  children_again visit each found new none (at ∷ rest) high s b c = absurd s
  children_again visit each found new (more key tree forest) [] high s b c = absurd s
  children_again visit each found new (more key tree forest) (at ∷ rest) high s b c =
      let both = then_some (λ next. claim_all next (map span_of (forest_pages forest))) (claim_all found.claimed (map span_of (pages_of tree))) new (rw (map-append span_of (pages_of tree) (forest_pages forest), claim_all-append found.claimed (map span_of (pages_of tree)) (map span_of (forest_pages forest))) at c) in
      let first : visit found (child_at I at) (key_at kind I at) (next_key kind I rest high) ≡ Ok (found_so_far both.0 (found.entries ++ entries_of tree) (found.pages + length (pages_of tree))) =
      rw (← s.0, ← s.1, ← next_again forest rest high s.3) (each found both.0 tree key (next_of forest high) s.2 b.0 both.1) in
      let count : (found.pages + length (pages_of tree)) + length (forest_pages forest) ≡ found.pages + length (pages_of tree ++ forest_pages forest) = omega (arith, length-append (pages_of tree) (forest_pages forest)) in
      rw first (children_again visit each (found_so_far both.0 (found.entries ++ entries_of tree) (found.pages + length (pages_of tree))) new forest rest high s.3 b.1 both.2
      ∙ ap (λ (es : List ℕ). Ok (found_so_far new es ((found.pages + length (pages_of tree)) + length (forest_pages forest)))) (append_assoc found.entries (entries_of tree) (forest_entries forest))
      ∙ ap (λ (n : ℕ). Ok (found_so_far new (found.entries ++ (entries_of tree ++ forest_entries forest)) n)) count)

pub walk_again : (kind : PageKind) (I : List ℕ) (end level : ℕ) (found : Found) (new : Claimed) (tree : Tree) (low : ℕ) (high : Option ℕ) → Spells kind I end level tree → Bounded kind I tree low high
    → claim_all found.claimed (map span_of (pages_of tree)) ≡ Some new → walk_of kind I end level found (root_of tree) low high ≡ Ok (found_so_far new (found.entries ++ entries_of tree) (found.pages + length (pages_of tree)))
unfolding walk_of
walk_again kind I end zero found new (leaf page entries) low high s b c =
    let d = then_some (λ next. Some next) (claim_of found.claimed (span_of page)) new c in
    rw (opened_again kind I end 0 found.claimed d.0 page low high s.0 d.1 (rw (← s.1) b), s.1, some_is _ _ d.2) refl
walk_again kind I end zero found new (branch page forest) low high s b c = absurd s
walk_again kind I end (suc level) found new (leaf page entries) low high s b c = absurd s
walk_again kind I end (suc level) found new (branch page forest) low high s b c =
    let d = then_some (λ next. claim_all next (map span_of (forest_pages forest))) (claim_of found.claimed (span_of page)) new c in
    let rises : Rises low high (map (key_at kind I) (entries_at I page.ib)) = rw (← keys_again kind I end level forest (entries_at I page.ib) s.1) b.0 in
    let count : (found.pages + 1) + length (forest_pages forest) ≡ found.pages + suc (length (forest_pages forest)) = omega arith in
    rw (opened_again kind I end (suc level) found.claimed d.0 page low high s.0 d.1 rises)
    (children_again kind I end level (walk_of kind I end level) (walk_again kind I end level) (found_so_far d.0 found.entries (found.pages + 1)) new forest (entries_at I page.ib) high s.1 b.1 d.2
    ∙ ap (λ (n : ℕ). Ok (found_so_far new (found.entries ++ forest_entries forest) n)) count)

-- ---- an image spells at most one tree at a place and a level

module _ (kind : PageKind) (I : List ℕ) (end level : ℕ) (each : (tree : Tree) → Spells kind I end level tree → tree ≡ tree_at kind I level (root_of tree)) where
  forest_is : (forest : Forest) (places : List ℕ) → SpellsEach kind I end level forest places → forest ≡ forest_at kind I (tree_at kind I level) places
  forest_is none [] s = refl
  forest_is none (at ∷ rest) s = absurd s
  forest_is (more key tree forest) [] s = absurd s
  forest_is (more key tree forest) (at ∷ rest) s =
      let t : tree ≡ tree_at kind I level (child_at I at) = each tree s.2 ∙ ap (tree_at kind I level) s.1 in
      ap (λ (k : ℕ). more k tree forest) s.0 ∙ ap (λ (u : Tree). more (key_at kind I at) u forest) t ∙ ap (more (key_at kind I at) (tree_at kind I level (child_at I at))) (forest_is forest rest s.3)

pub tree_is : (kind : PageKind) (I : List ℕ) (end level : ℕ) (tree : Tree) → Spells kind I end level tree → tree ≡ tree_at kind I level (root_of tree)
unfolding tree_at
tree_is kind I end zero (leaf page entries) s = ap (leaf page) s.1
tree_is kind I end zero (branch page forest) s = absurd s
tree_is kind I end (suc level) (leaf page entries) s = absurd s
tree_is kind I end (suc level) (branch page forest) s = ap (branch page) (forest_is kind I end level (tree_is kind I end level) forest (entries_at I page.ib) s.1)

-- ---- what a caller of the walk is told

-- a walk that found no fault found the tree that lies there
pub record HasWalked (kind : PageKind) (I : List ℕ) (end level : ℕ) (found new : Found) (page : Bref) (low : ℕ) (high : Option ℕ) : Type 0 where
  pub tree : IsTreeAt kind I end level page low high
  pub entries : new.entries ≡ found.entries ++ entries_of (tree_at kind I level page)
  pub pages : new.pages ≡ found.pages + length (pages_of (tree_at kind I level page))
  pub claims : claim_all found.claimed (page_spans (tree_at kind I level page)) ≡ Some new.claimed

pub has_walked : (kind : PageKind) (I : List ℕ) (end level : ℕ) (found new : Found) (page : Bref) (low : ℕ) (high : Option ℕ) → walk_of kind I end level found page low high ≡ Ok new → HasWalked kind I end level found new page low high
has_walked kind I end level found new page low high e =
    let f = walk_found kind I end level found new page low high e in
    let same : f.tree ≡ tree_at kind I level page = tree_is kind I end level f.tree f.spells ∙ ap (tree_at kind I level) f.root in
    let P : Tree → Type 0 = λ t. Spells kind I end level t × Bounded kind I t low high × (new.entries ≡ found.entries ++ entries_of t) × (new.pages ≡ found.pages + length (pages_of t)) × (claim_all found.claimed (page_spans t) ≡ Some new.claimed) in
    let all = subst P same (f.spells, f.bounded, f.entries, f.pages, f.claims) in
    record { tree = record { spells = all.0; bounded = all.1 }; entries = all.2; pages = all.3; claims = all.4 }

-- the same, of a whole tree
pub walked : (kind : PageKind) (I : List ℕ) (end level : ℕ) (old new : Claimed) (entries : List ℕ) (pages : ℕ) (page : Bref) → walk_of kind I end level (nothing_found old) page 0 None ≡ Ok (found_so_far new entries pages)
    → IsTreeAt kind I end level page 0 None × (entries ≡ entries_of (tree_at kind I level page)) × (pages ≡ length (pages_of (tree_at kind I level page))) × (claim_all old (page_spans (tree_at kind I level page)) ≡ Some new)
walked kind I end level old new entries pages page e =
    let h = has_walked kind I end level (nothing_found old) (found_so_far new entries pages) page 0 None e in
    (h.tree, h.entries, h.pages ∙ omega arith, h.claims)

pub spelt_level : (kind : PageKind) (I : List ℕ) (end level : ℕ) (tree : Tree) → Spells kind I end level tree → level_at I (root_of tree).ib ≡ level
spelt_level kind I end zero (leaf page entries) s = s.0.level_is
spelt_level kind I end zero (branch page forest) s = absurd s
spelt_level kind I end (suc level) (leaf page entries) s = absurd s
spelt_level kind I end (suc level) (branch page forest) s = s.0.level_is

-- a page says a level of 15 at most, so no tree is higher
pub tree_low : (kind : PageKind) (I : List ℕ) (end level : ℕ) (tree : Tree) → Spells kind I end level tree → level ≤ 15
tree_low kind I end zero tree s = omega arith
tree_low kind I end (suc level) (leaf page entries) s = absurd s
tree_low kind I end (suc level) (branch page forest) s = omega (arith, s.0.shape.low, s.0.level_is)

pub low_there : (kind : PageKind) (I : List ℕ) (end level : ℕ) (page : Bref) (low : ℕ) (high : Option ℕ) → IsTreeAt kind I end level page low high → level ≤ 15
low_there kind I end level page low high t = tree_low kind I end level (tree_at kind I level page) t.spells

-- where there is a tree that can be claimed, the walk finds it
pub tree_is_walked : (kind : PageKind) (I : List ℕ) (end level : ℕ) (claimed new : Claimed) (tree : Tree) (page : Bref) → IsTree kind I end page level tree → claim_all claimed (page_spans tree) ≡ Some new
    → tree_walk kind I end claimed page ≡ Ok (found_so_far new (entries_of tree) (length (pages_of tree)))
tree_is_walked kind I end level claimed new tree page t c =
    let ok = walk_again kind I end level (nothing_found claimed) new tree 0 None t.spells t.bounded c in
    let same : level_at I page.ib ≡ level = ap (λ (p : Bref). level_at I p.ib) (sym t.root_is) ∙ spelt_level kind I end level tree t.spells in
    let count : 0 + length (pages_of tree) ≡ length (pages_of tree) = omega arith in
    rw (← count, same, ← t.root_is) ok

-- so only memory can refuse it
pub not_refused : {X : Type 0} (view : X → Found) (result : Result X Fault) (kind : PageKind) (I : List ℕ) (end level : ℕ) (claimed now new : Claimed) (tree : Tree) (page : Bref) → IsTree kind I end page level tree
    → claim_all claimed (page_spans tree) ≡ Some new → GivesStepBy view result now (tree_walk kind I end claimed page) → IfErr result (λ f. f ≡ no_memory)
not_refused view (Ok x) kind I end level claimed now new tree page t c g = tt
not_refused view (Err f) kind I end level claimed now new tree page t c (inl e) = e
not_refused view (Err f) kind I end level claimed now new tree page t c (inr e) =
    let ok = tree_is_walked kind I end level claimed new tree page t c in
    absurd cc

root_at : (kind : PageKind) (I : List ℕ) (level : ℕ) (page : Bref) → root_of (tree_at kind I level page) ≡ page
unfolding tree_at
root_at kind I zero page = refl
root_at kind I (suc level) page = refl

pub tree_there : (kind : PageKind) (I : List ℕ) (end level : ℕ) (page : Bref) → IsTreeAt kind I end level page 0 None → IsTree kind I end page level (tree_at kind I level page)
tree_there kind I end level page t = record { root_is = root_at kind I level page; spells = t.spells; bounded = t.bounded }

-- ---- the laws

found_is : (found : Found) (entries : List ℕ) (pages : ℕ) → found.entries ≡ entries → found.pages ≡ pages → (let s : Step Found = Ok (found_so_far found.claimed entries pages) in s ≡ Ok found)
found_is found entries pages e p = rw (← e, ← p) refl

-- what was found is of this tree, whose pages are claimed one after another
pub record IsClaimedOf (claimed : Claimed) (found : Found) (tree : Tree) : Type 0 where
  pub entries : found.entries ≡ entries_of tree
  pub pages : found.pages ≡ length (pages_of tree)
  pub claims : claim_all claimed (page_spans tree) ≡ Some found.claimed

pub walk_claims : (kind : PageKind) (I : List ℕ) (end : ℕ) (claimed : Claimed) (root : Bref) (found : Found) →
    (tree_walk kind I end claimed root ≡ Ok found) ↔ ((level : ℕ) × (tree : Tree) × IsTree kind I end root level tree × IsClaimedOf claimed found tree)
walk_claims kind I end claimed root found = (
  λ e.
      let h = has_walked kind I end (level_at I root.ib) (nothing_found claimed) found root 0 None e in
      let count : 0 + length (pages_of (tree_at kind I (level_at I root.ib) root)) ≡ length (pages_of (tree_at kind I (level_at I root.ib) root)) = omega arith in
      (level_at I root.ib, tree_at kind I (level_at I root.ib) root, tree_there kind I end (level_at I root.ib) root h.tree, record { entries = h.entries; pages = h.pages ∙ count; claims = h.claims }),
  λ (level, tree, t, f). tree_is_walked kind I end level claimed found.claimed tree root t f.claims ∙ found_is found _ _ f.entries f.pages,
)

pub walk_law : WalkLaw
walk_law kind I end claimed root found long =
    let claims = walk_claims kind I end claimed root found in (
      λ e.
          let (level, tree, t, f) = claims.0 e in
          let apart = (claims_law claimed found.claimed (page_spans tree) (tree_units kind I end level claimed tree long t.spells)).0 f.claims in
          (level, tree, t, record { entries = f.entries; pages = f.pages; free = apart.0; apart = apart.1; claims = apart.2 }),
      λ (level, tree, t, f).
          let all = (claims_law claimed found.claimed (page_spans tree) (tree_units kind I end level claimed tree long t.spells)).1 (f.free, f.apart, f.claims) in
          claims.1 (level, tree, t, record { entries = f.entries; pages = f.pages; claims = all }),
    )

pub one_tree_law : OneTreeLaw
one_tree_law kind I end root level other tree second t u =
    let a : level_at I root.ib ≡ level = ap (λ (p : Bref). level_at I p.ib) (sym t.root_is) ∙ spelt_level kind I end level tree t.spells in
    let b : level_at I root.ib ≡ other = ap (λ (p : Bref). level_at I p.ib) (sym u.root_is) ∙ spelt_level kind I end other second u.spells in
    let same : level ≡ other = sym a ∙ b in
    let left : tree ≡ tree_at kind I level root = tree_is kind I end level tree t.spells ∙ ap (tree_at kind I level) t.root_is in
    let right : second ≡ tree_at kind I other root = tree_is kind I end other second u.spells ∙ ap (tree_at kind I other) u.root_is in
    (same, left ∙ ap (λ (n : ℕ). tree_at kind I n root) same ∙ sym right)
