-- A look-up that goes down one path.
use Rattle.std.proofs.Common.{◌≡◌, ◌≢◌, ℕ, suc, zero, ◌+◌, ◌-◌, ◌*◌, ◌<◌, ◌≤◌, cond, eqb, List, [], ◌∷◌, ◌++◌, map, length, get_or, Option, Some, None, refl, sym, ap, subst, ◌∙◌, arith, le_refl}
use Rattle.std.proofs.lemmas.Bool.{ltb-true}
use Rattle.std.proofs.lemmas.List.{append-nil}
use Rattle.pst_header.specs.declared.header.Bref.{Bref}
use Rattle.pst_page.specs.declared.kind.PageKind.{PageKind}
use Rattle.pst_page.specs.Page.{entries_at, places, count_at, width_at}
use Rattle.pst_page.specs.Entry.{key_at, child_at}
use Rattle.pst_page.proofs.EntryLemmas.{entries_count}
use Rattle.pst_btree.specs.Find.{first_at, IsUpTo}
use Rattle.pst_btree.specs.Order.{Rises}
use Rattle.pst_btree.specs.Tree.{Forest, entries_of, forest_entries, forest_keys, SpellsEach, BoundedEach, tree_at, forest_at, IsTreeAt, IsPage}
use Rattle.pst_btree.proofs.FindLemmas.{first_here, first_later, first_none, first_none-append, spelt_page}
use Rattle.pst_btree.proofs.RiseLemmas.{tree_rises, forest_rises}
use Rattle.pst_btree.proofs.EntryLemmas.{at_least}

-- ---- a key that is not there

none_low : (kind : PageKind) (I : List ℕ) (key low : ℕ) (high : Option ℕ) (entries : List ℕ) → key < low → Rises low high (map (key_at kind I) entries) → first_at kind I key entries ≡ None
none_low kind I key low high [] lt r = first_none kind I key
none_low kind I key low high (at ∷ rest) lt r =
    let ne : key_at kind I at ≢ key = λ e. omega (arith, r.0) in
    first_later kind I key at rest ne ∙ none_low kind I key (key_at kind I at + 1) high rest (omega (arith, r.0)) r.2

none_high : (kind : PageKind) (I : List ℕ) (key low high : ℕ) (entries : List ℕ) → high ≤ key → Rises low (Some high) (map (key_at kind I) entries) → first_at kind I key entries ≡ None
none_high kind I key low high [] le r = first_none kind I key
none_high kind I key low high (at ∷ rest) le r =
    let below : key_at kind I at < high = ltb-true _ _ r.1 in
    let ne : key_at kind I at ≢ key = λ e. omega arith in
    first_later kind I key at rest ne ∙ none_high kind I key (key_at kind I at + 1) high rest le r.2

none_after : (kind : PageKind) (I : List ℕ) (key : ℕ) (xs ys : List ℕ) → first_at kind I key ys ≡ None → first_at kind I key (xs ++ ys) ≡ first_at kind I key xs
unfolding first_at
none_after kind I key [] ys e = e
none_after kind I key (x ∷ xs) ys e = ap (cond (eqb (key_at kind I x) key) (Some x)) (none_after kind I key xs ys e)

-- ---- one step down

module _ (kind : PageKind) (I : List ℕ) (end below key : ℕ) where
  abbrev trees_at : List ℕ → Forest
  trees_at ps = forest_at kind I (tree_at kind I below) ps

  keys_at : (ps : List ℕ) → forest_keys (trees_at ps) ≡ map (key_at kind I) ps
  keys_at [] = refl
  keys_at (p ∷ ps) = ap (λ (ks : List ℕ). key_at kind I p ∷ ks) (keys_at ps)

  -- the child's tree, and that the key is looked for in it alone
  record StepsDown (ps : List ℕ) (child : Bref) : Type 0 where
    low : ℕ
    high : Option ℕ
    tree : IsTreeAt kind I end below child low high
    same : first_at kind I key (entries_of (tree_at kind I below child)) ≡ first_at kind I key (forest_entries (trees_at ps))

  steps_down : (ps : List ℕ) (i low : ℕ) (high : Option ℕ) → SpellsEach kind I end below (trees_at ps) ps → BoundedEach kind I (trees_at ps) high → Rises low high (forest_keys (trees_at ps))
      → i < length ps → key_at kind I (get_or ps i 0) ≤ key → (suc i < length ps → key < key_at kind I (get_or ps (suc i) 0)) → StepsDown ps (child_at I (get_or ps i 0))
  steps_down [] i low high s b r lt le after = absurd (omega arith)
  steps_down (p ∷ []) zero low high s b r lt le after = record {
    low = key_at kind I p;
    high = high;
    tree = record { spells = s.2; bounded = b.0 };
    same = ap (first_at kind I key) (sym (append-nil (entries_of (tree_at kind I below (child_at I p)))));
  }
  steps_down (p ∷ q ∷ ps) zero low high s b r lt le after =
      let next : key < key_at kind I q = after (omega arith) in
      let rises = forest_rises kind I (trees_at (q ∷ ps)) (key_at kind I q) high (le_refl (key_at kind I q), r.2.1, r.2.2) b.1 in
      record {
        low = key_at kind I p;
        high = Some (key_at kind I q);
        tree = record { spells = s.2; bounded = b.0 };
        same = sym (none_after kind I key (entries_of (tree_at kind I below (child_at I p))) (forest_entries (trees_at (q ∷ ps))) (none_low kind I key (key_at kind I q) high _ next rises));
      }
  steps_down (p ∷ []) (suc i) low high s b r lt le after = absurd (omega arith)
  steps_down (p ∷ q ∷ ps) (suc i) low high s b r lt le after =
      let rest = steps_down (q ∷ ps) i (key_at kind I p + 1) high s.3 b.1 r.2 (omega arith) le (λ h. after (omega arith)) in
      let keys : Rises (key_at kind I q) high (map (key_at kind I) (q ∷ ps)) = (le_refl (key_at kind I q), r.2.1, subst (λ (ks : List ℕ). Rises (key_at kind I q + 1) high ks) (keys_at ps) r.2.2) in
      let reach : key_at kind I q ≤ key_at kind I (get_or (q ∷ ps) i 0) = at_least (key_at kind I) (key_at kind I q) high (q ∷ ps) i 0 (omega arith) keys in
      let rises = tree_rises kind I (tree_at kind I below (child_at I p)) (key_at kind I p) (Some (key_at kind I q)) b.0 in
      let no : first_at kind I key (entries_of (tree_at kind I below (child_at I p))) ≡ None = none_high kind I key (key_at kind I p) (key_at kind I q) _ (omega arith) rises in
      record {
        low = rest.low;
        high = rest.high;
        tree = rest.tree;
        same = rest.same ∙ sym (first_none-append kind I key (entries_of (tree_at kind I below (child_at I p))) (forest_entries (trees_at (q ∷ ps))) no);
      }

-- ---- in a leaf

leaf_some : (kind : PageKind) (I : List ℕ) (key low : ℕ) (high : Option ℕ) (ps : List ℕ) (i : ℕ) → Rises low high (map (key_at kind I) ps) → i < length ps → key_at kind I (get_or ps i 0) ≡ key → first_at kind I key ps ≡ Some (get_or ps i 0)
leaf_some kind I key low high [] i r lt e = absurd (omega arith)
leaf_some kind I key low high (p ∷ ps) zero r lt e = first_here kind I key p ps e
leaf_some kind I key low high (p ∷ ps) (suc i) r lt e =
    let reach = at_least (key_at kind I) (key_at kind I p + 1) high ps i 0 (omega arith) r.2 in
    let ne : key_at kind I p ≢ key = λ same. omega (arith, reach, e, same) in
    first_later kind I key p ps ne ∙ leaf_some kind I key (key_at kind I p + 1) high ps i r.2 (omega arith) e

leaf_none : (kind : PageKind) (I : List ℕ) (key low : ℕ) (high : Option ℕ) (ps : List ℕ) (i : ℕ) → Rises low high (map (key_at kind I) ps) → i < length ps → key_at kind I (get_or ps i 0) < key
    → (suc i < length ps → key < key_at kind I (get_or ps (suc i) 0)) → first_at kind I key ps ≡ None
leaf_none kind I key low high [] i r lt less after = absurd (omega arith)
leaf_none kind I key low high (p ∷ []) zero r lt less after = first_later kind I key p [] (λ e. omega (arith, less, e)) ∙ first_none kind I key
leaf_none kind I key low high (p ∷ q ∷ ps) zero r lt less after =
    first_later kind I key p (q ∷ ps) (λ e. omega (arith, less, e)) ∙ none_low kind I key (key_at kind I q) high (q ∷ ps) (after (omega arith)) (le_refl (key_at kind I q), r.2.1, r.2.2)
leaf_none kind I key low high (p ∷ ps) (suc i) r lt less after =
    let reach = at_least (key_at kind I) (key_at kind I p + 1) high ps i 0 (omega arith) r.2 in
    let ne : key_at kind I p ≢ key = λ same. omega (arith, reach, less, same) in
    first_later kind I key p ps ne ∙ leaf_none kind I key (key_at kind I p + 1) high ps i r.2 (omega arith) less (λ h. after (omega arith))

none_before : (kind : PageKind) (I : List ℕ) (key low : ℕ) (high : Option ℕ) (ps : List ℕ) → Rises low high (map (key_at kind I) ps) → (0 < length ps → key < key_at kind I (get_or ps 0 0)) → first_at kind I key ps ≡ None
none_before kind I key low high [] r h = first_none kind I key
none_before kind I key low high (p ∷ ps) r h = none_low kind I key (key_at kind I p) high (p ∷ ps) (h (omega arith)) (le_refl (key_at kind I p), r.1, r.2)

none_in_forest : (kind : PageKind) (I : List ℕ) (below key low : ℕ) (high : Option ℕ) (ps : List ℕ) → BoundedEach kind I (forest_at kind I (tree_at kind I below) ps) high → Rises low high (forest_keys (forest_at kind I (tree_at kind I below) ps))
    → (0 < length ps → key < key_at kind I (get_or ps 0 0)) → first_at kind I key (forest_entries (forest_at kind I (tree_at kind I below) ps)) ≡ None
none_in_forest kind I below key low high [] b r h = first_none kind I key
none_in_forest kind I below key low high (p ∷ ps) b r h =
    none_low kind I key (key_at kind I p) high (forest_entries (forest_at kind I (tree_at kind I below) (p ∷ ps))) (h (omega arith))
    (forest_rises kind I (forest_at kind I (tree_at kind I below) (p ∷ ps)) (key_at kind I p) high (le_refl (key_at kind I p), r.1, r.2) b)

-- ---- the entries of a page by their number

place_at : (at width n i : ℕ) → i < n → get_or (places at width n) i 0 ≡ at + i * width
place_at at width zero i lt = absurd (omega arith)
place_at at width (suc n) zero lt = omega arith
place_at at width (suc n) (suc i) lt = place_at (at + width) width n i (omega arith) ∙ omega arith

pub entry_at : (I : List ℕ) (ib i : ℕ) → i < count_at I ib → get_or (entries_at I ib) i 0 ≡ ib + i * width_at I ib
unfolding entries_at
entry_at I ib i lt = place_at ib (width_at I ib) (count_at I ib) i lt

-- ---- a path from the root down

-- the key is looked for below this page alone
pub record IsPath (kind : PageKind) (I : List ℕ) (end level : ℕ) (page : Bref) (key : ℕ) (all : List ℕ) : Type 0 where
  pub low : ℕ
  pub high : Option ℕ
  pub tree : IsTreeAt kind I end level page low high
  pub same : first_at kind I key (entries_of (tree_at kind I level page)) ≡ first_at kind I key all

pub path_start : (kind : PageKind) (I : List ℕ) (end level : ℕ) (page : Bref) (key low : ℕ) (high : Option ℕ) → IsTreeAt kind I end level page low high
    → IsPath kind I end level page key (entries_of (tree_at kind I level page))
path_start kind I end level page key low high t = record { low = low; high = high; tree = t; same = refl }

pub path_page : (kind : PageKind) (I : List ℕ) (end level : ℕ) (page : Bref) (key : ℕ) (all : List ℕ) → IsPath kind I end level page key all → IsPage kind I end level page
path_page kind I end level page key all p = spelt_page kind I end level page p.tree.spells

pub path_down : (kind : PageKind) (I : List ℕ) (end level below : ℕ) (page : Bref) (key : ℕ) (all : List ℕ) (n : ℕ) → IsPath kind I end level page key all → level ≡ below + 1 → IsUpTo kind I page.ib key n → 0 < n
    → IsPath kind I end below (child_at I (page.ib + (n - 1) * width_at I page.ib)) key all
unfolding tree_at
path_down kind I end zero below page key all n p e u some = absurd (omega arith)
path_down kind I end (suc level) below page key all n p e u some =
    let same : level ≡ below = omega arith in
    let ps = entries_at I page.ib in
    let here : get_or ps (n - 1) 0 ≡ page.ib + (n - 1) * width_at I page.ib = entry_at I page.ib (n - 1) (omega (arith, u.within)) in
    let long = entries_count I page.ib in
    let d = steps_down kind I end level key ps (n - 1) p.low p.high p.tree.spells.1 p.tree.bounded.1 p.tree.bounded.0 (omega (arith, u.within, long)) (rw here (u.before some)) (λ h.
    let next : suc (n - 1) ≡ n = omega arith in
    let lt : n < count_at I page.ib = omega (arith, long) in
    rw (next, entry_at I page.ib n lt) (u.after lt)) in
    let P : ℕ → ℕ → Type 0 = λ l at. IsPath kind I end l (child_at I at) key all in
    subst (λ (l : ℕ). P l (page.ib + (n - 1) * width_at I page.ib)) same (subst (P level) here (record { low = d.low; high = d.high; tree = d.tree; same = d.same ∙ p.same }))

-- no entry of the page has a key of at most this one
pub path_none : (kind : PageKind) (I : List ℕ) (end level : ℕ) (page : Bref) (key : ℕ) (all : List ℕ) → IsPath kind I end level page key all → IsUpTo kind I page.ib key 0 → first_at kind I key all ≡ None
unfolding tree_at
path_none kind I end zero page key all p u =
    let ps = entries_at I page.ib in
    let long = entries_count I page.ib in
    sym p.same ∙ none_before kind I key p.low p.high ps p.tree.bounded (λ h.
    let lt : 0 < count_at I page.ib = omega (arith, long) in
    rw (entry_at I page.ib 0 lt) (u.after lt))
path_none kind I end (suc level) page key all p u =
    let ps = entries_at I page.ib in
    let long = entries_count I page.ib in
    sym p.same ∙ none_in_forest kind I level key p.low p.high ps p.tree.bounded.1 p.tree.bounded.0 (λ h.
    let lt : 0 < count_at I page.ib = omega (arith, long) in
    rw (entry_at I page.ib 0 lt) (u.after lt))

pub path_leaf_some : (kind : PageKind) (I : List ℕ) (end : ℕ) (page : Bref) (key : ℕ) (all : List ℕ) (n : ℕ) → IsPath kind I end 0 page key all → IsUpTo kind I page.ib key n → 0 < n
    → key_at kind I (page.ib + (n - 1) * width_at I page.ib) ≡ key → first_at kind I key all ≡ Some (page.ib + (n - 1) * width_at I page.ib)
unfolding tree_at
path_leaf_some kind I end page key all n p u some e =
    let ps = entries_at I page.ib in
    let here : get_or ps (n - 1) 0 ≡ page.ib + (n - 1) * width_at I page.ib = entry_at I page.ib (n - 1) (omega (arith, u.within)) in
    let long = entries_count I page.ib in
    sym p.same ∙ leaf_some kind I key p.low p.high ps (n - 1) p.tree.bounded (omega (arith, u.within, long)) (rw here e) ∙ ap Some here

pub path_leaf_none : (kind : PageKind) (I : List ℕ) (end : ℕ) (page : Bref) (key : ℕ) (all : List ℕ) (n : ℕ) → IsPath kind I end 0 page key all → IsUpTo kind I page.ib key n → 0 < n
    → key_at kind I (page.ib + (n - 1) * width_at I page.ib) ≢ key → first_at kind I key all ≡ None
unfolding tree_at
path_leaf_none kind I end page key all n p u some ne =
    let ps = entries_at I page.ib in
    let here : get_or ps (n - 1) 0 ≡ page.ib + (n - 1) * width_at I page.ib = entry_at I page.ib (n - 1) (omega (arith, u.within)) in
    let long = entries_count I page.ib in
    let le = u.before some in
    let less : key_at kind I (page.ib + (n - 1) * width_at I page.ib) < key = omega (arith, le, ne) in
    sym p.same ∙ leaf_none kind I key p.low p.high ps (n - 1) p.tree.bounded (omega (arith, u.within, long)) (rw here less) (λ h.
    let next : suc (n - 1) ≡ n = omega arith in
    let lt : n < count_at I page.ib = omega (arith, long) in
    rw (next, entry_at I page.ib n lt) (u.after lt))
