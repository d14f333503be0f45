-- The entries from a key on, through the pages.
use Rattle.std.proofs.Common.{◌≡◌, ℕ, suc, zero, ◌+◌, ◌-◌, ◌*◌, ◌<◌, ◌≤◌, true, List, [], ◌∷◌, ◌++◌, take, map, Option, Some, None, refl, sym, ap, subst, ◌∙◌, arith}
use Rattle.std.proofs.lemmas.Bool.{le-leb}
use Rattle.pst_header.specs.declared.header.Bref.{Bref}
use Rattle.pst_page.specs.declared.kind.PageKind.{PageKind}
use Rattle.pst_page.specs.Page.{count_at, width_at, level_at, entries_from}
use Rattle.pst_page.specs.Entry.{key_at, child_at, node_entry_at}
use Rattle.pst_page.specs.Fault.{has_shape}
use Rattle.pst_page.proofs.EntryLemmas.{entries_from_start, entries_from_next}
use Rattle.pst_btree.specs.Find.{rest_from, IsStretch, IsUpTo}
use Rattle.pst_btree.specs.Order.{Rises}
use Rattle.pst_btree.specs.Tree.{entries_of, forest_entries, forest_keys, tree_at, forest_at, SpellsEach, BoundedEach, IsTreeAt, HasTreeAt}
use Rattle.pst_btree.proofs.FindLemmas.{leaf_entries, below_start, below_next, below_end, below_from, forest_from, spelt_page, page_inside, page_shape}
use Rattle.pst_btree.proofs.RiseLemmas.{tree_rises, none_left, rest-append}
use Rattle.pst_btree.proofs.StretchLemmas.{take_before, stretch_first, stretch_behind}

none-append : (kind : PageKind) (I : List ℕ) (low : ℕ) (xs ys : List ℕ) → rest_from kind I low xs ≡ [] → rest_from kind I low (xs ++ ys) ≡ rest_from kind I low ys
none-append kind I low xs ys e = rest-append kind I low xs ys ∙ ap (λ (es : List ℕ). es ++ rest_from kind I low ys) e

-- what a stretch of a child's entries is of all, where the children before that one are passed over
pub child_stretch : (kind : PageKind) (I : List ℕ) (low level ib i at width count : ℕ) (entries : List ℕ) → i < count_at I ib → rest_from kind I low (below_from kind I level ib i) ≡ rest_from kind I low entries
    → IsStretch kind I (entries_of (tree_at kind I level (child_at I (ib + i * width_at I ib)))) low at width count → IsStretch kind I entries low at width count
child_stretch kind I low level ib i at width count entries lt left s =
    let child = entries_of (tree_at kind I level (child_at I (ib + i * width_at I ib))) in
    let others = below_from kind I level ib (i + 1) in
    let all : rest_from kind I low entries ≡ rest_from kind I low child ++ rest_from kind I low others = sym left ∙ ap (rest_from kind I low) (below_next kind I level ib i lt) ∙ rest-append kind I low child others in
    record {
      first = ap (take count) all ∙ take_before count _ _ at width s.first;
      wide = s.wide;
      inside = s.inside;
      small = s.small;
    }

pub rest_passed : (kind : PageKind) (I : List ℕ) (low level ib i : ℕ) → i < count_at I ib → rest_from kind I low (entries_of (tree_at kind I level (child_at I (ib + i * width_at I ib)))) ≡ []
    → rest_from kind I low (below_from kind I level ib i) ≡ rest_from kind I low (below_from kind I level ib (i + 1))
rest_passed kind I low level ib i lt e = rw (below_next kind I level ib i lt) (none-append kind I low _ _ e)

pub rest_end : (kind : PageKind) (I : List ℕ) (low level ib i : ℕ) → count_at I ib ≤ i → rest_from kind I low (below_from kind I level ib i) ≡ []
rest_end kind I low level ib i le = rw (below_end kind I level ib i le) refl

-- ---- the children from one on, with their bounds

unfoldable pub AreKept : PageKind → List ℕ → ℕ → ℕ → ℕ → ℕ → Type 0
AreKept kind I end level ib i = (low : ℕ) × (high : Option ℕ) × SpellsEach kind I end level (forest_from kind I level ib i) (entries_from I ib i)
    × BoundedEach kind I (forest_from kind I level ib i) high × Rises low high (forest_keys (forest_from kind I level ib i))

-- the same, of the entries at some places
abbrev KeptAt : PageKind → List ℕ → ℕ → ℕ → List ℕ → Type 0
KeptAt kind I end level ps = (low : ℕ) × (high : Option ℕ) × SpellsEach kind I end level (forest_at kind I (tree_at kind I level) ps) ps
    × BoundedEach kind I (forest_at kind I (tree_at kind I level) ps) high × Rises low high (forest_keys (forest_at kind I (tree_at kind I level) ps))

pub has_tree : (kind : PageKind) (I : List ℕ) (end level : ℕ) (page : Bref) → IsTreeAt kind I end level page 0 None → HasTreeAt kind I end level page
has_tree kind I end level page t = record { low = 0; high = None; tree = t }

pub has_page_inside : (kind : PageKind) (I : List ℕ) (end level : ℕ) (page : Bref) → HasTreeAt kind I end level page → page.ib + 512 ≤ end
has_page_inside kind I end level page h = page_inside kind I end level page (spelt_page kind I end level page h.tree.spells)

pub has_page_shape : (kind : PageKind) (I : List ℕ) (end level : ℕ) (page : Bref) → HasTreeAt kind I end level page → has_shape kind I page.ib ≡ true
has_page_shape kind I end level page h = page_shape kind I end level page (spelt_page kind I end level page h.tree.spells)

pub has_level : (kind : PageKind) (I : List ℕ) (end level : ℕ) (page : Bref) → HasTreeAt kind I end level page → level_at I page.ib ≡ level
has_level kind I end level page h = (spelt_page kind I end level page h.tree.spells).level_is

pub kept_start : (kind : PageKind) (I : List ℕ) (end level below : ℕ) (page : Bref) → HasTreeAt kind I end level page → level ≡ below + 1 → AreKept kind I end below page.ib 0
unfolding tree_at AreKept forest_from
kept_start kind I end zero below page h e = absurd (omega arith)
kept_start kind I end (suc level) below page h e =
    let same : level ≡ below = omega arith in
    rw (entries_from_start I page.ib, ← same) (h.low, h.high, h.tree.spells.1, h.tree.bounded.1, h.tree.bounded.0)

kept_at_child : (kind : PageKind) (I : List ℕ) (end level p : ℕ) (ps : List ℕ) → KeptAt kind I end level (p ∷ ps) → HasTreeAt kind I end level (child_at I p)
kept_at_child kind I end level p [] k = record { low = key_at kind I p; high = k.1; tree = record { spells = k.2.2; bounded = k.3.0 } }
kept_at_child kind I end level p (q ∷ ps) k = record { low = key_at kind I p; high = Some (key_at kind I q); tree = record { spells = k.2.2; bounded = k.3.0 } }

pub kept_child : (kind : PageKind) (I : List ℕ) (end level ib i : ℕ) → AreKept kind I end level ib i → i < count_at I ib → HasTreeAt kind I end level (child_at I (ib + i * width_at I ib))
unfolding AreKept forest_from
kept_child kind I end level ib i k lt = kept_at_child kind I end level _ _ (subst (KeptAt kind I end level) (entries_from_next I ib i lt) k)

pub kept_rest : (kind : PageKind) (I : List ℕ) (end level ib i : ℕ) → AreKept kind I end level ib i → i < count_at I ib → AreKept kind I end level ib (i + 1)
unfolding AreKept forest_from
kept_rest kind I end level ib i k lt =
    let h : KeptAt kind I end level (_ ∷ entries_from I ib (i + 1)) = subst (KeptAt kind I end level) (entries_from_next I ib i lt) k in
    (_, h.1, h.2.3, h.3.1, h.4.2)

-- ---- children whose keys are all lower

skip_at : (kind : PageKind) (I : List ℕ) (end level low p q : ℕ) (ps : List ℕ) → KeptAt kind I end level (p ∷ q ∷ ps) → key_at kind I q ≤ low
    → (key_at kind I p ≤ low) × (rest_from kind I low (forest_entries (forest_at kind I (tree_at kind I level) (p ∷ q ∷ ps))) ≡ rest_from kind I low (forest_entries (forest_at kind I (tree_at kind I level) (q ∷ ps))))
skip_at kind I end level low p q ps k le =
    let rises = tree_rises kind I (tree_at kind I level (child_at I p)) (key_at kind I p) (Some (key_at kind I q)) k.3.0 in
    let less = k.4.2.0 in
    (omega (arith, less, le), none-append kind I low _ _ (none_left kind I low (key_at kind I p) (key_at kind I q) _ le rises))

skip_one : (kind : PageKind) (I : List ℕ) (end level ib i low : ℕ) → AreKept kind I end level ib i → i + 1 < count_at I ib → key_at kind I (ib + (i + 1) * width_at I ib) ≤ low
    → (key_at kind I (ib + i * width_at I ib) ≤ low) × (rest_from kind I low (below_from kind I level ib i) ≡ rest_from kind I low (below_from kind I level ib (i + 1)))
unfolding AreKept below_from forest_from
skip_one kind I end level ib i low k lt le =
    let here = entries_from_next I ib i (omega arith) in
    let next = entries_from_next I ib (i + 1) lt in
    let h = subst (λ (ps : List ℕ). KeptAt kind I end level ((ib + i * width_at I ib) ∷ ps)) next (subst (KeptAt kind I end level) here k) in
    rw (here, next) (skip_at kind I end level low _ _ _ h le)

-- from the first child to the last one whose key is at most low
pub skip_to : (kind : PageKind) (I : List ℕ) (end level ib low : ℕ) (i : ℕ) → AreKept kind I end level ib 0 → i < count_at I ib → (0 < i → key_at kind I (ib + i * width_at I ib) ≤ low)
    → AreKept kind I end level ib i × (rest_from kind I low (below_from kind I level ib i) ≡ rest_from kind I low (below_from kind I level ib 0))
skip_to kind I end level ib low zero k lt le = (k, refl)
skip_to kind I end level ib low (suc i) k lt le =
    let next : suc i ≡ i + 1 = omega arith in
    let kept = kept_before i (omega arith) in
    let s = skip_one kind I end level ib i low kept (omega arith) (rw next at (le (omega arith))) in
    let before = skip_to kind I end level ib low i k (omega arith) (λ some. s.0) in
    rw next (kept_rest kind I end level ib i kept (omega arith), sym s.1 ∙ before.1)
  where
    kept_before : (j : ℕ) → j < count_at I ib → AreKept kind I end level ib j
    kept_before zero lt = k
    kept_before (suc j) lt =
        let next : suc j ≡ j + 1 = omega arith in
        rw next (kept_rest kind I end level ib j (kept_before j (omega arith)) (omega arith))

-- where a loop over the children may begin
pub record Begins (kind : PageKind) (I : List ℕ) (end level ib low i : ℕ) : Type 0 where
  pub kept : AreKept kind I end level ib i
  pub left : rest_from kind I low (below_from kind I level ib i) ≡ rest_from kind I low (below_from kind I level ib 0)

pub begins : (kind : PageKind) (I : List ℕ) (end level ib low n : ℕ) → AreKept kind I end level ib 0 → IsUpTo kind I ib low n → Begins kind I end level ib low (n - 1)
begins kind I end level ib low zero k u = record { kept = rw nothing k; left = rw nothing refl }
  where
    nothing : zero - 1 ≡ 0
    nothing = omega arith
begins kind I end level ib low (suc n) k u =
    let s = skip_to kind I end level ib low (suc n - 1) k (omega (arith, u.within)) (λ some. u.before (omega arith)) in
    record { kept = s.0; left = s.1 }

pub ruleset from_steps = (leaf_entries, kept_child, kept_rest, rest_passed, rest_end, child_stretch)

-- ---- what is left of a tree

pub left_some : (kind : PageKind) (I : List ℕ) (end level : ℕ) (page : Bref) (low at width count : ℕ) → IsTreeAt kind I end level page 0 None → IsStretch kind I (entries_of (tree_at kind I level page)) low at width count → 0 < count
    → map (node_entry_at I) (rest_from kind I low (entries_of (tree_at kind I level page))) ≡ node_entry_at I at ∷ map (node_entry_at I) (rest_from kind I (key_at kind I at + 1) (entries_of (tree_at kind I level page)))
left_some kind I end level page low at width count t s some =
    ap (map (node_entry_at I)) (stretch_first kind I 0 None (entries_of (tree_at kind I level page)) low at width count (tree_rises kind I (tree_at kind I level page) 0 None t.bounded) s some)

pub left_none : (kind : PageKind) (I : List ℕ) (level : ℕ) (page : Bref) (low : ℕ) → rest_from kind I low (entries_of (tree_at kind I level page)) ≡ [] → map (node_entry_at I) (rest_from kind I low (entries_of (tree_at kind I level page))) ≡ []
left_none kind I level page low e = ap (map (node_entry_at I)) e

-- the stretch that is left behind its first entry
pub left_stretch : (kind : PageKind) (I : List ℕ) (end level : ℕ) (page : Bref) (low at width count less : ℕ) → IsTreeAt kind I end level page 0 None → IsStretch kind I (entries_of (tree_at kind I level page)) low at width count → count ≡ less + 1
    → IsStretch kind I (entries_of (tree_at kind I level page)) (key_at kind I at + 1) (at + width) width less
left_stretch kind I end level page low at width count less t s e =
    stretch_behind kind I 0 None (entries_of (tree_at kind I level page)) low at width count less (tree_rises kind I (tree_at kind I level page) 0 None t.bounded) s e

pub rest_from_zero : (kind : PageKind) (I : List ℕ) (entries : List ℕ) → rest_from kind I 0 entries ≡ entries
rest_from_zero kind I [] = refl
rest_from_zero kind I (at ∷ rest) = rw (le-leb 0 (key_at kind I at) (omega arith)) (ap (λ (es : List ℕ). at ∷ es) (rest_from_zero kind I rest))
