-- The keys of all entries of a bounded tree rise.
use Rattle.std.proofs.Common.{◌≡◌, ℕ, ◌+◌, ◌<◌, ◌≤◌, List, [], ◌∷◌, ◌++◌, get_or, drop, map, Option, Some, None, refl, sym, ap, subst, ◌∙◌, arith, inl, inr, le_refl}
use Rattle.std.proofs.lemmas.Bool.{le-leb, lt-leb, ltb-true, lt-ltb, cases_lt}
use Rattle.std.proofs.lemmas.List.{map-append, append-nil}
use Rattle.pst_page.specs.declared.kind.PageKind.{PageKind}
use Rattle.pst_page.specs.Entry.{key_at}
use Rattle.pst_btree.specs.Find.{rest_from}
use Rattle.pst_btree.specs.Order.{Rises, IsBelow}
use Rattle.pst_btree.specs.Tree.{Tree, leaf, branch, Forest, none, more, entries_of, forest_entries, forest_keys, Bounded, BoundedEach}

pub lower : (low less : ℕ) (high : Option ℕ) (keys : List ℕ) → less ≤ low → Rises low high keys → Rises less high keys
lower low less high [] le r = tt
lower low less high (k ∷ ks) le r = (omega (arith, r.0), r.1, r.2)

below_less : (k m : ℕ) (high : Option ℕ) → k < m → IsBelow m high → IsBelow k high
below_less k m None lt b = refl
below_less k m (Some h) lt b = lt-ltb _ _ (omega (arith, ltb-true m h b))

-- keys below m, and then keys from m on
pub rises_join : (low m : ℕ) (high : Option ℕ) (xs ys : List ℕ) → low ≤ m → IsBelow m high → Rises low (Some m) xs → Rises m high ys → Rises low high (xs ++ ys)
rises_join low m high [] ys le b r s = lower m low high ys le s
rises_join low m high (x ∷ xs) ys le b r s =
    let lt : x < m = ltb-true _ _ r.1 in
    (r.0, below_less x m high lt b, rises_join (x + 1) m high xs ys (omega arith) b r.2 s)

mutual
  pub tree_rises : (kind : PageKind) (I : List ℕ) (tree : Tree) (low : ℕ) (high : Option ℕ) → Bounded kind I tree low high → Rises low high (map (key_at kind I) (entries_of tree))
  tree_rises kind I (leaf page entries) low high b = b
  tree_rises kind I (branch page children) low high b = forest_rises kind I children low high b.0 b.1

  pub forest_rises : (kind : PageKind) (I : List ℕ) (forest : Forest) (low : ℕ) (high : Option ℕ) → Rises low high (forest_keys forest) → BoundedEach kind I forest high → Rises low high (map (key_at kind I) (forest_entries forest))
  forest_rises kind I none low high r b = tt
  forest_rises kind I (more key tree none) low high r b =
      rw (map-append (key_at kind I) (entries_of tree) [], append-nil (map (key_at kind I) (entries_of tree))) (lower key low high _ r.0 (tree_rises kind I tree key high b.0))
  forest_rises kind I (more key tree (more next other rest)) low high r b =
      rw (map-append (key_at kind I) (entries_of tree) (forest_entries (more next other rest)))
      (lower key low high _ r.0
      (rises_join key next high _ _ (omega (arith, r.2.0)) r.2.1 (tree_rises kind I tree key (Some next) b.0) (forest_rises kind I (more next other rest) next high (le_refl next, r.2.1, r.2.2) b.1)))

-- ---- the entries from a key on

pub rest_later : (kind : PageKind) (I : List ℕ) (low at : ℕ) (rest : List ℕ) → key_at kind I at < low → rest_from kind I low (at ∷ rest) ≡ rest_from kind I low rest
rest_later kind I low at rest lt = rw (lt-leb low (key_at kind I at) lt) refl

-- all of keys that rise from low on are at least low
pub all_left : (kind : PageKind) (I : List ℕ) (low less : ℕ) (high : Option ℕ) (entries : List ℕ) → less ≤ low → Rises low high (map (key_at kind I) entries) → rest_from kind I less entries ≡ entries
all_left kind I low less high [] le r = refl
all_left kind I low less high (at ∷ rest) le r =
    let k : less ≤ key_at kind I at = omega (arith, r.0) in
    rw (le-leb _ _ k) (ap (λ (es : List ℕ). at ∷ es) (all_left kind I (key_at kind I at + 1) less high rest (omega arith) r.2))

-- none of keys that rise below a bound is at least that bound
pub none_left : (kind : PageKind) (I : List ℕ) (low least high : ℕ) (entries : List ℕ) → high ≤ low → Rises least (Some high) (map (key_at kind I) entries) → rest_from kind I low entries ≡ []
none_left kind I low least high [] le r = refl
none_left kind I low least high (at ∷ rest) le r =
    let below : key_at kind I at < high = ltb-true _ _ r.1 in
    rest_later kind I low at rest (omega arith) ∙ none_left kind I low (key_at kind I at + 1) high rest le r.2

-- the first of them is at least low, and those behind it are the entries behind its key
pub rest_first : (kind : PageKind) (I : List ℕ) (least low : ℕ) (high : Option ℕ) (entries : List ℕ) (at : ℕ) (rest : List ℕ) → Rises least high (map (key_at kind I) entries) → rest_from kind I low entries ≡ at ∷ rest
    → (low ≤ key_at kind I at) × (rest_from kind I (key_at kind I at + 1) entries ≡ rest)
rest_first kind I least low high [] at rest r e = absurd cc
rest_first kind I least low high (x ∷ xs) at rest r e =
    elim (cases_lt (key_at kind I x) low) [
      | inl lt ↦
          let h = rw (lt-leb low (key_at kind I x) lt) at e in
          let ih = rest_first kind I (key_at kind I x + 1) low high xs at rest r.2 h in
          (ih.0, rw (lt-leb (key_at kind I at + 1) (key_at kind I x) (omega (arith, ih.0))) ih.1)
      | inr le ↦
          let h : x ∷ rest_from kind I low xs ≡ at ∷ rest = rw (le-leb low (key_at kind I x) le) at e in
          let same : x ≡ at = ap (λ (es : List ℕ). get_or es 0 0) h in
          let behind : rest_from kind I low xs ≡ rest = ap (λ (es : List ℕ). drop 1 es) h in
          let after : rest_from kind I (key_at kind I x + 1) xs ≡ xs = all_left kind I (key_at kind I x + 1) (key_at kind I x + 1) high xs (omega arith) r.2 in
          let before : rest_from kind I low xs ≡ xs = all_left kind I (key_at kind I x + 1) low high xs (omega arith) r.2 in
          let P : ℕ → Type 0 = λ a. (low ≤ key_at kind I a) × (rest_from kind I (key_at kind I a + 1) (x ∷ xs) ≡ rest) in
          subst P same (le, rw (lt-leb (key_at kind I x + 1) (key_at kind I x) (omega arith)) (after ∙ sym before ∙ behind))
    ]

pub rest-append : (kind : PageKind) (I : List ℕ) (low : ℕ) (xs ys : List ℕ) → rest_from kind I low (xs ++ ys) ≡ rest_from kind I low xs ++ rest_from kind I low ys
rest-append kind I low [] ys = refl
rest-append kind I low (x ∷ xs) ys =
    elim (cases_lt (key_at kind I x) low) [
      | inl lt ↦ rw (lt-leb low (key_at kind I x) lt) (rest-append kind I low xs ys)
      | inr le ↦ rw (le-leb low (key_at kind I x) le) (ap (λ (es : List ℕ). x ∷ es) (rest-append kind I low xs ys))
    ]
