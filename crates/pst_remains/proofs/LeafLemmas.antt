-- The leaves that a walk leaves: they have the shape of leaves, and the keys of their entries rise.
use Rattle.std.proofs.Common.{◌≡◌, ℕ, suc, zero, ◌+◌, ◌<◌, ◌≤◌, ◌||◌, Bool, true, false, List, [], ◌∷◌, ◌++◌, length, get_or, map, Option, Some, None, refl, sym, ap, subst, ◌∙◌, append_assoc, le_refl, arith}
use Rattle.std.specs.Prelude.{⊤, is_none}
use Rattle.std.proofs.lemmas.Bool.{leb-true, eqb-true, and_parts}
use Rattle.std.proofs.lemmas.List.{append-nil, map-append}
use Rattle.pst_fault.specs.declared.fault.Fault.{Fault}
use Rattle.pst_fault.specs.First.{◌then◌}
use Rattle.pst_fault.proofs.FirstLemmas.{none_then, both_none, holds_or_none, guard_then}
use Rattle.pst_header.specs.declared.header.Bref.{Bref}
use Rattle.pst_header.proofs.PlaceLemmas.{is_place_good}
use Rattle.pst_page.specs.declared.kind.PageKind.{PageKind}
use Rattle.pst_page.specs.Page.{entries_at, level_at}
use Rattle.pst_page.specs.Entry.{key_at, child_at}
use Rattle.pst_page.specs.Fault.{open_fault, page_place_fault, page_trailer_fault, page_shape_fault, level_fault, has_shape}
use Rattle.pst_space.specs.Claimed.{Claimed}
use Rattle.pst_btree.specs.Order.{order_fault, Rises, IsBelow}
use Rattle.pst_btree.specs.Tree.{span_of}
use Rattle.pst_btree.specs.Walk.{body_fault}
use Rattle.pst_btree.proofs.RiseLemmas.{lower, rises_join}
use Rattle.pst_remains.specs.declared.pages.Broken.{Broken}
use Rattle.pst_remains.specs.Judged.{overlap_fault}
use Rattle.pst_remains.specs.Leaf.{IsLeaf, AreLeaves}
use Rattle.pst_remains.specs.Pages.{Left, Look, claim_fault, page_damage, inner_fault, leads_on, is_followed, is_open, leaf_entries, look_at, look_each, told_page, with_page, tree_left, left_so_far}
use Rattle.pst_remains.proofs.WalkLemmas.{look_shut, look_leaf, look_branch}

-- ---- what is known of a page that is open

none_of : (o : Option Fault) → is_none o ≡ true → o ≡ None
none_of None e = refl
none_of (Some f) e = absurd cc

pub record IsOpen (kind : PageKind) (I : List ℕ) (end level : ℕ) (page : Bref) (low : ℕ) (high : Option ℕ) : Type 0 where
  pub inside : page.ib + 512 ≤ end
  pub shape : has_shape kind I page.ib ≡ true
  pub level_is : level_at I page.ib ≡ level
  pub rises : Rises low high (map (key_at kind I) (entries_at I page.ib))

order_rises : (kind : PageKind) (I : List ℕ) (bid low : ℕ) (high : Option ℕ) (places : List ℕ) → order_fault kind I bid low high places ≡ None → Rises low high (map (key_at kind I) places)
unfolding order_fault
order_rises kind I bid low high [] e = tt
order_rises kind I bid low high (at ∷ rest) e =
    let g = guard_then _ _ _ e in
    let p = and_parts _ _ g.0 in
    (leb-true _ _ p.0, p.1, order_rises kind I bid (key_at kind I at + 1) high rest g.1)

module _ (kind : PageKind) (I : List ℕ) (end level : ℕ) (claimed : Claimed) (page : Bref) (low : ℕ) (high : Option ℕ) where
  place_inside : claim_fault end claimed page ≡ None → page.ib + 512 ≤ end
  unfolding claim_fault page_place_fault
  place_inside e = (is_place_good end (span_of page) (holds_or_none _ _ (none_then (page_place_fault end page) (overlap_fault claimed (span_of page) page.bid) e).0)).inside

  inner_open : claim_fault end claimed page ≡ None → inner_fault kind I level page low high ≡ None → IsOpen kind I end level page low high
  unfolding inner_fault level_fault
  inner_open a e =
      let shape = none_then (page_shape_fault kind I page) (level_fault I level page then order_fault kind I page.bid low high (entries_at I page.ib)) e in
      let rest = none_then (level_fault I level page) (order_fault kind I page.bid low high (entries_at I page.ib)) shape.1 in
      record {
        inside = place_inside a;
        shape = holds_or_none _ _ shape.0;
        level_is = eqb-true _ _ (holds_or_none _ _ rest.0);
        rises = order_rises kind I page.bid low high (entries_at I page.ib) rest.1;
      }

  body_inner : body_fault kind I level page low high ≡ None → inner_fault kind I level page low high ≡ None
  unfolding body_fault open_fault inner_fault
  body_inner e =
      let opened = none_then (open_fault kind I page) (level_fault I level page then order_fault kind I page.bid low high (entries_at I page.ib)) e in
      both_none (page_shape_fault kind I page) (level_fault I level page then order_fault kind I page.bid low high (entries_at I page.ib))
      (none_then (page_trailer_fault kind I page) (page_shape_fault kind I page) opened.0).1 opened.1

  leads_inner : leads_on kind I level page low high ≡ true → inner_fault kind I level page low high ≡ None
  unfolding leads_on
  leads_inner e = none_of _ (and_parts _ _ e).1

  followed_open : is_followed kind I end level claimed page low high ≡ true → IsOpen kind I end level page low high
  unfolding is_followed
  followed_open e =
      let both = and_parts _ _ e in
      inner_open (none_of _ (and_parts _ _ both.0).0) (leads_inner both.1)

  damage_open : (d : Option Fault) → page_damage kind I end level claimed page low high ≡ d → (is_none d || is_followed kind I end level claimed page low high) ≡ true → IsOpen kind I end level page low high
  unfolding page_damage
  damage_open None d e = let p = none_then (claim_fault end claimed page) (body_fault kind I level page low high) d in inner_open p.0 (body_inner p.1)
  damage_open (Some f) d e = followed_open e

  pub open_known : is_open kind I end level claimed page low high ≡ true → IsOpen kind I end level page low high
  unfolding is_open
  open_known e = damage_open _ refl e

-- ---- the leaves that are added

pub leaf_entries-append : (I xs ys : List ℕ) → leaf_entries I (xs ++ ys) ≡ leaf_entries I xs ++ leaf_entries I ys
leaf_entries-append I [] ys = refl
leaf_entries-append I (ib ∷ rest) ys = ap (λ (es : List ℕ). entries_at I ib ++ es) (leaf_entries-append I rest ys) ∙ sym (append_assoc (entries_at I ib) (leaf_entries I rest) (leaf_entries I ys))

-- each of them is a leaf
abbrev pub EachLeaf : PageKind → List ℕ → List ℕ → Type 0
EachLeaf kind I [] = ⊤
EachLeaf kind I (ib ∷ rest) = IsLeaf kind I ib × EachLeaf kind I rest

each_join : (kind : PageKind) (I xs ys : List ℕ) → EachLeaf kind I xs → EachLeaf kind I ys → EachLeaf kind I (xs ++ ys)
each_join kind I [] ys a b = b
each_join kind I (x ∷ xs) ys a b = (a.0, each_join kind I xs ys a.1 b)

each_at : (kind : PageKind) (I xs : List ℕ) → EachLeaf kind I xs → (k d : ℕ) → k < length xs → IsLeaf kind I (get_or xs k d)
each_at kind I [] a k d lt = absurd (omega arith)
each_at kind I (x ∷ xs) a zero d lt = a.0
each_at kind I (x ∷ xs) a (suc k) d lt = each_at kind I xs a.1 k d (omega arith)

-- these leaves are added to those before, and their keys rise within the bounds
pub record Adds (kind : PageKind) (I : List ℕ) (old new : List ℕ) (low : ℕ) (high : Option ℕ) : Type 0 where
  pub more : List ℕ
  pub is : new ≡ old ++ more
  pub leaves : EachLeaf kind I more
  pub rises : Rises low high (map (key_at kind I) (leaf_entries I more))

module _ (kind : PageKind) (I : List ℕ) where
  adds_none : (old : List ℕ) (low : ℕ) (high : Option ℕ) → Adds kind I old old low high
  adds_none old low high = record { more = []; is = sym (append-nil old); leaves = tt; rises = tt }

  adds_lower : (old new : List ℕ) (less low : ℕ) (high : Option ℕ) → less ≤ low → Adds kind I old new low high → Adds kind I old new less high
  adds_lower old new less low high le a = record { more = a.more; is = a.is; leaves = a.leaves; rises = lower low less high _ le a.rises }

  adds_both : (old mid new : List ℕ) (low m : ℕ) (high : Option ℕ) → low ≤ m → IsBelow m high → Adds kind I old mid low (Some m) → Adds kind I mid new m high → Adds kind I old new low high
  adds_both old mid new low m high le below a b =
      let joined : Rises low high (map (key_at kind I) (leaf_entries I a.more) ++ map (key_at kind I) (leaf_entries I b.more)) = rises_join low m high _ _ le below a.rises b.rises in
      let spread : map (key_at kind I) (leaf_entries I (a.more ++ b.more)) ≡ map (key_at kind I) (leaf_entries I a.more) ++ map (key_at kind I) (leaf_entries I b.more) =
      ap (map (key_at kind I)) (leaf_entries-append I a.more b.more) ∙ map-append (key_at kind I) (leaf_entries I a.more) (leaf_entries I b.more) in
      record {
        more = a.more ++ b.more;
        is = b.is ∙ ap (λ (xs : List ℕ). xs ++ b.more) a.is ∙ append_assoc old a.more b.more;
        leaves = each_join kind I a.more b.more a.leaves b.leaves;
        rises = subst (λ (keys : List ℕ). Rises low high keys) (sym spread) joined;
      }

  -- what a look adds, under its bounds
  abbrev AddsAlways : Look → Type 0
  AddsAlways look = (left : Left) (page : Bref) (from low : ℕ) (high : Option ℕ) → Adds kind I left.leaves (look left page from low high).leaves low high

  each_adds : (look : Look) → AddsAlways look → (from : ℕ) (left : Left) (low : ℕ) (high : Option ℕ) (entries : List ℕ) → Rises low high (map (key_at kind I) entries)
      → Adds kind I left.leaves (look_each kind I look from high left entries).leaves low high
  unfolding look_each
  each_adds look always from left low high [] r = adds_none left.leaves low high
  each_adds look always from left low high (at ∷ []) r =
      adds_lower _ _ low (key_at kind I at) high r.0 (always left (child_at I at) from (key_at kind I at) high)
  each_adds look always from left low high (at ∷ next ∷ rest) r =
      let one = always left (child_at I at) from (key_at kind I at) (Some (key_at kind I next)) in
      let others = each_adds look always (key_at kind I next) (look left (child_at I at) from (key_at kind I at) (Some (key_at kind I next))) (key_at kind I next) high (next ∷ rest) (le_refl (key_at kind I next), r.2.1, r.2.2) in
      adds_lower _ _ low (key_at kind I at) high r.0 (adds_both _ _ _ (key_at kind I at) (key_at kind I next) high (omega (arith, r.2.0)) r.2.1 one others)

  -- a page alone adds nothing
  told_leaves : (d : Option Fault) (left : Left) (page : Bref) (from : ℕ) (high : Option ℕ) → (told_page d left page from high).leaves ≡ left.leaves
  told_leaves None left page from high = refl
  told_leaves (Some f) left page from high = refl

  with_leaves : (end level : ℕ) (left : Left) (page : Bref) (from low : ℕ) (high : Option ℕ) → (with_page kind I end level left page from low high).leaves ≡ left.leaves
  unfolding with_page
  with_leaves end level left page from low high = told_leaves _ left page from high

  adds_leaf : (old : List ℕ) (end : ℕ) (page : Bref) (low : ℕ) (high : Option ℕ) → end ≤ length I → IsOpen kind I end 0 page low high → Adds kind I old (old ++ page.ib ∷ []) low high
  adds_leaf old end page low high short o = record {
    more = page.ib ∷ [];
    is = refl;
    leaves = (record { inside = omega (arith, o.inside, short); shape = o.shape; level = o.level_is }, tt);
    rises = subst (λ (es : List ℕ). Rises low high (map (key_at kind I) es)) (sym (append-nil (entries_at I page.ib))) o.rises;
  }

  leaf_adds : (end : ℕ) → end ≤ length I → (b : Bool) (left : Left) (page : Bref) (from low : ℕ) (high : Option ℕ) → is_open kind I end 0 left.claimed page low high ≡ b
      → Adds kind I left.leaves (look_at kind I end 0 left page from low high).leaves low high
  leaf_adds end short false left page from low high e =
      let is = ap (λ (x : Left). x.leaves) (look_shut kind I end left page from low high 0 e) ∙ with_leaves end 0 left page from low high in
      subst (λ (new : List ℕ). Adds kind I left.leaves new low high) (sym is) (adds_none left.leaves low high)
  leaf_adds end short true left page from low high e =
      let is = ap (λ (x : Left). x.leaves) (look_leaf kind I end left page from low high e) ∙ ap (λ (xs : List ℕ). xs ++ page.ib ∷ []) (with_leaves end 0 left page from low high) in
      subst (λ (new : List ℕ). Adds kind I left.leaves new low high) (sym is) (adds_leaf left.leaves end page low high short (open_known kind I end 0 left.claimed page low high e))

  branch_adds : (end level : ℕ) → AddsAlways (look_at kind I end level) → (b : Bool) (left : Left) (page : Bref) (from low : ℕ) (high : Option ℕ) → is_open kind I end (suc level) left.claimed page low high ≡ b
      → Adds kind I left.leaves (look_at kind I end (suc level) left page from low high).leaves low high
  branch_adds end level always false left page from low high e =
      let is = ap (λ (x : Left). x.leaves) (look_shut kind I end left page from low high (suc level) e) ∙ with_leaves end (suc level) left page from low high in
      subst (λ (new : List ℕ). Adds kind I left.leaves new low high) (sym is) (adds_none left.leaves low high)
  branch_adds end level always true left page from low high e =
      let o = open_known kind I end (suc level) left.claimed page low high e in
      let each = each_adds (look_at kind I end level) always from (with_page kind I end (suc level) left page from low high) low high (entries_at I page.ib) o.rises in
      let is = ap (λ (x : Left). x.leaves) (look_branch kind I end left page from low high (suc level) level (omega arith) e) in
      subst (λ (new : List ℕ). Adds kind I left.leaves new low high) (sym is)
      (subst (λ (old : List ℕ). Adds kind I old (look_each kind I (look_at kind I end level) from high (with_page kind I end (suc level) left page from low high) (entries_at I page.ib)).leaves low high) (with_leaves end (suc level) left page from low high) each)

  look_adds : (end : ℕ) → end ≤ length I → (level : ℕ) → AddsAlways (look_at kind I end level)
  look_adds end short zero = λ left page from low high. leaf_adds end short _ left page from low high refl
  look_adds end short (suc level) = λ left page from low high. branch_adds end level (look_adds end short level) _ left page from low high refl

-- ---- of a whole tree

tree_adds : (kind : PageKind) (I : List ℕ) (end : ℕ) (claimed : Claimed) (root : Bref) → end ≤ length I → Adds kind I [] (tree_left kind I end claimed root).leaves 0 None
tree_adds kind I end claimed root short = look_adds kind I end short (level_at I root.ib) (left_so_far claimed [] []) root 0 0 None

pub tree_leaves : (kind : PageKind) (I : List ℕ) (end : ℕ) (claimed : Claimed) (root : Bref) → end ≤ length I → AreLeaves kind I (tree_left kind I end claimed root).leaves
tree_leaves kind I end claimed root short =
    let a = tree_adds kind I end claimed root short in
    subst (λ (xs : List ℕ). AreLeaves kind I xs) (sym a.is) (each_at kind I a.more a.leaves)

pub tree_keys_rise : (kind : PageKind) (I : List ℕ) (end : ℕ) (claimed : Claimed) (root : Bref) → end ≤ length I → Rises 0 None (map (key_at kind I) (leaf_entries I (tree_left kind I end claimed root).leaves))
tree_keys_rise kind I end claimed root short =
    let a = tree_adds kind I end claimed root short in
    subst (λ (xs : List ℕ). Rises 0 None (map (key_at kind I) (leaf_entries I xs))) (sym a.is) a.rises

-- the same, of what a walk has found
pub left_leaves : (kind : PageKind) (I : List ℕ) (end : ℕ) (claimed new : Claimed) (root : Bref) (broken : List Broken) (leaves : List ℕ) → tree_left kind I end claimed root ≡ left_so_far new broken leaves → end ≤ length I → AreLeaves kind I leaves
left_leaves kind I end claimed new root broken leaves e short = subst (λ (x : Left). AreLeaves kind I x.leaves) e (tree_leaves kind I end claimed root short)

pub left_keys_rise : (kind : PageKind) (I : List ℕ) (end : ℕ) (claimed new : Claimed) (root : Bref) (broken : List Broken) (leaves : List ℕ) → tree_left kind I end claimed root ≡ left_so_far new broken leaves → end ≤ length I
    → Rises 0 None (map (key_at kind I) (leaf_entries I leaves))
left_keys_rise kind I end claimed new root broken leaves e short = subst (λ (x : Left). Rises 0 None (map (key_at kind I) (leaf_entries I x.leaves))) e (tree_keys_rise kind I end claimed root short)
