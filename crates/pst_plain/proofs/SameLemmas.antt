-- A file whose pages have the same bytes spells the same trees.
use Rattle.std.proofs.Common.{◌≡◌, ℕ, zero, suc, ◌+◌, ◌-◌, ◌*◌, ◌≤◌, List, [], ◌∷◌, ◌++◌, map, take, drop, Option, None, refl, sym, ap, ◌∙◌, subst, arith}
use Rattle.std.specs.Prelude.{⊤}
use Rattle.std.proofs.lemmas.List.{drop-take, take-take, drop-drop, map-append}
use Rattle.byteorder.specs.Endian.{little_number}
use Rattle.pst_bytes.specs.Image.{num, bytes_at}
use Rattle.pst_bytes.specs.declared.span.Span.{Span}
use Rattle.pst_crc.specs.Crc.{crc}
use Rattle.pst_header.specs.declared.header.Bref.{Bref}
use Rattle.pst_page.specs.declared.kind.PageKind.{PageKind}
use Rattle.pst_page.specs.declared.kind.PageKind.TheVariants.{Bbt, Nbt}
use Rattle.pst_page.specs.Entry.{entry_size, key_of, key_at, child_at, block_entry_at, node_entry_at}
use Rattle.pst_page.specs.Page.{page_span, count_at, width_at, level_at, places, entries_at}
use Rattle.pst_page.specs.Good.{HasShape}
use Rattle.pst_btree.specs.Order.{Rises}
use Rattle.pst_btree.specs.Tree.{Tree, leaf, branch, Forest, none, more, entries_of, forest_entries, pages_of, forest_pages, Spells, SpellsEach, Bounded, BoundedEach, IsPage, IsTree, next_of}

-- ---- bytes inside of bytes that are the same

part_of : (I : List ℕ) (s : Span) (at n : ℕ) → s.at ≤ at → at + n ≤ s.at + s.len → bytes_at I (record { at = at; len = n }) ≡ take n (drop (at - s.at) (bytes_at I s))
part_of I s at n from to =
    let k = at - s.at in
    let m = s.len - k in
    let size : s.len ≡ k + m = omega arith in
    let place : s.at + k ≡ at = omega arith in
    let inner : drop k (bytes_at I s) ≡ take m (drop at I) =
    ap (λ l. drop k (take l (drop s.at I))) size ∙ drop-take k m (drop s.at I) ∙ ap (take m) (drop-drop k s.at I ∙ ap (λ p. drop p I) place) in
    sym (ap (take n) inner ∙ take-take n m (drop at I) (omega arith))

pub part_same : (I T : List ℕ) (s : Span) (at n : ℕ) → bytes_at T s ≡ bytes_at I s → s.at ≤ at → at + n ≤ s.at + s.len → bytes_at T (record { at = at; len = n }) ≡ bytes_at I (record { at = at; len = n })
part_same I T s at n same from to = part_of T s at n from to ∙ ap (λ l. take n (drop (at - s.at) l)) same ∙ sym (part_of I s at n from to)

pub num_same : (I T : List ℕ) (s : Span) (at n : ℕ) → bytes_at T s ≡ bytes_at I s → s.at ≤ at → at + n ≤ s.at + s.len → num T at n ≡ num I at n
unfolding num
num_same I T s at n same from to = ap (little_number n) (part_same I T s at n same from to)

-- ---- a page

abbrev pub IsSamePage : List ℕ → List ℕ → ℕ → Type 0
IsSamePage I T ib = bytes_at T (page_span ib) ≡ bytes_at I (page_span ib)

module _ (I T : List ℕ) (ib : ℕ) (same : IsSamePage I T ib) where
  pub count_same : count_at T ib ≡ count_at I ib
  unfolding count_at
  count_same = num_same I T (page_span ib) (ib + 488) 1 same (omega arith) (omega arith)

  pub width_same : width_at T ib ≡ width_at I ib
  unfolding width_at
  width_same = num_same I T (page_span ib) (ib + 490) 1 same (omega arith) (omega arith)

  pub level_same : level_at T ib ≡ level_at I ib
  unfolding level_at
  level_same = num_same I T (page_span ib) (ib + 491) 1 same (omega arith) (omega arith)

  pub entries_same : entries_at T ib ≡ entries_at I ib
  unfolding entries_at
  entries_same = rw (width_same, count_same) refl

pub page_same : (I T : List ℕ) (kind : PageKind) (end level : ℕ) (page : Bref) → IsSamePage I T page.ib → IsPage kind I end level page → IsPage kind T end level page
page_same I T kind end level page same p =
    let ib = page.ib in
    let s = page_span ib in
    let t = p.good.trailer in
    let body = part_same I T s ib 496 same (omega arith) (omega arith) in
    let count = count_same I T ib same in
    let width = width_same I T ib same in
    let lev = level_same I T ib same in
    record {
      good = record {
        place = p.good.place;
        trailer = record {
          ptype = num_same I T s (ib + 496) 1 same (omega arith) (omega arith) ∙ t.ptype;
          ptype_repeat = num_same I T s (ib + 497) 1 same (omega arith) (omega arith) ∙ t.ptype_repeat;
          signature = num_same I T s (ib + 498) 2 same (omega arith) (omega arith) ∙ t.signature;
          check = num_same I T s (ib + 500) 4 same (omega arith) (omega arith) ∙ t.check ∙ ap crc (sym body);
          bid = num_same I T s (ib + 504) 8 same (omega arith) (omega arith) ∙ t.bid;
        };
      };
      shape = record {
        wide = rw (lev, width) p.shape.wide;
        room = rw (count, width) p.shape.room;
        low = rw lev p.shape.low;
        names = rw (lev, count) p.shape.names;
      };
      level_is = lev ∙ p.level_is;
    }

-- ---- the entries of a page, each of 24 bytes at least

-- places in a page
abbrev pub LieIn : ℕ → List ℕ → Type 0
LieIn ib [] = ⊤
LieIn ib (at ∷ rest) = (ib ≤ at) × (at + 24 ≤ ib + 488) × LieIn ib rest

places_lie : (ib at width n : ℕ) → ib ≤ at → 24 ≤ width → at + n * width ≤ ib + 488 → LieIn ib (places at width n)
places_lie ib at width zero from wide room = tt
places_lie ib at width (suc n) from wide room = (from, omega arith, places_lie ib (at + width) width n (omega arith) wide (omega arith))

entry_wide : (kind : PageKind) (level : ℕ) → 24 ≤ entry_size kind level
entry_wide Nbt zero = omega arith
entry_wide Bbt zero = omega arith
entry_wide Nbt (suc level) = omega arith
entry_wide Bbt (suc level) = omega arith

pub entries_lie : (kind : PageKind) (I : List ℕ) (ib : ℕ) → HasShape I kind ib → LieIn ib (entries_at I ib)
unfolding entries_at
entries_lie kind I ib shape =
    let wide = entry_wide kind (level_at I ib) in
    places_lie ib ib (width_at I ib) (count_at I ib) (omega arith) (omega (arith, wide, shape.wide)) (omega (arith, shape.room))

module _ (I T : List ℕ) (ib : ℕ) (same : IsSamePage I T ib) where
  pub key_same : (kind : PageKind) (at : ℕ) → ib ≤ at → at + 24 ≤ ib + 488 → key_at kind T at ≡ key_at kind I at
  unfolding key_at
  key_same kind at from to = ap (key_of kind) (num_same I T (page_span ib) at 8 same from (omega arith))

  pub child_same : (at : ℕ) → ib ≤ at → at + 24 ≤ ib + 488 → child_at T at ≡ child_at I at
  unfolding child_at
  child_same at from to = rw (num_same I T (page_span ib) (at + 8) 8 same (omega arith) (omega arith), num_same I T (page_span ib) (at + 16) 8 same (omega arith) (omega arith)) refl

  keys_same : (kind : PageKind) (at : List ℕ) → LieIn ib at → map (key_at kind T) at ≡ map (key_at kind I) at
  keys_same kind [] lie = refl
  keys_same kind (at ∷ rest) lie = rw (key_same kind at lie.0 lie.1, keys_same kind rest lie.2) refl

-- what is read at a place of an entry alone
abbrev pub IsReadInPage : {X : Type 0} → (List ℕ → ℕ → X) → Type 0
IsReadInPage read = (I T : List ℕ) (ib at : ℕ) → IsSamePage I T ib → ib ≤ at → at + 24 ≤ ib + 488 → read T at ≡ read I at

pub block_entry_same : IsReadInPage block_entry_at
unfolding block_entry_at
block_entry_same I T ib at same from to =
    rw (
      num_same I T (page_span ib) at 8 same from (omega arith),
      num_same I T (page_span ib) (at + 8) 8 same (omega arith) (omega arith),
      num_same I T (page_span ib) (at + 16) 2 same (omega arith) (omega arith),
    ) refl

pub node_entry_same : IsReadInPage node_entry_at
unfolding node_entry_at
node_entry_same I T ib at same from to =
    rw (
      num_same I T (page_span ib) at 8 same from (omega arith),
      num_same I T (page_span ib) (at + 8) 8 same (omega arith) (omega arith),
      num_same I T (page_span ib) (at + 16) 8 same (omega arith) (omega arith),
      num_same I T (page_span ib) (at + 24) 4 same (omega arith) (omega arith),
    ) refl

read_same : {X : Type 0} (read : List ℕ → ℕ → X) → IsReadInPage read → (I T : List ℕ) (ib : ℕ) → IsSamePage I T ib → (at : List ℕ) → LieIn ib at → map (read T) at ≡ map (read I) at
read_same read reads I T ib same [] lie = refl
read_same read reads I T ib same (at ∷ rest) lie = rw (reads I T ib at same lie.0 lie.1, read_same read reads I T ib same rest lie.2) refl

-- ---- trees

abbrev pub AreSamePages : List ℕ → List ℕ → List Bref → Type 0
AreSamePages I T [] = ⊤
AreSamePages I T (page ∷ rest) = IsSamePage I T page.ib × AreSamePages I T rest

first_pages : (I T : List ℕ) (xs ys : List Bref) → AreSamePages I T (xs ++ ys) → AreSamePages I T xs
first_pages I T [] ys all = tt
first_pages I T (x ∷ xs) ys all = (all.0, first_pages I T xs ys all.1)

other_pages : (I T : List ℕ) (xs ys : List Bref) → AreSamePages I T (xs ++ ys) → AreSamePages I T ys
other_pages I T [] ys all = all
other_pages I T (x ∷ xs) ys all = other_pages I T xs ys all.1

module _ (kind : PageKind) (I T : List ℕ) (end : ℕ) where
  mutual
    pub spells_same : (level : ℕ) (tree : Tree) → AreSamePages I T (pages_of tree) → Spells kind I end level tree → Spells kind T end level tree
    spells_same zero (leaf page entries) all s = (page_same I T kind end 0 page all.0 s.0, s.1 ∙ sym (entries_same I T page.ib all.0))
    spells_same zero (branch page children) all s = absurd s
    spells_same (suc level) (leaf page entries) all s = absurd s
    spells_same (suc level) (branch page children) all s = (
      page_same I T kind end (suc level) page all.0 s.0,
      subst (SpellsEach kind T end level children) (sym (entries_same I T page.ib all.0))
          (each_same page.ib level children (entries_at I page.ib) all.0 all.1 (entries_lie kind I page.ib s.0.shape) s.1),
    )

    each_same : (ib level : ℕ) (forest : Forest) (at : List ℕ) → IsSamePage I T ib → AreSamePages I T (forest_pages forest) → LieIn ib at → SpellsEach kind I end level forest at → SpellsEach kind T end level forest at
    each_same ib level none [] page all lie s = tt
    each_same ib level none (at ∷ rest) page all lie s = absurd s
    each_same ib level (more key tree forest) [] page all lie s = absurd s
    each_same ib level (more key tree forest) (at ∷ rest) page all lie s = (
      s.0 ∙ sym (key_same I T ib page kind at lie.0 lie.1),
      s.1 ∙ sym (child_same I T ib page at lie.0 lie.1),
      spells_same level tree (first_pages I T (pages_of tree) (forest_pages forest) all) s.2,
      each_same ib level forest rest page (other_pages I T (pages_of tree) (forest_pages forest) all) lie.2 s.3,
    )

  mutual
    pub bounded_same : (level : ℕ) (tree : Tree) (low : ℕ) (high : Option ℕ) → AreSamePages I T (pages_of tree) → Spells kind I end level tree → Bounded kind I tree low high → Bounded kind T tree low high
    bounded_same zero (leaf page entries) low high all s b =
        let lie = subst (LieIn page.ib) (sym s.1) (entries_lie kind I page.ib s.0.shape) in
        subst (Rises low high) (sym (keys_same I T page.ib all.0 kind entries lie)) b
    bounded_same zero (branch page children) low high all s b = absurd s
    bounded_same (suc level) (leaf page entries) low high all s b = absurd s
    bounded_same (suc level) (branch page children) low high all s b = (b.0, all_bounded_same level children (entries_at I page.ib) high all.1 s.1 b.1)

    all_bounded_same : (level : ℕ) (forest : Forest) (at : List ℕ) (high : Option ℕ) → AreSamePages I T (forest_pages forest) → SpellsEach kind I end level forest at → BoundedEach kind I forest high → BoundedEach kind T forest high
    all_bounded_same level none at high all s b = tt
    all_bounded_same level (more key tree forest) [] high all s b = absurd s
    all_bounded_same level (more key tree forest) (at ∷ rest) high all s b = (
      bounded_same level tree key (next_of forest high) (first_pages I T (pages_of tree) (forest_pages forest) all) s.2 b.0,
      all_bounded_same level forest rest high (other_pages I T (pages_of tree) (forest_pages forest) all) s.3 b.1,
    )

-- a whole tree
pub tree_same : (kind : PageKind) (I T : List ℕ) (end : ℕ) (root : Bref) (level : ℕ) (tree : Tree) → AreSamePages I T (pages_of tree) → IsTree kind I end root level tree → IsTree kind T end root level tree
tree_same kind I T end root level tree all t = record {
  root_is = t.root_is;
  spells = spells_same kind I T end level tree all t.spells;
  bounded = bounded_same kind I T end level tree 0 None all t.spells t.bounded;
}

-- the entries of its leaves
module _ {X : Type 0} (read : List ℕ → ℕ → X) (reads : IsReadInPage read) (kind : PageKind) (I T : List ℕ) (end : ℕ) where
  mutual
    pub list_same : (level : ℕ) (tree : Tree) → AreSamePages I T (pages_of tree) → Spells kind I end level tree → map (read T) (entries_of tree) ≡ map (read I) (entries_of tree)
    list_same zero (leaf page entries) all s =
        read_same read reads I T page.ib all.0 entries (subst (LieIn page.ib) (sym s.1) (entries_lie kind I page.ib s.0.shape))
    list_same zero (branch page children) all s = absurd s
    list_same (suc level) (leaf page entries) all s = absurd s
    list_same (suc level) (branch page children) all s = lists_same level children (entries_at I page.ib) all.1 s.1

    lists_same : (level : ℕ) (forest : Forest) (at : List ℕ) → AreSamePages I T (forest_pages forest) → SpellsEach kind I end level forest at → map (read T) (forest_entries forest) ≡ map (read I) (forest_entries forest)
    lists_same level none at all s = refl
    lists_same level (more key tree forest) [] all s = absurd s
    lists_same level (more key tree forest) (at ∷ rest) all s =
        map-append (read T) (entries_of tree) (forest_entries forest)
        ∙ ap (λ l. l ++ map (read T) (forest_entries forest)) (list_same level tree (first_pages I T (pages_of tree) (forest_pages forest) all) s.2)
        ∙ ap (λ l. map (read I) (entries_of tree) ++ l) (lists_same level forest rest (other_pages I T (pages_of tree) (forest_pages forest) all) s.3)
        ∙ sym (map-append (read I) (entries_of tree) (forest_entries forest))
