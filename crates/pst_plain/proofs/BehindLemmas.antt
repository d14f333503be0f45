-- The pages of both B-trees, the blocks and the allocation maps lie behind the header, from the first allocation map on: files
-- that have the same bytes there have the same first fault of them.
use Rattle.std.proofs.Common.{◌≡◌, ℕ, zero, suc, ◌+◌, ◌-◌, ◌≤◌, List, [], ◌∷◌, ◌++◌, length, take, drop, Option, Some, None, Ok, Err, refl, sym, ap, ◌∙◌, arith}
use Rattle.std.specs.Prelude.{⊤}
use Rattle.std.specs.List.{All}
use Rattle.std.proofs.lemmas.List.{drop-drop}
use Rattle.std.proofs.lemmas.List.Elements.{All-head, All-tail}
use Rattle.byteorder.specs.Endian.{little_number}
use Rattle.pst_bytes.specs.Image.{num, bytes_at}
use Rattle.pst_bytes.specs.declared.span.Span.{Span}
use Rattle.pst_fault.specs.declared.fault.Fault.{Fault}
use Rattle.pst_header.specs.declared.header.Header.{Header}
use Rattle.pst_header.specs.declared.header.Bref.{Bref}
use Rattle.pst_header.specs.declared.header.TheConstants.{FIRST_AMAP}
use Rattle.pst_header.specs.Header.{end_of, amap_place, amap_count_of}
use Rattle.pst_header.specs.Place.{IsPlace}
use Rattle.pst_page.specs.declared.entry.BlockEntry.{BlockEntry}
use Rattle.pst_page.specs.declared.kind.PageKind.{PageKind}
use Rattle.pst_page.specs.declared.kind.PageKind.TheVariants.{Bbt, Nbt}
use Rattle.pst_page.specs.Entry.{key_of, key_at, child_at}
use Rattle.pst_page.specs.Page.{page_span, level_at, places, entries_at}
use Rattle.pst_page.specs.Trailer.{has_trailer}
use Rattle.pst_page.specs.Fault.{has_page_trailer, has_shape, page_place_fault, open_fault, level_fault}
use Rattle.pst_page.proofs.PageLaws.{place_law}
use Rattle.pst_space.specs.Claimed.{Claimed, maps_claimed}
use Rattle.pst_space.specs.Step.{Step, ◌>>=◌}
use Rattle.pst_space.proofs.StepLemmas.{bind_ok}
use Rattle.pst_btree.specs.Order.{order_fault}
use Rattle.pst_btree.specs.Tree.{Tree, leaf, branch, Forest, none, more, pages_of, forest_pages, Spells, SpellsEach}
use Rattle.pst_btree.specs.Walk.{Found, found_so_far, nothing_found, body_fault, opened, next_key, Visit, children, walk_of, tree_walk}
use Rattle.pst_btree.proofs.TreeLaws.{walk_claims}
use Rattle.pst_block.specs.Block.{block_span}
use Rattle.pst_block.specs.Walk.{blocks_walk}
use Rattle.pst_amap.specs.Map.{amap_fault}
use Rattle.pst_amap.specs.declared.report.BitOrder.TheVariants.{High, Low}
use Rattle.pst_amap.specs.Marks.{missing_fault}
use Rattle.pst_amap.specs.Report.{maps_fault}
use Rattle.pst_ndb.specs.Entries.{block_list}
use Rattle.pst_ndb.specs.Space.{space_walk, space_fault, fault_after}
use Rattle.pst_ndb.specs.Trees.{trees_walk}
use Rattle.pst_plain.specs.Blocks.{placed}
use Rattle.pst_plain.proofs.SameLemmas.{IsSamePage, AreSamePages, count_same, width_same, level_same, entries_same}
use Rattle.pst_plain.proofs.EntryLemmas.{blocks_same}
use Rattle.pst_plain.proofs.PlacedLemmas.{LiesIn, placed_lie}
use Rattle.pst_plain.proofs.TrailerLemmas.{HaveSameTrailers, block_same, walk_same}
use Rattle.pst_plain.proofs.MapLemmas.{below_same, map_fault_same, marks_same}

abbrev pub IsSameBehind : List ℕ → List ℕ → Type 0
IsSameBehind I T = drop FIRST_AMAP T ≡ drop FIRST_AMAP I

-- steps that are followed by the same
bind_same : {A B : Type 0} (s : Step A) (f g : A → Step B) → ((x : A) → f x ≡ g x) → (s >>= f) ≡ (s >>= g)
bind_same (Ok x) f g same = same x
bind_same (Err e) f g same = refl

-- places that lie there
abbrev AreBehind : List ℕ → Type 0
AreBehind [] = ⊤
AreBehind (at ∷ rest) = (FIRST_AMAP ≤ at) × AreBehind rest

places_behind : (at width n : ℕ) → FIRST_AMAP ≤ at → AreBehind (places at width n)
places_behind at width zero from = tt
places_behind at width (suc n) from = (from, places_behind (at + width) width n (omega arith))

entries_behind : (I : List ℕ) (ib : ℕ) → FIRST_AMAP ≤ ib → AreBehind (entries_at I ib)
unfolding entries_at
entries_behind I ib from = places_behind ib _ _ from

from_start : (I : List ℕ) (at : ℕ) → FIRST_AMAP ≤ at → drop at I ≡ drop (at - FIRST_AMAP) (drop FIRST_AMAP I)
from_start I at from =
    let is : at ≡ FIRST_AMAP + (at - FIRST_AMAP) = omega arith in
    ap (λ n. drop n I) is ∙ sym (drop-drop (at - FIRST_AMAP) FIRST_AMAP I)

-- a page that does not lie where one may is not looked at
opened_refused : (kind : PageKind) (I : List ℕ) (end level : ℕ) (claimed : Claimed) (page : Bref) (low : ℕ) (high : Option ℕ) (f : Fault) → page_place_fault end page ≡ Some f → opened kind I end level claimed page low high ≡ Err (claimed, f)
unfolding opened
opened_refused kind I end level claimed page low high f h = rw h refl

walk_refused : (kind : PageKind) (I : List ℕ) (end level : ℕ) (found : Found) (page : Bref) (low : ℕ) (high : Option ℕ) (f : Fault) → page_place_fault end page ≡ Some f → walk_of kind I end level found page low high ≡ Err (found.claimed, f)
unfolding walk_of
walk_refused kind I end zero found page low high f h = rw (opened_refused kind I end 0 found.claimed page low high f h) refl
walk_refused kind I end (suc level) found page low high f h = rw (opened_refused kind I end (suc level) found.claimed page low high f h) refl

pages_join : (I T : List ℕ) (xs ys : List Bref) → AreSamePages I T xs → AreSamePages I T ys → AreSamePages I T (xs ++ ys)
pages_join I T [] ys first second = second
pages_join I T (x ∷ xs) ys first second = (first.0, pages_join I T xs ys first.1 second)

module _ (I T : List ℕ) (same : IsSameBehind I T) where
  pub span_behind : (s : Span) → FIRST_AMAP ≤ s.at → bytes_at T s ≡ bytes_at I s
  span_behind s from = ap (take s.len) (from_start T s.at from ∙ ap (drop (s.at - FIRST_AMAP)) same ∙ sym (from_start I s.at from))

  num_behind : (at n : ℕ) → FIRST_AMAP ≤ at → num T at n ≡ num I at n
  unfolding num
  num_behind at n from = ap (little_number n) (span_behind (record { at = at; len = n }) from)

  -- ---- a page

  page_behind : (ib : ℕ) → FIRST_AMAP ≤ ib → IsSamePage I T ib
  page_behind ib from = span_behind (page_span ib) from

  key_behind : (kind : PageKind) (at : ℕ) → FIRST_AMAP ≤ at → key_at kind T at ≡ key_at kind I at
  unfolding key_at
  key_behind kind at from = ap (key_of kind) (num_behind at 8 from)

  child_behind : (at : ℕ) → FIRST_AMAP ≤ at → child_at T at ≡ child_at I at
  unfolding child_at
  child_behind at from = rw (num_behind (at + 8) 8 (omega arith), num_behind (at + 16) 8 (omega arith)) refl

  order_behind : (kind : PageKind) (bid low : ℕ) (high : Option ℕ) (at : List ℕ) → AreBehind at → order_fault kind T bid low high at ≡ order_fault kind I bid low high at
  unfolding order_fault
  order_behind kind bid low high [] from = refl
  order_behind kind bid low high (at ∷ rest) from = rw (key_behind kind at from.0, order_behind kind bid (key_at kind I at + 1) high rest from.1) refl

  trailer_behind : (kind : PageKind) (page : Bref) → FIRST_AMAP ≤ page.ib → has_page_trailer kind T page ≡ has_page_trailer kind I page
  unfolding has_page_trailer has_trailer
  trailer_behind kind page from =
      let ib = page.ib in
      rw (
        num_behind (ib + 496) 1 (omega arith),
        num_behind (ib + 497) 1 (omega arith),
        num_behind (ib + 498) 2 (omega arith),
        num_behind (ib + 500) 4 (omega arith),
        num_behind (ib + 504) 8 (omega arith),
        span_behind (record { at = ib; len = 496 }) from,
      ) refl

  shape_behind : (kind : PageKind) (ib : ℕ) → FIRST_AMAP ≤ ib → has_shape kind T ib ≡ has_shape kind I ib
  unfolding has_shape
  shape_behind kind ib from =
      let page = page_behind ib from in
      rw (level_same I T ib page, width_same I T ib page, count_same I T ib page) refl

  body_behind : (kind : PageKind) (level : ℕ) (page : Bref) (low : ℕ) (high : Option ℕ) → FIRST_AMAP ≤ page.ib → body_fault kind T level page low high ≡ body_fault kind I level page low high
  unfolding body_fault open_fault level_fault
  body_behind kind level page low high from =
      let there = page_behind page.ib from in
      rw (
        trailer_behind kind page from,
        shape_behind kind page.ib from,
        level_same I T page.ib there,
        entries_same I T page.ib there,
        order_behind kind page.bid low high (entries_at I page.ib) (entries_behind I page.ib from),
      ) refl

  -- ---- the walk of a tree

  module _ (kind : PageKind) (end : ℕ) where
    opened_behind : (level : ℕ) (claimed : Claimed) (page : Bref) (low : ℕ) (high : Option ℕ) → FIRST_AMAP ≤ page.ib → opened kind T end level claimed page low high ≡ opened kind I end level claimed page low high
    unfolding opened
    opened_behind level claimed page low high from = rw (body_behind kind level page low high from) refl

    next_behind : (at : List ℕ) (high : Option ℕ) → AreBehind at → next_key kind T at high ≡ next_key kind I at high
    next_behind [] high from = refl
    next_behind (at ∷ rest) high from = ap Some (key_behind kind at from.0)

    abbrev AreSameVisits : Visit → Visit → Type 0
    AreSameVisits visit other = (found : Found) (page : Bref) (low : ℕ) (high : Option ℕ) → visit found page low high ≡ other found page low high

    children_behind : (visit other : Visit) → AreSameVisits visit other → (high : Option ℕ) (found : Found) (at : List ℕ) → AreBehind at → children kind T visit high found at ≡ children kind I other high found at
    unfolding children
    children_behind visit other each high found [] from = refl
    children_behind visit other each high found (at ∷ rest) from =
        rw (child_behind at from.0, key_behind kind at from.0, next_behind rest high from.1, each found (child_at I at) (key_at kind I at) (next_key kind I rest high))
        (bind_same (other found (child_at I at) (key_at kind I at) (next_key kind I rest high)) (λ next. children kind T visit high next rest) (λ next. children kind I other high next rest)
        (λ next. children_behind visit other each high next rest from.1))

    abbrev WalksSame : ℕ → Type 0
    WalksSame level = AreSameVisits (walk_of kind T end level) (walk_of kind I end level)

    -- a page that does not lie there has the same fault, whatever its bytes are
    if_placed : (level : ℕ) (found : Found) (page : Bref) (low : ℕ) (high : Option ℕ) → (FIRST_AMAP ≤ page.ib → walk_of kind T end level found page low high ≡ walk_of kind I end level found page low high)
        → walk_of kind T end level found page low high ≡ walk_of kind I end level found page low high
    if_placed level found page low high there =
        elim (page_place_fault end page) as (λ o. page_place_fault end page ≡ o → walk_of kind T end level found page low high ≡ walk_of kind I end level found page low high) [
          | Some f ↦ λ h. walk_refused kind T end level found page low high f h ∙ sym (walk_refused kind I end level found page low high f h)
          | None ↦ λ h. there ((place_law end page).1 h).mapped
        ] refl

    leaf_behind : (found : Found) (page : Bref) (low : ℕ) (high : Option ℕ) → FIRST_AMAP ≤ page.ib → walk_of kind T end 0 found page low high ≡ walk_of kind I end 0 found page low high
    unfolding walk_of
    leaf_behind found page low high from = rw (opened_behind 0 found.claimed page low high from, entries_same I T page.ib (page_behind page.ib from)) refl

    branch_behind : (level : ℕ) → WalksSame level → (found : Found) (page : Bref) (low : ℕ) (high : Option ℕ) → FIRST_AMAP ≤ page.ib
        → walk_of kind T end (suc level) found page low high ≡ walk_of kind I end (suc level) found page low high
    unfolding walk_of
    branch_behind level below found page low high from =
        let at = entries_at I page.ib in
        rw (opened_behind (suc level) found.claimed page low high from, entries_same I T page.ib (page_behind page.ib from))
        (bind_same (opened kind I end (suc level) found.claimed page low high)
        (λ claimed. children kind T (walk_of kind T end level) high (found_so_far claimed found.entries (found.pages + 1)) at)
        (λ claimed. children kind I (walk_of kind I end level) high (found_so_far claimed found.entries (found.pages + 1)) at)
        (λ claimed. children_behind (walk_of kind T end level) (walk_of kind I end level) below high (found_so_far claimed found.entries (found.pages + 1)) at (entries_behind I page.ib from)))

    walk_behind : (level : ℕ) → WalksSame level
    walk_behind zero found page low high = if_placed 0 found page low high (leaf_behind found page low high)
    walk_behind (suc level) found page low high = if_placed (suc level) found page low high (branch_behind level (walk_behind level) found page low high)

    -- from the level that its root says
    tree_behind : (claimed : Claimed) (root : Bref) → tree_walk kind T end claimed root ≡ tree_walk kind I end claimed root
    tree_behind claimed root =
        let found = nothing_found claimed in
        elim (page_place_fault end root) as (λ o. page_place_fault end root ≡ o → tree_walk kind T end claimed root ≡ tree_walk kind I end claimed root) [
          | Some f ↦ λ h. walk_refused kind T end (level_at T root.ib) found root 0 None f h ∙ sym (walk_refused kind I end (level_at I root.ib) found root 0 None f h)
          | None ↦ λ h.
              let there = page_behind root.ib ((place_law end root).1 h).mapped in
              ap (λ level. walk_of kind T end level found root 0 None) (level_same I T root.ib there) ∙ walk_behind (level_at I root.ib) found root 0 None
        ] refl

    -- the pages of a tree lie there
    mutual
      pub spelt_behind : (level : ℕ) (tree : Tree) → Spells kind I end level tree → AreSamePages I T (pages_of tree)
      spelt_behind zero (leaf page entries) s = (page_behind page.ib s.0.good.place.mapped, tt)
      spelt_behind zero (branch page forest) s = absurd s
      spelt_behind (suc level) (leaf page entries) s = absurd s
      spelt_behind (suc level) (branch page forest) s = (page_behind page.ib s.0.good.place.mapped, each_behind level forest (entries_at I page.ib) s.1)

      each_behind : (level : ℕ) (forest : Forest) (at : List ℕ) → SpellsEach kind I end level forest at → AreSamePages I T (forest_pages forest)
      each_behind level none [] s = tt
      each_behind level none (at ∷ rest) s = absurd s
      each_behind level (more key tree forest) [] s = absurd s
      each_behind level (more key tree forest) (at ∷ rest) s = pages_join I T (pages_of tree) (forest_pages forest) (spelt_behind level tree s.2) (each_behind level forest rest s.3)

  -- ---- the walks of both trees, and of the blocks

  trees_behind : (h : Header) (claimed : Claimed) → trees_walk T h claimed ≡ trees_walk I h claimed
  unfolding trees_walk
  trees_behind h claimed =
      rw (tree_behind Bbt (end_of h) claimed h.bbt)
      (bind_same (tree_walk Bbt I (end_of h) claimed h.bbt) (λ found. tree_walk Nbt T (end_of h) found.claimed h.nbt) (λ found. tree_walk Nbt I (end_of h) found.claimed h.nbt)
      (λ found. tree_behind Nbt (end_of h) found.claimed h.nbt))

  trailers_behind : (end : ℕ) (entries : List BlockEntry) → All (LiesIn end) entries → HaveSameTrailers I T entries
  trailers_behind end [] lie = tt
  trailers_behind end (e ∷ rest) lie =
      let here : IsPlace end (block_span e) = All-head (LiesIn end) e rest lie in
      (block_same I T e (span_behind (block_span e) here.mapped), trailers_behind end rest (All-tail (LiesIn end) e rest lie))

  blocks_behind : (end : ℕ) (claimed : Claimed) (entries : List BlockEntry) → blocks_walk end T claimed entries ≡ blocks_walk end I claimed entries
  blocks_behind end claimed entries = walk_same entries end I T claimed (trailers_behind end (placed end claimed entries) (placed_lie end claimed entries))

  -- the entries of a block B-tree that is walked
  list_behind : (h : Header) (claimed : Claimed) (found : Found) → trees_walk I h claimed ≡ Ok found → block_list T h ≡ block_list I h
  unfolding trees_walk
  list_behind h claimed found e =
      let one = bind_ok (tree_walk Bbt I (end_of h) claimed h.bbt) _ found e in
      let (level, tree, t, f) = (walk_claims Bbt I (end_of h) claimed h.bbt one.0).0 one.1 in
      blocks_same I T h (end_of h) level tree (spelt_behind Bbt (end_of h) level tree t.spells) t

  walks_behind : (h : Header) (claimed : Claimed) → space_walk T h claimed ≡ space_walk I h claimed
  unfolding space_walk
  walks_behind h claimed =
      ap (λ step. step >>= λ trees. blocks_walk (end_of h) T trees.claimed (block_list T h)) (trees_behind h claimed)
      ∙ elim (trees_walk I h claimed) as (λ step. trees_walk I h claimed ≡ step
      → (step >>= λ trees. blocks_walk (end_of h) T trees.claimed (block_list T h)) ≡ (step >>= λ trees. blocks_walk (end_of h) I trees.claimed (block_list I h))) [
        | Ok trees ↦ λ e. ap (blocks_walk (end_of h) T trees.claimed) (list_behind h claimed trees e) ∙ blocks_behind (end_of h) trees.claimed (block_list I h)
        | Err stop ↦ λ e. refl
      ] refl

  -- ---- the maps, and all of these

  map_behind : (j : ℕ) → IsSamePage I T (amap_place j)
  map_behind j = page_behind (amap_place j) (omega arith)

  maps_behind : (h : Header) (claimed : Claimed) → maps_fault T h claimed ≡ maps_fault I h claimed
  unfolding maps_fault missing_fault
  maps_behind h claimed =
      let n = length claimed in
      rw (
        below_same (amap_fault T) (amap_fault I) (amap_count_of h) (λ j lt. map_fault_same I T j (map_behind j)),
        marks_same I T High claimed n (λ j lt. map_behind j) (omega arith),
        marks_same I T Low claimed n (λ j lt. map_behind j) (omega arith),
      ) refl

  after_behind : (h : Header) (step : Step Claimed) → fault_after (maps_fault T h) step ≡ fault_after (maps_fault I h) step
  after_behind h (Ok claimed) = maps_behind h claimed
  after_behind h (Err stop) = refl

  pub space_behind : (h : Header) → space_fault T h ≡ space_fault I h
  unfolding space_fault
  space_behind h = ap (fault_after (maps_fault T h)) (walks_behind h (maps_claimed h)) ∙ after_behind h (space_walk I h (maps_claimed h))
