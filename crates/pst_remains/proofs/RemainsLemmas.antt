-- What remains of a file, of what its parts leave.
use Rattle.std.proofs.Common.{◌≡◌, ℕ, ◌≤◌, Bool, true, false, List, [], ◌∷◌, ◌++◌, map, Option, Some, None, refl, ap, subst, ◌∙◌, arith}
use Rattle.pst_bytes.specs.declared.span.Span.{Span}
use Rattle.pst_fault.specs.declared.fault.Fault.{Fault}
use Rattle.pst_fault.specs.declared.kind.Kind.TheVariants.{PagePlace}
use Rattle.pst_fault.specs.Fault.{fault_in}
use Rattle.pst_header.specs.declared.header.Bref.{Bref}
use Rattle.pst_header.specs.declared.header.Header.{Header}
use Rattle.pst_header.specs.Header.{end_of, fields}
use Rattle.pst_header.specs.Place.{is_place}
use Rattle.pst_header.proofs.PlaceLemmas.{is_place_good}
use Rattle.pst_page.specs.declared.kind.PageKind.TheVariants.{Bbt, Nbt}
use Rattle.pst_page.specs.declared.entry.BlockEntry.{BlockEntry}
use Rattle.pst_page.specs.declared.entry.NodeEntry.{NodeEntry}
use Rattle.pst_page.specs.Entry.{block_entry_at, node_entry_at}
use Rattle.pst_page.specs.Page.{page_span}
use Rattle.pst_page.specs.Fault.{page_place_fault}
use Rattle.pst_space.specs.Claimed.{Claimed, maps_claimed}
use Rattle.pst_block.specs.Table.{table_with}
use Rattle.pst_block.specs.Walk.{blocks_fault}
use Rattle.pst_amap.specs.Report.{maps_fault}
use Rattle.pst_remains.specs.declared.pages.Broken.{Broken}
use Rattle.pst_remains.specs.Blocks.{BlocksLeft, blocks_left, blocks_so_far}
use Rattle.pst_remains.specs.Header.{header_damage, has_maps, mended}
use Rattle.pst_remains.specs.Pages.{Left, leaf_entries, faults_of, left_so_far, tree_left}
use Rattle.pst_remains.specs.Remains.{RemainsParts, all_blocks_left, block_tree_left, maps_damage, node_tree_left, remains_of}
use Rattle.pst_remains.proofs.BlockLemmas.{blocks_done}
use Rattle.pst_remains.proofs.WalkLemmas.{tree_no_place}

-- the parts, of what is found of each
abbrev pub parts_with : List ℕ → Option Fault → Option Fault → List Fault → List Fault → List BlockEntry → List NodeEntry → List Broken → RemainsParts
parts_with I header maps pages faults good nodes broken = record {
  header = header;
  pages = pages;
  blocks = faults;
  maps = maps;
  table = table_with I good;
  nodes = nodes;
  broken = broken;
}

remains_from : (I : List ℕ) (o m : Option Fault) (ps fs : List Fault) (gs : List BlockEntry) (ns : List NodeEntry) (bs : List Broken) (first second : Left) (blocks : BlocksLeft)
    → block_tree_left I ≡ first → node_tree_left I ≡ second → all_blocks_left I ≡ blocks → o ≡ header_damage I → m ≡ maps_damage I → ps ≡ faults_of first.broken ++ faults_of second.broken → fs ≡ blocks.faults
    → gs ≡ blocks.good → ns ≡ map (node_entry_at I) (leaf_entries I second.leaves) → bs ≡ second.broken → parts_with I o m ps fs gs ns bs ≡ remains_of I
unfolding remains_of
remains_from I o m ps fs gs ns bs first second blocks a b c header maps pages faults good nodes broken = rw (a, b, c, header, maps, pages, faults, good, nodes, broken) refl

-- ---- where something is mapped

first_left : (I : List ℕ) (left : Left) → has_maps I ≡ true → tree_left Bbt I (end_of (mended I)) (maps_claimed (mended I)) (mended I).bbt ≡ left → block_tree_left I ≡ left
unfolding block_tree_left mended
first_left I left maps e = rw maps e

second_left : (I : List ℕ) (first second : Left) → has_maps I ≡ true → block_tree_left I ≡ first → tree_left Nbt I (end_of (mended I)) first.claimed (mended I).nbt ≡ second → node_tree_left I ≡ second
unfolding node_tree_left mended
second_left I first second maps a e = rw (maps, a) e

third_left : (I : List ℕ) (first second : Left) (blocks : BlocksLeft) → has_maps I ≡ true → block_tree_left I ≡ first → node_tree_left I ≡ second
    → blocks_left (end_of (mended I)) I second.claimed (map (block_entry_at I) (leaf_entries I first.leaves)) ≡ blocks → all_blocks_left I ≡ blocks
unfolding all_blocks_left
third_left I first second blocks maps a b e = rw (maps, a, b) e

maps_left : (I : List ℕ) (blocks : BlocksLeft) (o : Option Fault) → has_maps I ≡ true → all_blocks_left I ≡ blocks → o ≡ maps_fault I (mended I) blocks.claimed → o ≡ maps_damage I
unfolding maps_damage
maps_left I blocks o maps c e = rw (maps, c) e

pub gathered : (I : List ℕ) (o m : Option Fault) (ps fs : List Fault) (gs : List BlockEntry) (ns : List NodeEntry) (bs : List Broken) (h : Header) (c0 c1 c2 c3 : Claimed) (b1 b2 : List Broken) (l1 l2 : List ℕ) → has_maps I ≡ true → h ≡ mended I → c0 ≡ maps_claimed h
    → tree_left Bbt I (end_of h) c0 h.bbt ≡ left_so_far c1 b1 l1 → tree_left Nbt I (end_of h) c1 h.nbt ≡ left_so_far c2 b2 l2
    → blocks_left (end_of h) I c2 (map (block_entry_at I) (leaf_entries I l1)) ≡ blocks_so_far c3 fs gs
    → o ≡ header_damage I → m ≡ maps_fault I h c3 → ps ≡ faults_of b1 ++ faults_of b2 → ns ≡ map (node_entry_at I) (leaf_entries I l2) → bs ≡ b2 → parts_with I o m ps fs gs ns bs ≡ remains_of I
gathered I o m ps fs gs ns bs h c0 c1 c2 c3 b1 b2 l1 l2 there same start x y z header maps pages nodes broken =
    let first = left_so_far c1 b1 l1 in
    let second = left_so_far c2 b2 l2 in
    let blocks = blocks_so_far c3 fs gs in
    let a = first_left I first there (rw (← same, ← start) x) in
    let b = second_left I first second there a (rw (← same) y) in
    let c = third_left I first second blocks there a b (rw (← same) z) in
    let told = maps_left I blocks m there c (rw (← same) maps) in
    remains_from I o m ps fs gs ns bs first second blocks a b c header told pages refl refl nodes broken

-- ---- where nothing is

no_room : (b : Bool) (span : Span) → is_place 17408 span ≡ b → 512 ≤ span.len → b ≡ false
no_room false span e le = refl
no_room true span e le = let p = is_place_good 17408 span e in absurd (omega (arith, p.mapped, p.inside))

no_place : (page : Bref) → page_place_fault 17408 page ≡ Some (fault_in PagePlace page.ib page.bid)
unfolding page_place_fault
no_place page = rw (no_room (is_place 17408 (page_span page.ib)) (page_span page.ib) refl (omega arith)) refl

-- a page that has no place
abbrev pub lost_of : Fault → Broken
lost_of f = record { fault = f; from = 0; high = None }

abbrev pub lost_page : Bref → Broken
lost_page page = lost_of (fault_in PagePlace page.ib page.bid)

first_lost : (I : List ℕ) → has_maps I ≡ false → block_tree_left I ≡ left_so_far [] (lost_page (fields I).bbt ∷ []) []
unfolding block_tree_left
first_lost I maps = rw maps (tree_no_place Bbt I 17408 [] (fields I).bbt _ (no_place (fields I).bbt))

second_lost : (I : List ℕ) → has_maps I ≡ false → node_tree_left I ≡ left_so_far [] (lost_page (fields I).nbt ∷ []) []
unfolding node_tree_left
second_lost I maps = rw (maps, first_lost I maps) (tree_no_place Nbt I 17408 [] (fields I).nbt _ (no_place (fields I).nbt))

pub third_lost : (I : List ℕ) → has_maps I ≡ false → all_blocks_left I ≡ blocks_so_far [] [] []
unfolding all_blocks_left
third_lost I maps = rw (maps, first_lost I maps, second_lost I maps) (blocks_done 17408 I (blocks_so_far [] [] []))

maps_lost : (I : List ℕ) → has_maps I ≡ false → None ≡ maps_damage I
unfolding maps_damage
maps_lost I maps = rw maps refl

nothing_left : (I : List ℕ) (o m : Option Fault) (ps fs : List Fault) (gs : List BlockEntry) (ns : List NodeEntry) (bs : List Broken) → has_maps I ≡ false → o ≡ header_damage I → m ≡ None
    → ps ≡ fault_in PagePlace (mended I).bbt.ib (mended I).bbt.bid ∷ fault_in PagePlace (mended I).nbt.ib (mended I).nbt.bid ∷ []
    → fs ≡ [] → gs ≡ [] → ns ≡ [] → bs ≡ lost_page (mended I).nbt ∷ [] → parts_with I o m ps fs gs ns bs ≡ remains_of I
unfolding mended
nothing_left I o m ps fs gs ns bs lack header maps pages faults good nodes broken =
    remains_from I o m ps fs gs ns bs (left_so_far [] (lost_page (fields I).bbt ∷ []) []) (left_so_far [] (lost_page (fields I).nbt ∷ []) []) (blocks_so_far [] [] []) (first_lost I lack) (second_lost I lack) (third_lost I lack) header (maps ∙ maps_lost I lack) pages faults good nodes broken

pub nothing_is : (I : List ℕ) (o m : Option Fault) (ps fs : List Fault) (gs : List BlockEntry) (ns : List NodeEntry) (bs : List Broken) (h : Header) (first second : Fault) → has_maps I ≡ false → h ≡ mended I → first ≡ fault_in PagePlace h.bbt.ib h.bbt.bid → second ≡ fault_in PagePlace h.nbt.ib h.nbt.bid
    → o ≡ header_damage I → m ≡ None → ps ≡ first ∷ second ∷ [] → fs ≡ [] → gs ≡ [] → ns ≡ []
    → bs ≡ lost_of second ∷ [] → parts_with I o m ps fs gs ns bs ≡ remains_of I
nothing_is I o m ps fs gs ns bs h first second lack same a b header maps pages faults good nodes broken =
    let told : ps ≡ fault_in PagePlace h.bbt.ib h.bbt.bid ∷ fault_in PagePlace h.nbt.ib h.nbt.bid ∷ [] =
    pages ∙ ap (λ (f : Fault). f ∷ second ∷ []) a ∙ ap (λ (f : Fault). fault_in PagePlace h.bbt.ib h.bbt.bid ∷ f ∷ []) b in
    let lost : bs ≡ lost_page h.nbt ∷ [] = broken ∙ ap (λ (f : Fault). lost_of f ∷ []) b in
    nothing_left I o m ps fs gs ns bs lack header maps (subst (λ (x : Header). ps ≡ fault_in PagePlace x.bbt.ib x.bbt.bid ∷ fault_in PagePlace x.nbt.ib x.nbt.bid ∷ []) same told) faults good nodes
    (subst (λ (x : Header). bs ≡ lost_page x.nbt ∷ []) same lost)

pub no_blocks : (end : ℕ) (I : List ℕ) → blocks_fault end I [] ≡ None
unfolding blocks_fault
no_blocks end I = refl
