-- Blocks without a fault lie apart from each other.
use Rattle.std.proofs.Common.{◌≡◌, ℕ, zero, suc, ◌-◌, ◌/◌, Bool, true, false, List, [], ◌∷◌, length, map, Option, Some, None, refl, ap, ◌∙◌}
use Rattle.std.specs.Prelude.{if◌then◌else◌}
use Rattle.std.proofs.lemmas.List.{map-append, length-replicate}
use Rattle.pst_bytes.specs.declared.span.Span.{Span}
use Rattle.pst_fault.specs.declared.fault.Fault.{Fault}
use Rattle.pst_fault.proofs.FirstLemmas.{none_then}
use Rattle.pst_header.specs.declared.header.Bref.{Bref}
use Rattle.pst_header.specs.declared.header.Header.{Header}
use Rattle.pst_header.specs.Header.{end_of, fields}
use Rattle.pst_page.specs.declared.kind.PageKind.{PageKind}
use Rattle.pst_page.specs.declared.kind.PageKind.TheVariants.{Bbt, Nbt}
use Rattle.pst_page.specs.declared.entry.BlockEntry.{BlockEntry}
use Rattle.pst_page.specs.Entry.{block_entry_at, child_at, key_at}
use Rattle.pst_page.specs.Page.{entries_at, level_at}
use Rattle.pst_space.specs.Apart.{AreApart}
use Rattle.pst_space.specs.Claimed.{Claimed, is_clear, first_unit, unit_count, unit_total, with_span, claim_of, claim_all, map_pages, maps_claimed, nothing_claimed}
use Rattle.pst_space.proofs.ApartLemmas.{claims_law}
use Rattle.pst_space.proofs.MapLemmas.{length_with_span, length_with_spans}
use Rattle.pst_btree.specs.Tree.{span_of}
use Rattle.pst_btree.specs.Walk.{next_key}
use Rattle.pst_block.specs.Block.{block_span}
use Rattle.pst_block.specs.Fault.{block_fault}
use Rattle.pst_block.specs.Walk.{AreGood, blocks_fault, block_spans}
use Rattle.pst_block.proofs.BlockLaws.{block_law}
use Rattle.pst_block.proofs.UnitLemmas.{blocks_units}
use Rattle.pst_plain.proofs.PlacedLemmas.{claim_join}
use Rattle.pst_remains.specs.Blocks.{block_damage, BlocksLeft, blocks_left, blocks_so_far, told_block, with_block, with_blocks}
use Rattle.pst_remains.specs.Header.{has_maps, mended}
use Rattle.pst_remains.specs.Pages.{Left, Look, leaf_entries, is_open, keys_end, left_so_far, look_at, look_each, look_on, page_damage, told_page, tree_left, with_leaf, with_page}
use Rattle.pst_remains.specs.Remains.{all_blocks_left, block_tree_left, first_claimed, mapped_end, node_tree_left}
use Rattle.pst_remains.proofs.BlockLemmas.{good_clear, left_sound}

-- ---- they are claimed one after another

claim_clear : (m : Claimed) (s : Span) → is_clear m (first_unit s) (unit_count s) ≡ true → claim_all m (s ∷ []) ≡ Some (with_span m s)
unfolding claim_of
claim_clear m s clear = rw clear refl

told_claims : (end : ℕ) (I : List ℕ) (m : Claimed) (d : Option Fault) (b : BlocksLeft) (e : BlockEntry) → block_damage end I b.claimed e ≡ d → claim_all m (block_spans b.good) ≡ Some b.claimed
    → claim_all m (block_spans (told_block d b e).good) ≡ Some (told_block d b e).claimed
told_claims end I m None b e h so_far =
    ap (claim_all m) (map-append block_span b.good (e ∷ []))
    ∙ claim_join m b.claimed (with_span b.claimed (block_span e)) (block_spans b.good) (block_span e ∷ []) so_far (claim_clear b.claimed (block_span e) (good_clear end I b.claimed e h))
told_claims end I m (Some f) b e h so_far = so_far

with_claims : (end : ℕ) (I : List ℕ) (m : Claimed) (b : BlocksLeft) (entries : List BlockEntry) → claim_all m (block_spans b.good) ≡ Some b.claimed
    → claim_all m (block_spans (with_blocks end I b entries).good) ≡ Some (with_blocks end I b entries).claimed
unfolding with_blocks with_block
with_claims end I m b [] so_far = so_far
with_claims end I m b (e ∷ rest) so_far = with_claims end I m (told_block (block_damage end I b.claimed e) b e) rest (told_claims end I m _ b e refl so_far)

pub are_good : (end : ℕ) (I : List ℕ) (entries : List BlockEntry) → blocks_fault end I entries ≡ None → AreGood I end entries
unfolding blocks_fault
are_good end I [] none = tt
are_good end I (e ∷ rest) none =
    let both = none_then (block_fault end I e) (blocks_fault end I rest) none in
    ((block_law I end e).1 both.0, are_good end I rest both.1)

left_apart : (end : ℕ) (I : List ℕ) (claimed : Claimed) (entries : List BlockEntry) → length claimed ≡ (end - 17408) / 64 → AreApart (block_spans (blocks_left end I claimed entries).good)
left_apart end I claimed entries long =
    let left = blocks_left end I claimed entries in
    let units = blocks_units I end claimed left.good long (are_good end I left.good (left_sound end I claimed entries)) in
    ((claims_law claimed left.claimed (block_spans left.good) units).0 (with_claims end I claimed (blocks_so_far claimed [] []) entries refl)).1

-- ---- a flag for each unit, whatever is claimed

told_long : (d : Option Fault) (left : Left) (page : Bref) (from : ℕ) (high : Option ℕ) → length (told_page d left page from high).claimed ≡ length left.claimed
told_long None left page from high = length_with_span left.claimed (span_of page)
told_long (Some f) left page from high = refl

module _ (kind : PageKind) (I : List ℕ) (end : ℕ) where
  abbrev KeepsUnits : Look → Type 0
  KeepsUnits look = (left : Left) (page : Bref) (from low : ℕ) (high : Option ℕ) → length (look left page from low high).claimed ≡ length left.claimed

  each_long : (look : Look) → KeepsUnits look → (from : ℕ) (high : Option ℕ) (left : Left) (entries : List ℕ) → length (look_each kind I look from high left entries).claimed ≡ length left.claimed
  unfolding look_each
  each_long look keeps from high left [] = refl
  each_long look keeps from high left (at ∷ rest) =
      each_long look keeps (keys_end (next_key kind I rest high)) high (look left (child_at I at) from (key_at kind I at) (next_key kind I rest high)) rest
      ∙ keeps left (child_at I at) from (key_at kind I at) (next_key kind I rest high)

  on_long : (b : Bool) (below : Left → Left) (left : Left) → length (below left).claimed ≡ length left.claimed → length (look_on b below left).claimed ≡ length left.claimed
  on_long true below left same = same
  on_long false below left same = refl

  look_long : (level : ℕ) → KeepsUnits (look_at kind I end level)
  unfolding look_at with_page
  look_long zero = λ left page from low high.
      on_long (is_open kind I end 0 left.claimed page low high) (with_leaf page) (told_page (page_damage kind I end 0 left.claimed page low high) left page from high) refl
      ∙ told_long (page_damage kind I end 0 left.claimed page low high) left page from high
  look_long (suc level) = λ left page from low high.
      on_long (is_open kind I end (suc level) left.claimed page low high) (λ passed. look_each kind I (look_at kind I end level) from high passed (entries_at I page.ib))
      (told_page (page_damage kind I end (suc level) left.claimed page low high) left page from high)
      (each_long (look_at kind I end level) (look_long level) from high (told_page (page_damage kind I end (suc level) left.claimed page low high) left page from high) (entries_at I page.ib))
      ∙ told_long (page_damage kind I end (suc level) left.claimed page low high) left page from high

  tree_long : (claimed : Claimed) (root : Bref) → length (tree_left kind I end claimed root).claimed ≡ length claimed
  tree_long claimed root = look_long (level_at I root.ib) (left_so_far claimed [] []) root 0 0 None

maps_long : (h : Header) → length (maps_claimed h) ≡ unit_total h
unfolding maps_claimed nothing_claimed
maps_long h = length_with_spans (nothing_claimed h) (map_pages h) ∙ length-replicate (unit_total h) false

first_long : (I : List ℕ) → length (first_claimed I) ≡ (mapped_end I - 17408) / 64
first_long I =
    elim (has_maps I) as (λ b. length (if b then maps_claimed (mended I) else []) ≡ ((if b then end_of (mended I) else 17408) - 17408) / 64) [
      | true ↦ maps_long (mended I)
      | false ↦ refl
    ]

pages_long : (I : List ℕ) → length (node_tree_left I).claimed ≡ (mapped_end I - 17408) / 64
unfolding block_tree_left node_tree_left
pages_long I =
    tree_long Nbt I (mapped_end I) (tree_left Bbt I (mapped_end I) (first_claimed I) (fields I).bbt).claimed (fields I).nbt
    ∙ tree_long Bbt I (mapped_end I) (first_claimed I) (fields I).bbt ∙ first_long I

-- ---- of a file

pub good_apart : (I : List ℕ) → AreApart (block_spans (all_blocks_left I).good)
unfolding all_blocks_left
good_apart I = left_apart (mapped_end I) I (node_tree_left I).claimed (map (block_entry_at I) (leaf_entries I (block_tree_left I).leaves)) (pages_long I)

pub good_sound : (I : List ℕ) → blocks_fault (mapped_end I) I (all_blocks_left I).good ≡ None
unfolding all_blocks_left
good_sound I = left_sound (mapped_end I) I (node_tree_left I).claimed (map (block_entry_at I) (leaf_entries I (block_tree_left I).leaves))
