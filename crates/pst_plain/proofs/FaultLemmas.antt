-- Up to its allocation maps the twin has the first fault that the file has, its encoding aside.
use Rattle.std.proofs.Common.{◌≡◌, ℕ, inl, inr, List, [], ◌∷◌, ◌++◌, length, map, Some, Ok, Err, refl, sym, ap, subst, ◌∙◌, arith}
use Rattle.std.specs.List.{All, filter}
use Rattle.pst_bytes.specs.declared.span.Span.{Span}
use Rattle.pst_fault.specs.First.{◌then◌}
use Rattle.pst_fault.proofs.FirstLemmas.{then_assoc}
use Rattle.pst_header.specs.declared.header.Header.{Header}
use Rattle.pst_header.specs.Header.{header_fault, check_fault, root_fault, fields, end_of, amap_count_of}
use Rattle.pst_header.specs.Head.{Head}
use Rattle.pst_header.proofs.Head.{header_law}
use Rattle.pst_page.specs.declared.entry.BlockEntry.{BlockEntry}
use Rattle.pst_page.specs.declared.kind.PageKind.TheVariants.{Bbt, Nbt}
use Rattle.pst_page.specs.Entry.{block_entry_at}
use Rattle.pst_space.specs.Claimed.{Claimed, unit_total, map_pages, maps_claimed, claim_all}
use Rattle.pst_space.specs.Step.{Step}
use Rattle.pst_btree.specs.Tree.{IsTree, page_spans}
use Rattle.pst_btree.specs.Walk.{tree_walk}
use Rattle.pst_btree.proofs.TreeLaws.{walk_claims}
use Rattle.pst_block.specs.Walk.{block_spans, blocks_walk}
use Rattle.pst_encoding.specs.declared.method.Method.{Method}
use Rattle.pst_encoding.specs.Tables.{IsByte}
use Rattle.pst_amap.specs.Report.{maps_fault}
use Rattle.pst_ndb.specs.Entries.{block_list}
use Rattle.pst_ndb.specs.Space.{space_walk, space_fault, fault_after}
use Rattle.pst_ndb.specs.Trees.{trees_walk}
use Rattle.pst_plain.specs.Blocks.{has_data, placed, placed_data, Listed}
use Rattle.pst_plain.specs.Twin.{with_method, decoded_file}
use Rattle.pst_plain.specs.Faults.{fault_before_nodes, FrontLaw}
use Rattle.pst_plain.proofs.LawLemmas.{head_told}
use Rattle.pst_plain.proofs.TwinLemmas.{method_long, twin_is}
use Rattle.pst_plain.proofs.HeaderLemmas as headers
use Rattle.std.proofs.lemmas.List.{length-replicate}
use Rattle.pst_space.specs.Claimed.{nothing_claimed}
use Rattle.pst_space.proofs.ApartLemmas.{claimed_is}
use Rattle.pst_space.proofs.MapLemmas.{length_with_spans}
use Rattle.pst_block.proofs.WalkLaws.{walked_good}
use Rattle.pst_header.proofs.Head.{head_end}
use Rattle.pst_plain.specs.Laws.{SameBesides, fields_of}
use Rattle.pst_plain.proofs.BlockLemmas.{end_later}
use Rattle.pst_plain.proofs.LawLemmas.{placed_inside}
use Rattle.pst_plain.proofs.SameLemmas.{tree_same}
use Rattle.pst_plain.proofs.EntryLemmas.{block_list_is, blocks_same}
use Rattle.pst_plain.proofs.PlacedLemmas.{AreApartFrom, apart_cross, from_second, filter_pages, fields_apart}
use Rattle.pst_encoding.specs.Method.{decoded}
use Rattle.pst_plain.proofs.CodingLemmas.{Coding, IsCoding, decoding, all_changed}
use Rattle.pst_plain.proofs.AgainLemmas.{Laid, HasTrees, data_cases, pages_again, the_blocks, the_laid, the_placed_apart, header_again, fields_again, file_changed, decoded_file_is, same_beside, nothing_changed}
use Rattle.pst_plain.proofs.TrailerLemmas.{HaveSameTrailers, trailers_kept, walk_same}
use Rattle.pst_plain.proofs.MapLemmas.{AreSameMaps, AllAreSame, same_maps, maps_same, units_few}

-- ---- how many units are claimed

maps_long : (h : Header) → length (maps_claimed h) ≡ unit_total h
unfolding maps_claimed nothing_claimed
maps_long h = length_with_spans (nothing_claimed h) (map_pages h) ∙ length-replicate (unit_total h) _

claims_long : (old new : Claimed) (spans : List Span) → claim_all old spans ≡ Some new → length new ≡ length old
claims_long old new spans e = ap length (claimed_is old spans new e) ∙ length_with_spans old spans

-- ---- the map pages

from_back : (ss xs ys : List Span) → AreApartFrom ss (xs ++ ys) → AreApartFrom ss ys
from_back [] xs ys all = tt
from_back (s ∷ ss) xs ys all = (from_second s xs ys all.0, from_back ss xs ys all.1)

spans_kept : (J T : List ℕ) (ss : List Span) (entries : List BlockEntry) → SameBesides J T (fields_of entries) → AreApartFrom ss (block_spans entries) → AllAreSame J T ss
spans_kept J T [] entries same all = tt
spans_kept J T (s ∷ ss) entries same all = (same.others s (fields_apart s entries all.0), spans_kept J T ss entries same all.1)

-- ---- the walks, and the maps behind them

module _ (J T : List ℕ) (h : Header) (found : Listed) (head : Head J h) (l : Laid J h found) (same : SameBesides J T (fields_of (placed_data (end_of h) found.claimed found.entries)))
    (trailers : HaveSameTrailers J T (placed (end_of h) found.claimed found.entries)) where
  block_tree_again : IsTree Bbt T (end_of h) h.bbt l.block_level l.block_tree
  block_tree_again = tree_same Bbt J T (end_of h) h.bbt l.block_level l.block_tree (pages_again J T h found l same).0 l.is_block_tree

  node_tree_again : IsTree Nbt T (end_of h) h.nbt l.node_level l.node_tree
  node_tree_again = tree_same Nbt J T (end_of h) h.nbt l.node_level l.node_tree (pages_again J T h found l same).1 l.is_node_tree

  walks_are : (L : List ℕ) → IsTree Bbt L (end_of h) h.bbt l.block_level l.block_tree → IsTree Nbt L (end_of h) h.nbt l.node_level l.node_tree → trees_walk L h (maps_claimed h) ≡ Ok l.nodes
  unfolding trees_walk
  walks_are L bt nt =
      let first : tree_walk Bbt L (end_of h) (maps_claimed h) h.bbt ≡ Ok l.blocks = (walk_claims Bbt L (end_of h) (maps_claimed h) h.bbt l.blocks).1 (l.block_level, l.block_tree, bt, l.block_claims) in
      let second : tree_walk Nbt L (end_of h) l.blocks.claimed h.nbt ≡ Ok l.nodes = (walk_claims Nbt L (end_of h) l.blocks.claimed h.nbt l.nodes).1 (l.node_level, l.node_tree, nt, l.node_claims) in
      rw first second

  list_in : block_list J h ≡ found.entries
  list_in =
      block_list_is J h (end_of h) l.block_level l.block_tree l.is_block_tree ∙ ap (map (block_entry_at J)) (sym l.block_claims.entries)
      ∙ ap (λ (x : Listed). x.entries) (sym l.found_is)

  list_again : block_list T h ≡ found.entries
  list_again = blocks_same J T h (end_of h) l.block_level l.block_tree (pages_again J T h found l same).0 l.is_block_tree ∙ list_in

  claimed_in : l.nodes.claimed ≡ found.claimed
  claimed_in = ap (λ (x : Listed). x.claimed) (sym l.found_is)

  walk_from : (L : List ℕ) → trees_walk L h (maps_claimed h) ≡ Ok l.nodes → block_list L h ≡ found.entries → space_walk L h (maps_claimed h) ≡ blocks_walk (end_of h) L found.claimed found.entries
  unfolding space_walk
  walk_from L trees list = rw (trees, list, claimed_in) refl

  walk_in : space_walk J h (maps_claimed h) ≡ blocks_walk (end_of h) J found.claimed found.entries
  walk_in = walk_from J (walks_are J l.is_block_tree l.is_node_tree) list_in

  walk_again : space_walk T h (maps_claimed h) ≡ blocks_walk (end_of h) J found.claimed found.entries
  walk_again = walk_from T (walks_are T block_tree_again node_tree_again) list_again ∙ walk_same found.entries (end_of h) J T found.claimed trailers

  maps_kept : AreSameMaps J T (amap_count_of h)
  maps_kept =
      let spans = page_spans l.block_tree ++ page_spans l.node_tree in
      let entries = placed (end_of h) found.claimed found.entries in
      let cross = apart_cross (map_pages h) (spans ++ block_spans entries) l.apart in
      same_maps J T h (spans_kept J T (map_pages h) (filter has_data entries) same (filter_pages (map_pages h) entries (from_back (map_pages h) spans (block_spans entries) cross)))

  found_long : length found.claimed ≡ unit_total h
  found_long =
      ap length (sym claimed_in) ∙ claims_long l.blocks.claimed l.nodes.claimed (page_spans l.node_tree) l.node_claims.claims
      ∙ claims_long (maps_claimed h) l.blocks.claimed (page_spans l.block_tree) l.block_claims.claims ∙ maps_long h

  after_same : (step : Step Claimed) → blocks_walk (end_of h) J found.claimed found.entries ≡ step → fault_after (maps_fault T h) step ≡ fault_after (maps_fault J h) step
  after_same (Err stop) e = refl
  after_same (Ok claimed) e =
      let good = walked_good (end_of h) J found.claimed claimed found.entries e in
      let long : length claimed ≡ unit_total h = claims_long found.claimed claimed (block_spans found.entries) good.1 ∙ found_long in
      let few = units_few J h head in
      maps_same J T h claimed maps_kept (omega (arith, long, few))

  pub space_same : space_fault T h ≡ space_fault J h
  unfolding space_fault
  space_same =
      let step = blocks_walk (end_of h) J found.claimed found.entries in
      ap (fault_after (maps_fault T h)) walk_again ∙ after_same step refl ∙ ap (fault_after (maps_fault J h)) (sym walk_in)

-- ---- the file

pub front_kept : (J : List ℕ) (coding : Coding) (is : IsCoding coding) (all : All IsByte J) (has : HasTrees J) → fault_before_nodes (file_changed coding J) ≡ fault_before_nodes J
front_kept J coding is all has =
    let T = file_changed coding J in
    let h = fields J in
    let found = has.found in
    let entries = placed (end_of h) found.claimed found.entries in
    let head : Head J h = (header_law J h).1 (has.none, refl) in
    let ends = end_later (end_of h) (length J) entries (head_end J h head) (placed_inside (end_of h) found.claimed found.entries) in
    let beside = same_beside J coding is all has in
    let trailers : HaveSameTrailers J T entries =
    subst (λ (l : List BlockEntry). HaveSameTrailers J (all_changed coding l J) entries) (sym (the_blocks J has)) (trailers_kept entries J coding is all ends (the_placed_apart J has)) in
    let same = space_same J T h found head (the_laid J has) beside trailers in
    let first : header_fault T ≡ header_fault J = header_again J T has beside ∙ sym has.none in
    let second : space_fault T (fields T) ≡ space_fault J h = ap (space_fault T) (fields_again J T has beside) ∙ same in
    rw (first, second) refl

pub front_same : (J : List ℕ) (method : Method) → All IsByte J → fault_before_nodes (decoded_file method J) ≡ fault_before_nodes J
front_same J method all =
    ap fault_before_nodes (decoded_file_is method J)
    ∙ elim (data_cases J) [
      | inl none ↦ ap fault_before_nodes (nothing_changed J (decoded method) (decoding method) all none)
      | inr has ↦ front_kept J (decoded method) (decoding method) all has
    ]

pub front_law : FrontLaw
front_law I method all is =
    let J = with_method 0 I in
    let told = head_told I 0 all (omega arith) (method_long I method is) in
    let (head, same, space) = headers.header_law I method all is in
    ap fault_before_nodes (twin_is I method is)
    ∙ front_same J method told.bytes
    ∙ ap (λ o. o then space_fault J (fields J)) head
    ∙ ap (λ o. (check_fault I then root_fault I) then o) space
    ∙ sym (then_assoc (check_fault I) (root_fault I) (space_fault I (fields I)))
