-- The twin has the same header but for its encoding, the same trees and the same data blocks; so it can be encoded again, and is
-- the file.
use Rattle.std.proofs.Common.{◌≡◌, ℕ, ◌+◌, ◌≤◌, ◌⊎◌, inl, inr, List, [], ◌++◌, length, map, replicate, Some, None, Ok, Err, false, refl, sym, ap, ◌∙◌, subst, arith}
use Rattle.std.specs.List.{All, filter}
use Rattle.std.proofs.lemmas.List.{length-replicate}
use Rattle.std.proofs.lemmas.List.Elements.{All-filter}
use Rattle.pst_bytes.specs.Image.{num, bytes_at}
use Rattle.pst_fault.specs.First.{answer}
use Rattle.pst_header.specs.declared.header.Header.{Header}
use Rattle.pst_header.specs.Header.{header_fault, fields, bref_at, end_of}
use Rattle.pst_header.specs.Head.{Head}
use Rattle.pst_header.proofs.Head.{header_law}
use Rattle.pst_page.specs.declared.entry.BlockEntry.{BlockEntry}
use Rattle.pst_page.specs.declared.kind.PageKind.TheVariants.{Bbt, Nbt}
use Rattle.pst_page.specs.Entry.{block_entry_at}
use Rattle.pst_space.specs.Claimed.{Claimed, unit_total, map_pages, maps_claimed, claim_all}
use Rattle.pst_space.specs.Apart.{AreApart}
use Rattle.pst_space.specs.Step.{Step}
use Rattle.pst_space.proofs.ApartLemmas.{units_append}
use Rattle.pst_space.proofs.UnitLemmas.{maps_units}
use Rattle.pst_space.proofs.StepLemmas.{bind_ok}
use Rattle.pst_btree.specs.Tree.{Tree, IsTree, pages_of, page_spans}
use Rattle.pst_btree.specs.Walk.{Found, tree_walk}
use Rattle.pst_btree.proofs.TreeLaws.{IsClaimedOf, walk_claims}
use Rattle.pst_btree.proofs.UnitLemmas.{tree_units}
use Rattle.pst_block.specs.Walk.{block_spans}
use Rattle.pst_encoding.specs.declared.method.Method.{Method}
use Rattle.pst_encoding.specs.Method.{method_number, decoded, encoded}
use Rattle.pst_encoding.specs.Tables.{IsByte}
use Rattle.pst_plain.specs.Blocks.{has_data, placed, placed_data, Listed, trees_listed, data_after, data_under, data_if, data_blocks, EndsBy}
use Rattle.pst_plain.specs.Twin.{with_method, all_encoded, decoded_file, twin_of, encoded_of}
use Rattle.pst_plain.specs.Laws.{SameBesides, fields_of, AgainLaw}
use Rattle.pst_plain.proofs.CodingLemmas.{Coding, IsCoding, IsUndoneBy, decoding, encoding, decoding_undone, all_changed, decoded_is, encoded_is}
use Rattle.pst_plain.proofs.HeadLemmas.{method_again}
use Rattle.pst_plain.proofs.TwinLemmas.{method_long, number_in, number_byte}
use Rattle.pst_plain.proofs.LawLemmas.{Kept, all_kept, data_inside, head_told}
use Rattle.pst_plain.proofs.SameLemmas.{part_same, num_same, AreSamePages, tree_same, block_entry_same, list_same}
use Rattle.pst_plain.proofs.PlacedLemmas.{placed_claims, placed_lie, lie_units, LiesIn, claim_join, claims_apart, apart_cross, apart_back, from_first_part, from_other_part, filter_apart, filter_pages, fields_apart, header_span, header_apart, pages_kept}
use Rattle.pst_plain.proofs.BackLemmas.{all_back}

-- ---- the header

module _ (J T : List ℕ) (long : length T ≡ length J) (same : bytes_at T header_span ≡ bytes_at J header_span) where
  number_same : (at n : ℕ) → at + n ≤ 564 → num T at n ≡ num J at n
  number_same at n inside = num_same J T header_span at n same (omega arith) inside

  bref_same : (at : ℕ) → at + 16 ≤ 564 → bref_at T at ≡ bref_at J at
  unfolding bref_at
  bref_same at inside = rw (number_same at 8 (omega arith), number_same (at + 8) 8 (omega arith)) refl

  pub fields_same : fields T ≡ fields J
  unfolding fields
  fields_same =
      rw (
        number_same 184 8 (omega arith),
        number_same 192 8 (omega arith),
        number_same 200 8 (omega arith),
        bref_same 216 (omega arith),
        bref_same 232 (omega arith),
        number_same 248 1 (omega arith),
        number_same 32 8 (omega arith),
        number_same 516 8 (omega arith),
        number_same 10 2 (omega arith),
      ) refl

  pub header_same : header_fault T ≡ header_fault J
  unfolding header_fault
  header_same =
      rw (
        long,
        number_same 0 4 (omega arith),
        number_same 8 2 (omega arith),
        number_same 10 2 (omega arith),
        number_same 513 1 (omega arith),
        number_same 4 4 (omega arith),
        number_same 524 4 (omega arith),
        number_same 184 8 (omega arith),
        number_same 192 8 (omega arith),
        number_same 248 1 (omega arith),
        part_same J T header_span 8 471 same (omega arith) (omega arith),
        part_same J T header_span 8 516 same (omega arith) (omega arith),
      ) refl

-- ---- the trees, and the blocks behind them

-- where everything lies
pub record Laid (J : List ℕ) (h : Header) (found : Listed) : Type 0 where
  pub blocks : Found
  pub nodes : Found
  pub block_level : ℕ
  pub block_tree : Tree
  pub node_level : ℕ
  pub node_tree : Tree
  pub is_block_tree : IsTree Bbt J (end_of h) h.bbt block_level block_tree
  pub is_node_tree : IsTree Nbt J (end_of h) h.nbt node_level node_tree
  pub block_claims : IsClaimedOf (maps_claimed h) blocks block_tree
  pub node_claims : IsClaimedOf blocks.claimed nodes node_tree
  pub found_is : found ≡ record { claimed = nodes.claimed; entries = map (block_entry_at J) blocks.entries }
  pub apart : AreApart (map_pages h ++ ((page_spans block_tree ++ page_spans node_tree) ++ block_spans (placed (end_of h) found.claimed found.entries)))

abbrev the_step : Listed → Step Listed
the_step x = Ok x

same_ok : (x y : Listed) → the_step x ≡ the_step y → x ≡ y
same_ok x y e = cc

pub laid : (J : List ℕ) (h : Header) (found : Listed) → Head J h → trees_listed J h (maps_claimed h) ≡ Ok found → Laid J h found
unfolding trees_listed
laid J h found head e =
    let end = end_of h in
    let one = bind_ok (tree_walk Bbt J end (maps_claimed h) h.bbt) _ found e in
    let two = bind_ok (tree_walk Nbt J end one.0.claimed h.nbt) _ found one.2 in
    let is : found ≡ record { claimed = two.0.claimed; entries = map (block_entry_at J) one.0.entries } = same_ok _ _ (sym two.2) in
    let (level, tree, t, f) = (walk_claims Bbt J end (maps_claimed h) h.bbt one.0).0 one.1 in
    let (nlevel, ntree, nt, nf) = (walk_claims Nbt J end one.0.claimed h.nbt two.0).0 two.1 in
    let entries = placed end found.claimed found.entries in
    let last = placed_claims end found.claimed found.entries in
    let m : Claimed = replicate (unit_total h) false in
    let long : length m ≡ unit_total h = length-replicate (unit_total h) false in
    let units = units_append m (map_pages h) ((page_spans tree ++ page_spans ntree) ++ block_spans entries) (maps_units h m head.last_map long)
    (units_append m (page_spans tree ++ page_spans ntree) (block_spans entries)
    (units_append m (page_spans tree) (page_spans ntree) (tree_units Bbt J end level m tree long t.spells) (tree_units Nbt J end nlevel m ntree long nt.spells))
    (lie_units end m entries long (placed_lie end found.claimed found.entries))) in
    let pages = claim_join (maps_claimed h) one.0.claimed two.0.claimed (page_spans tree) (page_spans ntree) f.claims nf.claims in
    let rest : claim_all two.0.claimed (block_spans entries) ≡ Some last.0 = ap (λ (l : Listed). claim_all l.claimed (block_spans entries)) (sym is) ∙ last.1 in
    let all = claim_join (maps_claimed h) two.0.claimed last.0 (page_spans tree ++ page_spans ntree) (block_spans entries) pages rest in
    record {
      blocks = one.0;
      nodes = two.0;
      block_level = level;
      block_tree = tree;
      node_level = nlevel;
      node_tree = ntree;
      is_block_tree = t;
      is_node_tree = nt;
      block_claims = f;
      node_claims = nf;
      found_is = is;
      apart = claims_apart h ((page_spans tree ++ page_spans ntree) ++ block_spans entries) last.0 units all;
    }

-- the pages are the same where nothing but data blocks changed
pub pages_again : (J T : List ℕ) (h : Header) (found : Listed) (l : Laid J h found) → SameBesides J T (fields_of (placed_data (end_of h) found.claimed found.entries)) → AreSamePages J T (pages_of l.block_tree) × AreSamePages J T (pages_of l.node_tree)
pages_again J T h found l same =
    let entries = placed (end_of h) found.claimed found.entries in
    let spans = page_spans l.block_tree ++ page_spans l.node_tree in
    let beside = apart_back (map_pages h) (spans ++ block_spans entries) l.apart in
    let cross = filter_pages spans entries (apart_cross spans (block_spans entries) beside) in
    let chosen = filter has_data entries in (
      pages_kept J T (pages_of l.block_tree) chosen same (from_first_part (page_spans l.block_tree) (page_spans l.node_tree) (block_spans chosen) cross),
      pages_kept J T (pages_of l.node_tree) chosen same (from_other_part (page_spans l.block_tree) (page_spans l.node_tree) (block_spans chosen) cross),
    )

-- the same trees are walked then
pub trees_again : (J T : List ℕ) (h : Header) (found : Listed) → Laid J h found → SameBesides J T (fields_of (placed_data (end_of h) found.claimed found.entries)) → trees_listed T h (maps_claimed h) ≡ Ok found
unfolding trees_listed
trees_again J T h found l same =
    let end = end_of h in
    let (block_pages, node_pages) = pages_again J T h found l same in
    let first : tree_walk Bbt T end (maps_claimed h) h.bbt ≡ Ok l.blocks =
    (walk_claims Bbt T end (maps_claimed h) h.bbt l.blocks).1 (l.block_level, l.block_tree, tree_same Bbt J T end h.bbt l.block_level l.block_tree block_pages l.is_block_tree, l.block_claims) in
    let second : tree_walk Nbt T end l.blocks.claimed h.nbt ≡ Ok l.nodes =
    (walk_claims Nbt T end l.blocks.claimed h.nbt l.nodes).1 (l.node_level, l.node_tree, tree_same Nbt J T end h.nbt l.node_level l.node_tree node_pages l.is_node_tree, l.node_claims) in
    let list : map (block_entry_at T) l.blocks.entries ≡ map (block_entry_at J) l.blocks.entries =
    ap (map (block_entry_at T)) l.block_claims.entries
    ∙ list_same block_entry_at block_entry_same Bbt J T end l.block_level l.block_tree block_pages l.is_block_tree.spells
    ∙ ap (map (block_entry_at J)) (sym l.block_claims.entries) in
    rw (first, second, list) (ap (λ (x : Listed). Ok x) (sym l.found_is))

-- ---- the data blocks

listed_cases : (step : Step Listed) → ((end : ℕ) → data_after end step ≡ []) ⊎ ((found : Listed) × (step ≡ Ok found))
listed_cases (Ok found) = inr (found, refl)
listed_cases (Err stop) = inl (λ end. refl)

-- a file has no data blocks to decode, or a good header and two trees
pub record HasTrees (J : List ℕ) : Type 0 where
  pub none : header_fault J ≡ None
  pub found : Listed
  pub listed : trees_listed J (fields J) (maps_claimed (fields J)) ≡ Ok found

pub data_is : (J : List ℕ) (found : Listed) → header_fault J ≡ None → trees_listed J (fields J) (maps_claimed (fields J)) ≡ Ok found → data_blocks J ≡ placed_data (end_of (fields J)) found.claimed found.entries
unfolding data_blocks data_under
data_is J found none listed = rw (none, listed) refl

pub data_cases : (J : List ℕ) → (data_blocks J ≡ []) ⊎ HasTrees J
unfolding data_blocks data_under
data_cases J =
    elim (header_fault J) as (λ o. header_fault J ≡ o → (data_if J (answer o (fields J)) ≡ []) ⊎ HasTrees J) [
      | None ↦ λ h.
          elim (listed_cases (trees_listed J (fields J) (maps_claimed (fields J)))) [
            | inl nothing ↦ inl (nothing (end_of (fields J)))
            | inr some ↦ inr (record { none = h; found = some.0; listed = some.1 })
          ]
      | Some f ↦ λ h. inl refl
    ] refl

-- what has trees
module _ (J : List ℕ) (has : HasTrees J) where
  abbrev pub the_header : Header
  the_header = fields J

  abbrev pub the_data : List BlockEntry
  the_data = placed_data (end_of the_header) has.found.claimed has.found.entries

  pub the_blocks : data_blocks J ≡ the_data
  the_blocks = data_is J has.found has.none has.listed

  pub the_laid : Laid J the_header has.found
  the_laid = laid J the_header has.found ((header_law J the_header).1 (has.none, refl)) has.listed

  pub the_ends : All (EndsBy (length J)) the_data
  the_ends = subst (All (EndsBy (length J))) the_blocks (data_inside J)

  the_lie : All (LiesIn (end_of the_header)) the_data
  the_lie = All-filter has_data (LiesIn (end_of the_header)) (placed (end_of the_header) has.found.claimed has.found.entries) (placed_lie (end_of the_header) has.found.claimed has.found.entries)

  pub the_placed_apart : AreApart (block_spans (placed (end_of the_header) has.found.claimed has.found.entries))
  the_placed_apart =
      let spans = page_spans the_laid.block_tree ++ page_spans the_laid.node_tree in
      let entries = placed (end_of the_header) has.found.claimed has.found.entries in
      apart_back spans (block_spans entries) (apart_back (map_pages the_header) (spans ++ block_spans entries) the_laid.apart)

-- a file that differs from it in its data blocks alone
module _ (J T : List ℕ) (has : HasTrees J) (same : SameBesides J T (fields_of (the_data J has))) where
  the_head : bytes_at T header_span ≡ bytes_at J header_span
  the_head = same.others header_span (fields_apart header_span (the_data J has) (header_apart (end_of (fields J)) (the_data J has) (the_lie J has)))

  pub fields_again : fields T ≡ fields J
  fields_again = fields_same J T same.length_same the_head

  pub header_again : header_fault T ≡ None
  header_again = header_same J T same.length_same the_head ∙ has.none

  pub listed_again : trees_listed T (fields T) (maps_claimed (fields T)) ≡ Ok has.found
  listed_again = ap (λ (h : Header). trees_listed T h (maps_claimed h)) fields_again ∙ trees_again J T (fields J) has.found (the_laid J has) same

  pub data_again : data_blocks T ≡ the_data J has
  data_again = data_is T has.found header_again listed_again ∙ ap (λ (h : Header). placed_data (end_of h) has.found.claimed has.found.entries) fields_again

-- ---- a file whose data blocks are changed

-- all of them
abbrev pub file_changed : Coding → List ℕ → List ℕ
file_changed coding J = all_changed coding (data_blocks J) J

pub decoded_file_is : (method : Method) (J : List ℕ) → decoded_file method J ≡ file_changed (decoded method) J
decoded_file_is method J = decoded_is method (data_blocks J) J

module _ (J : List ℕ) (coding : Coding) (is : IsCoding coding) (all : All IsByte J) where
  pub file_kept : Kept J (file_changed coding J) (data_blocks J)
  file_kept = all_kept (data_blocks J) J coding is all (data_inside J)

  pub same_beside : (has : HasTrees J) → SameBesides J (file_changed coding J) (fields_of (the_data J has))
  same_beside has = subst (λ (l : List BlockEntry). SameBesides J (file_changed coding J) (fields_of l)) (the_blocks J has) file_kept.same

  pub nothing_changed : data_blocks J ≡ [] → file_changed coding J ≡ J
  unfolding all_changed
  nothing_changed none = ap (λ (l : List BlockEntry). all_changed coding l J) none

  -- the same blocks are found in it
  pub file_data : data_blocks (file_changed coding J) ≡ data_blocks J
  file_data =
      elim (data_cases J) [
        | inl none ↦ ap data_blocks (nothing_changed none)
        | inr has ↦ data_again J (file_changed coding J) has (same_beside has) ∙ sym (the_blocks J has)
      ]

  -- and it has a good header where that file has one
  pub file_header : header_fault J ≡ None → header_fault (file_changed coding J) ≡ None
  file_header good =
      elim (data_cases J) [
        | inl none ↦ ap header_fault (nothing_changed none) ∙ good
        | inr has ↦ header_again J (file_changed coding J) has (same_beside has)
      ]

  data_apart : AreApart (block_spans (data_blocks J))
  data_apart =
      elim (data_cases J) [
        | inl none ↦ rw none tt
        | inr has ↦ rw (the_blocks J has) (filter_apart (placed (end_of (fields J)) has.found.claimed has.found.entries) (the_placed_apart J has))
      ]

  -- changed back it is the file
  pub file_back : (back : Coding) → IsCoding back → IsUndoneBy coding back → file_changed back (file_changed coding J) ≡ J
  file_back back is_back undone =
      ap (λ (l : List BlockEntry). all_changed back l (file_changed coding J)) file_data
      ∙ all_back (data_blocks J) J coding back is is_back undone all (data_inside J) data_apart

-- ---- the twin, encoded again

pub again : AgainLaw
unfolding encoded_of twin_of
again I method all is =
    let long = method_long I method is in
    let J = with_method 0 I in
    let head = head_told I 0 all (omega arith) long in
    let back : all_encoded method (data_blocks (decoded_file method J)) (decoded_file method J) ≡ J =
    ap (λ (T : List ℕ). all_encoded method (data_blocks T) T) (decoded_file_is method J)
    ∙ encoded_is method (data_blocks (file_changed (decoded method) J)) (file_changed (decoded method) J)
    ∙ file_back J (decoded method) (decoding method) head.bytes (encoded method) (encoding method) (decoding_undone method) in
    rw is
    (ap (with_method (method_number method)) back
    ∙ method_again I (method_number method) 0 long all (number_byte method) (omega arith) (number_in I method is))
