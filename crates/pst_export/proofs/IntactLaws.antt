-- The nodes of a store are such as the law of names asks for, and those that are whole of what remains of a file.
use Rattle.std.proofs.Common.{◌≡◌, ◌<◌, ◌≤◌, ◌+◌, ◌^◌, ℕ, Bool, true, false, List, [], ◌∷◌, map, Option, Some, None, refl, arith}
use Rattle.std.specs.List.{All, filter}
use Rattle.std.proofs.Math.Nat.{mod-lt}
use Rattle.std.proofs.lemmas.List.Elements.{All-cons, All-head, All-map, All-nil, All-tail}
use Rattle.pst_bytes.specs.declared.span.Span.{Span}
use Rattle.pst_bytes.specs.Image.{bytes_at, num}
use Rattle.pst_encoding.specs.declared.method.Method.{Method}
use Rattle.pst_encoding.specs.Method.{decoded}
use Rattle.pst_encoding.specs.Tables.{IsByte}
use Rattle.pst_encoding.proofs.MethodLemmas.{method_law}
use Rattle.pst_fault.specs.declared.fault.Fault.{Fault}
use Rattle.pst_fault.specs.declared.kind.Kind.TheVariants.{PagePlace}
use Rattle.pst_fault.specs.Fault.{fault_in}
use Rattle.pst_header.specs.declared.header.Bref.{Bref}
use Rattle.pst_header.specs.Header.{end_of, fields}
use Rattle.pst_header.specs.Place.{is_place}
use Rattle.pst_header.proofs.Head.{mapped_end}
use Rattle.pst_header.proofs.PlaceLemmas.{is_place_good}
use Rattle.pst_page.specs.declared.entry.BlockEntry.{BlockEntry}
use Rattle.pst_page.specs.declared.entry.NodeEntry.{NodeEntry}
use Rattle.pst_page.specs.declared.kind.PageKind.TheVariants.{Nbt}
use Rattle.pst_page.specs.Entry.{key_of, node_entry_at}
use Rattle.pst_page.specs.Fault.{page_place_fault}
use Rattle.pst_page.specs.Page.{page_span}
use Rattle.pst_btree.specs.Entries.{node_key}
use Rattle.pst_btree.specs.Order.{Rises}
use Rattle.pst_block.specs.Block.{body_span, trailer_at}
use Rattle.pst_plain.specs.Blocks.{has_data}
use Rattle.pst_plain.specs.Carried.{carried, with_carried}
use Rattle.pst_plain.specs.Twin.{all_decoded, with_body, with_method}
use Rattle.pst_plain.specs.Written.{written}
use Rattle.pst_plain.proofs.HeadLemmas.{four_bytes_fit, span_bytes, written_bytes}
use Rattle.pst_remains.specs.Decoded.{decoded_remains_of}
use Rattle.pst_remains.specs.Header.{has_maps, mended}
use Rattle.pst_remains.specs.Pages.{leaf_entries as places_in}
use Rattle.pst_remains.specs.Remains.{all_blocks_left, block_tree_left, node_tree_left, remains_of}
use Rattle.pst_remains.proofs.DecodedLemmas.{plain_bytes}
use Rattle.pst_remains.proofs.HeaderLemmas.{mended_mapped}
use Rattle.pst_remains.proofs.LeafLemmas.{tree_keys_rise}
use Rattle.pst_remains.proofs.NodeLemmas.{nodes_rise}
use Rattle.pst_remains.proofs.WalkLemmas.{tree_no_place}
use Rattle.pst_damage.specs.Judged.{Judged, kept_node, sound_by}
use Rattle.pst_damage.specs.Nodes.{node_damage}
use Rattle.pst_whole.specs.Nodes.{whole_nodes}
use Rattle.pst_whole.proofs.WholeLaws.{decoded_store_law, store_whole_law}
use Rattle.pst_whole.proofs.WholeLemmas.{whole_intact, whole_rise}
use Rattle.pst_export.specs.Laws.{DecodedIntactLaw, DecodedWholeIntactLaw, StoreIntactLaw, WholeIntactLaw}

-- ---- identifiers of nodes are numbers of 32 bits

abbrev IsSmall : NodeEntry → Type 0
IsSmall e = e.nid < 2 ^ 32

entry_small : (I : List ℕ) (at : ℕ) → IsSmall (node_entry_at I at)
unfolding node_entry_at key_of
entry_small I at = mod-lt (num I at 8) (omega arith)

entries_small : (I places : List ℕ) → All IsSmall (map (node_entry_at I) places)
entries_small I places = All-map IsSmall (node_entry_at I) places (λ k d within. entry_small I _)

sound_small : (part : Judged) (nodes : List NodeEntry) → All IsSmall nodes → All IsSmall (sound_by part nodes)
unfolding sound_by
sound_small part [] small = All-nil IsSmall
sound_small part (e ∷ rest) small = kept (part e) (sound_small part rest (All-tail IsSmall e rest small))
  where
    kept : (o : Option Fault) → All IsSmall (sound_by part rest) → All IsSmall (kept_node o e (sound_by part rest))
    kept None later = All-cons IsSmall e (sound_by part rest) (All-head IsSmall e rest small) later
    kept (Some f) later = later

remains_small : (I : List ℕ) → All IsSmall (remains_of I).nodes
unfolding remains_of
remains_small I = entries_small I (places_in I (node_tree_left I).leaves)

-- ---- they rise

no_room : (b : Bool) (span : Span) → is_place 17408 span ≡ b → 512 ≤ span.len → b ≡ false
no_room false span e le = refl
no_room true span e le = let p = is_place_good 17408 span e in absurd (omega (arith, p.mapped, p.inside))

no_place : (page : Bref) → page_place_fault 17408 page ≡ Some (fault_in PagePlace page.ib page.bid)
unfolding page_place_fault
no_place page = rw (no_room (is_place 17408 (page_span page.ib)) (page_span page.ib) refl (omega arith)) refl

left_rise : (I : List ℕ) (v : Bool) → has_maps I ≡ v → Rises 0 None (map node_key (map (node_entry_at I) (places_in I (node_tree_left I).leaves)))
unfolding node_tree_left
left_rise I true maps =
    nodes_rise I (places_in I (node_tree_left I).leaves) _ refl (rw maps (tree_keys_rise Nbt I (end_of (mended I)) (block_tree_left I).claimed (fields I).nbt (mapped_end I (mended I) (mended_mapped I maps))))
left_rise I false maps = rw (maps, tree_no_place Nbt I 17408 (block_tree_left I).claimed (fields I).nbt _ (no_place (fields I).nbt)) tt

remains_rise : (I : List ℕ) → Rises 0 None (map node_key (remains_of I).nodes)
unfolding remains_of
remains_rise I = left_rise I (has_maps I) refl

-- ---- bytes stay bytes where blocks are decoded

decoded_block : (method : Method) (e : BlockEntry) (I : List ℕ) → All IsByte I → All IsByte (with_body (decoded method e.bid) e I)
unfolding with_body with_carried
decoded_block method e I bytes =
    let old = bytes_at I (body_span e) in
    let new = decoded method e.bid old in
    let changed : All IsByte new = (method_law method e.bid old (span_bytes I (body_span e) bytes)).decoded_bytes in
    written_bytes (written I e.ib new) (trailer_at e + 4) _ (written_bytes I e.ib new bytes changed) (four_bytes_fit (carried (num (written I e.ib new) (trailer_at e + 4) 4) old new))

decoded_blocks : (method : Method) (entries : List BlockEntry) (I : List ℕ) → All IsByte I → All IsByte (all_decoded method entries I)
unfolding all_decoded
decoded_blocks method [] I bytes = bytes
decoded_blocks method (e ∷ rest) I bytes = decoded_blocks method rest (with_body (decoded method e.bid) e I) (decoded_block method e I bytes)

-- ---- what is whole

pub whole_intact_law : WholeIntactLaw
unfolding remains_of whole_nodes
whole_intact_law I bytes =
    let r = remains_of I in
    let entries = whole_nodes r.table r.nodes r.broken in
    record {
      bytes = bytes;
      nids = sound_small (node_damage r.table r.nodes r.broken) r.nodes (remains_small I);
      rise = whole_rise r.table r.nodes entries r.broken (remains_rise I) refl;
      sound = whole_intact r.table r.nodes entries r.broken (remains_rise I) refl;
    }

pub decoded_whole_intact_law : DecodedWholeIntactLaw
unfolding decoded_remains_of remains_of whole_nodes
decoded_whole_intact_law I method bytes encoded =
    let J = with_method 0 I in
    let r = decoded_remains_of method I in
    let entries = whole_nodes r.table r.nodes r.broken in
    record {
      bytes = decoded_blocks method (filter has_data (all_blocks_left J).good) J (plain_bytes I method bytes encoded);
      nids = sound_small (node_damage r.table r.nodes r.broken) r.nodes (remains_small J);
      rise = whole_rise r.table r.nodes entries r.broken (remains_rise J) refl;
      sound = whole_intact r.table r.nodes entries r.broken (remains_rise J) refl;
    }

-- ---- a store, of which all is whole

pub store_intact_law : StoreIntactLaw
store_intact_law I s bytes is =
    let whole = store_whole_law I s is in
    rw (← whole.entries, ← whole.blocks) (whole_intact_law I bytes)

pub decoded_intact_law : DecodedIntactLaw
decoded_intact_law I method s bytes encoded is =
    let whole = decoded_store_law I method s bytes encoded is in
    rw (← whole.entries, ← whole.blocks) (decoded_whole_intact_law I method bytes encoded)
