-- The laws: what a check answers is the first of what is told, and where nothing is told all is left.
use Rattle.std.proofs.Common.{◌≡◌, ℕ, zero, suc, ◌+◌, ◌*◌, ◌%◌, ◌≤◌, ◌&&◌, true, List, [], ◌++◌, length, map, Option, Some, None, Ok, Err, refl, sym, ap, subst, ◌∙◌, arith}
use Rattle.std.proofs.lemmas.Bool.{leb-true, le-leb}
use Rattle.pst_bytes.specs.Image.{num}
use Rattle.pst_fault.specs.declared.fault.Fault.{Fault}
use Rattle.pst_fault.specs.First.{◌then◌}
use Rattle.pst_fault.proofs.FirstLemmas.{then_none, none_then, holds_or_none}
use Rattle.pst_header.specs.declared.header.Bref.{Bref}
use Rattle.pst_header.specs.Header.{check_fault, root_fault, end_of, fields, is_amap_place, is_last_amap}
use Rattle.pst_page.specs.declared.kind.PageKind.{PageKind}
use Rattle.pst_page.specs.declared.kind.PageKind.TheVariants.{Bbt, Nbt}
use Rattle.pst_page.specs.declared.entry.BlockEntry.{BlockEntry}
use Rattle.pst_page.specs.Entry.{block_entry_at, node_entry_at}
use Rattle.pst_page.specs.Page.{level_at}
use Rattle.pst_space.specs.Claimed.{Claimed, maps_claimed}
use Rattle.pst_space.specs.Step.{Step, ◌>>=◌}
use Rattle.pst_btree.specs.Tree.{tree_at, entries_of}
use Rattle.pst_btree.specs.Walk.{Found, nothing_found, tree_walk, walk_of}
use Rattle.pst_btree.proofs.TreeLaws.{has_walked}
use Rattle.pst_block.specs.Table.{table_with}
use Rattle.pst_block.specs.Walk.{blocks_walk}
use Rattle.pst_amap.specs.Report.{maps_fault}
use Rattle.pst_remains.specs.Blocks.{BlocksLeft, blocks_left, blocks_so_far}
use Rattle.pst_remains.specs.Header.{header_damage, has_maps, mended, file_end}
use Rattle.pst_ndb.specs.Entries.{block_list, node_list, tree_under}
use Rattle.pst_ndb.specs.Space.{fault_after, space_fault, space_walk}
use Rattle.pst_ndb.specs.Trees.{trees_walk}
use Rattle.pst_remains.specs.Laws.{FirstLaw, WholeLaw, first_in, first_told}
use Rattle.pst_remains.specs.Pages.{Left, leaf_entries, faults_of, left_so_far, tree_left}
use Rattle.pst_remains.specs.Remains.{all_blocks_left, block_tree_left, maps_damage, node_tree_left, remains_of}
use Rattle.pst_remains.proofs.HeaderLemmas.{is_last}
use Rattle.pst_remains.proofs.SameLemmas.{BlocksFollow, PagesFollow, blocks_follow, look_follows}

-- ---- a header without fault is as it stands

record IsSound (I : List ℕ) : Type 0 where
  inside : num I 184 8 ≤ length I
  last : (is_amap_place (num I 192 8) && is_last_amap (num I 192 8) (num I 184 8)) ≡ true

sound : (I : List ℕ) → header_damage I ≡ None → IsSound I
unfolding header_damage
sound I e =
    let root = none_then (check_fault I) (root_fault I) e in
    let eof = none_then _ _ root.1 in
    let last = none_then _ _ eof.1 in
    record { inside = leb-true _ _ (holds_or_none _ _ eof.0); last = holds_or_none _ _ last.0 }

end_is : (I : List ℕ) → header_damage I ≡ None → file_end I ≡ num I 184 8
unfolding file_end
end_is I e = let s = sound I e in rw e (omega (arith, s.inside))

same_header : (I : List ℕ) → header_damage I ≡ None → mended I ≡ fields I
unfolding mended fields
same_header I e = rw (end_is I e, (sound I e).last) refl

first_room : (k last eof : ℕ) → last ≡ 17408 + 253952 * k → last + 512 ≤ eof → (k % 8 ≡ 0 → last + 1024 ≤ eof) → 18432 ≤ eof
first_room zero last eof is small large = omega (arith, is, large refl)
first_room (suc k) last eof is small large = omega (arith, is, small)

enough : (last eof : ℕ) → (is_amap_place last && is_last_amap last eof) ≡ true → 18432 ≤ eof
enough last eof e = let m = is_last last eof e in first_room m.0 last eof m.1 m.2 m.3

same_maps : (I : List ℕ) → header_damage I ≡ None → has_maps I ≡ true
same_maps I e = rw (end_is I e) (le-leb _ _ (enough (num I 192 8) (num I 184 8) (sound I e).last))

-- ---- what is told beside what a check answers

-- of the parts behind the header, and what is left
record Agrees (I : List ℕ) (first second : Left) (blocks : BlocksLeft) (checked : Option Fault) : Type 0 where
  told : (first_in (faults_of first.broken ++ faults_of second.broken) then first_in blocks.faults then maps_fault I (fields I) blocks.claimed) ≡ checked
  left : checked ≡ None → (blocks.good ≡ block_list I (fields I)) × (map (node_entry_at I) (leaf_entries I second.leaves) ≡ node_list I (fields I))

blocks_agree : (I : List ℕ) (first second : Left) (blocks : BlocksLeft) (c : Claimed) (step : Step Claimed) → first.broken ≡ [] → second.broken ≡ [] → map (node_entry_at I) (leaf_entries I second.leaves) ≡ node_list I (fields I)
    → BlocksFollow (blocks_so_far c [] []) (block_list I (fields I)) step blocks → Agrees I first second blocks (fault_after (maps_fault I (fields I)) step)
blocks_agree I first second blocks c (Ok new) x y nodes f = record { told = rw (x, y, f.1, f.0) refl; left = λ _. (f.2, nodes) }
blocks_agree I first second blocks c (Err stop) x y nodes f = record { told = rw (x, y, f.1) refl; left = λ e. absurd cc }

-- the entries that a walk without fault finds are those of the tree that lies there
found_entries : (kind : PageKind) (I : List ℕ) (end level : ℕ) (c : Claimed) (new : Found) (root : Bref) (more : List ℕ) → walk_of kind I end level (nothing_found c) root 0 None ≡ Ok new → new.entries ≡ leaf_entries I more
    → leaf_entries I more ≡ entries_of (tree_at kind I level root)
found_entries kind I end level c new root more e is = sym is ∙ (has_walked kind I end level (nothing_found c) new root 0 None e).entries

all_nodes : (I leaves more : List ℕ) → leaves ≡ more → leaf_entries I more ≡ entries_of (tree_under Nbt I (fields I).nbt) → map (node_entry_at I) (leaf_entries I leaves) ≡ node_list I (fields I)
unfolding node_list
all_nodes I leaves more a b = rw (a, b) refl

all_blocks : (I leaves more : List ℕ) → leaves ≡ more → leaf_entries I more ≡ entries_of (tree_under Bbt I (fields I).bbt) → map (block_entry_at I) (leaf_entries I leaves) ≡ block_list I (fields I)
unfolding block_list
all_blocks I leaves more a b = rw (a, b) refl

nodes_agree : (I : List ℕ) (first second : Left) (c : Claimed) (step : Step Found) → first.broken ≡ [] → map (block_entry_at I) (leaf_entries I first.leaves) ≡ block_list I (fields I)
    → tree_walk Nbt I (end_of (fields I)) c (fields I).nbt ≡ step → PagesFollow I [] (left_so_far c [] []) step second
    → Agrees I first second (blocks_left (end_of (fields I)) I second.claimed (map (block_entry_at I) (leaf_entries I first.leaves)))
    (fault_after (maps_fault I (fields I)) (step >>= λ trees. blocks_walk (end_of (fields I)) I trees.claimed (block_list I (fields I))))
nodes_agree I first second c (Err stop) x entries e p = record { told = rw (x, p.3) (ap (λ (f : Fault). Some f) p.2); left = λ e. absurd cc }
nodes_agree I first second c (Ok new) x entries e p =
    let nodes : map (node_entry_at I) (leaf_entries I second.leaves) ≡ node_list I (fields I) = all_nodes I second.leaves p.0 p.3 (found_entries Nbt I (end_of (fields I)) (level_at I (fields I).nbt.ib) c new (fields I).nbt p.0 e p.4) in
    let follow = blocks_follow (end_of (fields I)) I (blocks_so_far second.claimed [] []) (map (block_entry_at I) (leaf_entries I first.leaves)) in
    blocks_agree I first second _ second.claimed (blocks_walk (end_of (fields I)) I new.claimed (block_list I (fields I))) x p.2 nodes
    (subst (λ (c : Claimed). BlocksFollow (blocks_so_far second.claimed [] []) (block_list I (fields I)) (blocks_walk (end_of (fields I)) I c (block_list I (fields I))) (blocks_left (end_of (fields I)) I second.claimed (map (block_entry_at I) (leaf_entries I first.leaves)))) p.1
    (subst (λ (es : List BlockEntry). BlocksFollow (blocks_so_far second.claimed [] []) es (blocks_walk (end_of (fields I)) I second.claimed es) (blocks_left (end_of (fields I)) I second.claimed (map (block_entry_at I) (leaf_entries I first.leaves)))) entries follow))

trees_agree : (I : List ℕ) (left : Left) (step : Step Found) → tree_walk Bbt I (end_of (fields I)) (maps_claimed (fields I)) (fields I).bbt ≡ step → PagesFollow I [] (left_so_far (maps_claimed (fields I)) [] []) step left
    → Agrees I left (tree_left Nbt I (end_of (fields I)) left.claimed (fields I).nbt)
    (blocks_left (end_of (fields I)) I (tree_left Nbt I (end_of (fields I)) left.claimed (fields I).nbt).claimed (map (block_entry_at I) (leaf_entries I left.leaves)))
    (fault_after (maps_fault I (fields I)) ((step >>= λ blocks. tree_walk Nbt I (end_of (fields I)) blocks.claimed (fields I).nbt) >>= λ trees. blocks_walk (end_of (fields I)) I trees.claimed (block_list I (fields I))))
trees_agree I left (Err stop) e p = record { told = rw p.3 (ap (λ (f : Fault). Some f) p.2); left = λ e. absurd cc }
trees_agree I left (Ok new) e p =
    rw (← p.1) (nodes_agree I left (tree_left Nbt I (end_of (fields I)) left.claimed (fields I).nbt) left.claimed (tree_walk Nbt I (end_of (fields I)) left.claimed (fields I).nbt) p.2
    (all_blocks I left.leaves p.0 p.3 (found_entries Bbt I (end_of (fields I)) (level_at I (fields I).bbt.ib) (maps_claimed (fields I)) new (fields I).bbt p.0 e p.4)) refl
    (look_follows Nbt I (end_of (fields I)) (level_at I (fields I).nbt.ib) (nothing_found left.claimed) (left_so_far left.claimed [] []) (fields I).nbt 0 0 None refl))

all_agree : (I : List ℕ) → header_damage I ≡ None → Agrees I (block_tree_left I) (node_tree_left I) (all_blocks_left I) (fault_after (maps_fault I (fields I)) (space_walk I (fields I) (maps_claimed (fields I))))
unfolding block_tree_left node_tree_left all_blocks_left space_walk trees_walk
all_agree I e =
    rw (same_maps I e, same_header I e)
    (trees_agree I (tree_left Bbt I (end_of (fields I)) (maps_claimed (fields I)) (fields I).bbt) (tree_walk Bbt I (end_of (fields I)) (maps_claimed (fields I)) (fields I).bbt) refl
    (look_follows Bbt I (end_of (fields I)) (level_at I (fields I).bbt.ib) (nothing_found (maps_claimed (fields I))) (left_so_far (maps_claimed (fields I)) [] []) (fields I).bbt 0 0 None refl))

maps_agree : (I : List ℕ) → header_damage I ≡ None → maps_damage I ≡ maps_fault I (fields I) (all_blocks_left I).claimed
unfolding maps_damage
maps_agree I e = rw (same_maps I e, same_header I e) refl

told_agrees : (I : List ℕ) → header_damage I ≡ None → first_told (remains_of I) ≡ fault_after (maps_fault I (fields I)) (space_walk I (fields I) (maps_claimed (fields I)))
unfolding remains_of
told_agrees I e = rw (e, maps_agree I e) (all_agree I e).told

first_law_by : (I : List ℕ) (d : Option Fault) → header_damage I ≡ d → first_told (remains_of I) ≡ (header_damage I then space_fault I (fields I))
unfolding remains_of space_fault
first_law_by I None e = told_agrees I e ∙ sym (then_none (header_damage I) (fault_after (maps_fault I (fields I)) (space_walk I (fields I) (maps_claimed (fields I)))) e)
first_law_by I (Some f) e = rw e refl

pub first_law : FirstLaw
first_law I = first_law_by I (header_damage I) refl

pub whole_law : WholeLaw
unfolding remains_of space_fault
whole_law I none =
    let both = none_then (header_damage I) (fault_after (maps_fault I (fields I)) (space_walk I (fields I) (maps_claimed (fields I)))) (sym (first_law I) ∙ none) in
    let left = (all_agree I both.0).left both.1 in
    (ap (table_with I) left.0, left.1)
