-- In every store the folders that are found are all to which a way leads.
use Rattle.std.proofs.Common.{◌≡◌, ℕ, Bool, true, false, cond, List, [], ◌∷◌, Option, Some, None, is_some, is_none, nat_eq, refl, ap, inl, inr}
use Rattle.std.specs.Prelude.{map}
use Rattle.std.specs.List.{Contains, filter}
use Rattle.pst_fault.proofs.GeneralLemmas.{test_of_number}
use Rattle.pst_btree.specs.Entries.{first_with}
use Rattle.pst_btree.proofs.EntryLemmas.{with_contains}
use Rattle.pst_page.specs.declared.entry.NodeEntry.{NodeEntry}
use Rattle.pst_block.specs.Table.{Table}
use Rattle.pst_page.specs.declared.kind.PageKind.TheVariants.{Nbt}
use Rattle.pst_page.specs.Entry.{key_at, node_entry_at}
use Rattle.pst_btree.specs.Entries.{node_key}
use Rattle.pst_btree.specs.Order.{Rises}
use Rattle.pst_btree.specs.Tree.{entries_of}
use Rattle.pst_btree.proofs.RiseLemmas.{tree_rises}
use Rattle.pst_ndb.specs.Roots.{node_in}
use Rattle.pst_store.specs.pst_msg.pst_mail.declared.nid.TheConstants.{ROOT}
use Rattle.pst_store.specs.Grammar.{IsStore}
use Rattle.pst_store.specs.Parts.{StoreParts, parts_table, parts_entries}
use Rattle.pst_reach.specs.declared.reached.Reach.{Reach}
use Rattle.pst_reach.specs.Reach.{folder_ids, IsWay, AreAllReached, AreAllUnreached}
use Rattle.pst_reach.specs.Levels.{reaches_of}
use Rattle.pst_reach.specs.Path.{reach_nid, reach_in, is_lost_in, unreached_of}
use Rattle.pst_reach.specs.Laws.{ReachLaw, UnreachedLaw}
use Rattle.pst_reach.proofs.LevelLemmas.{is_folder_of}
use Rattle.pst_reach.proofs.ListLemmas.{in_none, in_more, in_filter, of_filter, filter_rises}
use Rattle.pst_reach.proofs.StoreLemmas.{in_ids, ids_rise, all_named}
use Rattle.pst_reach.proofs.WayLaws.{are_reached}

keys_at : (I : List ℕ) (places : List ℕ) → map node_key (map (node_entry_at I) places) ≡ map (key_at Nbt I) places
unfolding node_entry_at key_at
keys_at I [] = refl
keys_at I (at ∷ rest) = rw (keys_at I rest) refl

pub store_rises : (I : List ℕ) (s : StoreParts) → IsStore I s → Rises 0 None (folder_ids (parts_entries I s))
store_rises I s is = ids_rise (parts_entries I s) (rw (keys_at I (entries_of s.nodes)) (tree_rises Nbt I s.nodes 0 None is.node_tree.1.bounded))

pub root_there : (I : List ℕ) (s : StoreParts) → IsStore I s → is_folder_of (parts_entries I s) ROOT ≡ true
unfolding node_in
root_there I s is = in_ids (parts_entries I s) ROOT is.root.0 is.root.1 refl

pub reach_law : ReachLaw
reach_law I s is = are_reached (parts_table I s) (parts_entries I s) (all_named (parts_table I s) (parts_entries I s)) (store_rises I s is) (root_there I s is)

-- ---- and the others are all to which none leads

-- what is among them is found there
in_reached : (xs : List Reach) (x : Reach) → Contains xs x → is_some (reach_in xs x.nid) ≡ true
unfolding first_with
in_reached [] x w = absurd (in_none x w)
in_reached (y ∷ xs) x w = elim (in_more y xs x w) [
  | inl e ↦ rw (test_of_number y.nid x.nid (ap (λ (z : Reach). z.nid) e)) refl
  | inr later ↦ behind (nat_eq y.nid x.nid) (in_reached xs x later)
]
  where
    behind : (v : Bool) → is_some (reach_in xs x.nid) ≡ true → is_some (cond v (Some y) (reach_in xs x.nid)) ≡ true
    behind true e = refl
    behind false e = e

not_both : (o : Option Reach) → is_none o ≡ true → is_some o ≡ true → ⊥
not_both None none some = cc
not_both (Some x) none some = cc

are_unreached : (t : Table) (nodes : List NodeEntry) (xs : List Reach) → Rises 0 None (folder_ids nodes) → AreAllReached t nodes xs → AreAllUnreached t nodes (filter (is_lost_in xs) (folder_ids nodes))
are_unreached t nodes xs rises reached = record {
  rise = filter_rises (is_lost_in xs) 0 (folder_ids nodes) rises;
  sound = λ nid w. let v = of_filter (is_lost_in xs) (folder_ids nodes) nid w in (v.0, λ n way. no_way nid v.1 (reached.all nid n way));
  all = λ nid w none. in_filter (is_lost_in xs) (folder_ids nodes) nid w (lost nid none (reach_in xs nid) refl);
}
  where
    no_way : (nid : ℕ) → is_lost_in xs nid ≡ true → (x : Reach) × Contains xs x × (x.nid ≡ nid) → ⊥
    no_way nid none found = not_both (reach_in xs nid) none (rw found.2 at (in_reached xs found.0 found.1))

    lost : (nid : ℕ) → ((n : ℕ) → IsWay t nodes nid n → ⊥) → (o : Option Reach) → reach_in xs nid ≡ o → is_lost_in xs nid ≡ true
    lost nid none None e = rw e refl
    lost nid none (Some x) e =
        let there = with_contains reach_nid xs nid x e in
        let way : IsWay t nodes x.nid x.depth = (reached.sound x there.0).depth.way in
        absurd (none x.depth (rw there.1 at way))

pub unreached_law : UnreachedLaw
unfolding unreached_of
unreached_law I s is = are_unreached (parts_table I s) (parts_entries I s) (reaches_of (parts_table I s) (parts_entries I s)) (store_rises I s is) (reach_law I s is)

-- ---- in rising order, of the table and the nodes that a store shows

pub reached_rise : (I : List ℕ) (s : StoreParts) (t : Table) (nodes : List NodeEntry) (reached : List Reach) → IsStore I s → t ≡ parts_table I s → nodes ≡ parts_entries I s → reached ≡ reaches_of t nodes → Rises 0 None (map reach_nid reached)
reached_rise I s t nodes reached is table entries found = rw (found, table, entries) (reach_law I s is).rise
