-- What hierarchy tables name are folders of the store; and the folders, one after another.
use Rattle.std.proofs.Common.{◌≡◌, ℕ, ◌+◌, ◌≤◌, Bool, true, false, cond, List, [], ◌∷◌, Option, Some, None, refl, sym, ap, ◌∙◌, arith}
use Rattle.std.specs.Prelude.{nat_eq, is_some, map, option_map}
use Rattle.std.specs.List.{Contains, list_any}
use Rattle.std.specs.Ordering.{nat_cmp}
use Rattle.std.specs.BTreeMap.{is_at}
use Rattle.std.specs.Cmp.{unsigned_tied}
use Rattle.pst_fault.proofs.EachLemmas.{contains_here, contains_later}
use Rattle.pst_fault.proofs.GeneralLemmas.{number_of_test, test_of_number, or_true}
use Rattle.pst_page.specs.declared.entry.NodeEntry.{NodeEntry}
use Rattle.pst_block.specs.Table.{Table}
use Rattle.pst_btree.specs.Entries.{first_with, node_key, node_with}
use Rattle.pst_btree.specs.Order.{Rises}
use Rattle.pst_ndb.specs.Roots.{Roots, entry_roots, node_in, all_roots}
use Rattle.pst_store.specs.pst_msg.pst_mail.declared.items.Items.TheVariants.{Subfolders}
use Rattle.pst_store.specs.pst_msg.Shown.{rows_there, folder_table}
use Rattle.pst_store.specs.pst_msg.Values.{is_folder}
use Rattle.pst_store.specs.Kind.{of_kind, node_of_kind}
use Rattle.pst_reach.specs.Reach.{folder_ids, ids_of, is_folder_among, folders_named, subfolders_of}
use Rattle.pst_reach.proofs.LevelLemmas.{is_folder_of, AllNamed}
use Rattle.pst_reach.proofs.ListLemmas.{of_filter}

-- ---- nodes by their identifiers

node_there : (nodes : List NodeEntry) (nid : ℕ) (r : Roots) → option_map entry_roots (node_with nid nodes) ≡ Some r → Contains (all_roots nodes) r × (r.top ≡ nid)
unfolding first_with
node_there [] nid r is = cc
node_there (e ∷ rest) nid r is = by_test (nat_eq e.nid nid) refl (λ found. node_there rest nid r found) is
  where
    some_is : (x : Roots) → (let o : Option Roots = Some x in o ≡ Some r) → x ≡ r
    some_is x e = cc

    by_test : (v : Bool) → nat_eq e.nid nid ≡ v → (option_map entry_roots (node_with nid rest) ≡ Some r → Contains (all_roots rest) r × (r.top ≡ nid)) → option_map entry_roots (cond v (Some e) (node_with nid rest)) ≡ Some r → Contains (all_roots (e ∷ rest)) r × (r.top ≡ nid)
    by_test true same more found =
        let here : entry_roots e ≡ r = some_is (entry_roots e) found in
        (rw (← here) (contains_here (entry_roots e) (all_roots rest)), sym (ap (λ (x : Roots). x.top) here) ∙ number_of_test e.nid nid same)
    by_test false other more found =
        let later = more found in
        (contains_later (entry_roots e) r (all_roots rest) later.0, later.1)

pub in_ids : (nodes : List NodeEntry) (nid : ℕ) (r : Roots) → option_map entry_roots (node_with nid nodes) ≡ Some r → is_folder nid ≡ true → is_folder_of nodes nid ≡ true
unfolding first_with
in_ids [] nid r is kind = cc
in_ids (e ∷ rest) nid r is kind = by_test (nat_eq e.nid nid) refl (λ found. in_ids rest nid r found kind) is
  where
    tops : List Roots → List ℕ
    tops xs = map (λ (x : Roots). x.top) xs

    more : (b : Bool) → list_any (is_at (nat_cmp nid)) (tops (of_kind is_folder (all_roots rest))) ≡ true → list_any (is_at (nat_cmp nid)) (tops (cond b (entry_roots e ∷ of_kind is_folder (all_roots rest)) (of_kind is_folder (all_roots rest)))) ≡ true
    more true later = rw later (or_true (is_at (nat_cmp nid) e.nid))
    more false later = later

    by_test : (v : Bool) → nat_eq e.nid nid ≡ v → (option_map entry_roots (node_with nid rest) ≡ Some r → is_folder_of rest nid ≡ true) → option_map entry_roots (cond v (Some e) (node_with nid rest)) ≡ Some r → is_folder_of (e ∷ rest) nid ≡ true
    by_test true same later found =
        let one : e.nid ≡ nid = number_of_test e.nid nid same in
        rw (one, kind, unsigned_tied nid nid, test_of_number nid nid refl) refl
    by_test false other later found = more (is_folder e.nid) (later found)

-- ---- what hierarchy tables name

pub folder_among : (nodes : List NodeEntry) (nid : ℕ) → is_folder_among nodes nid ≡ true → is_folder_of nodes nid ≡ true
unfolding node_of_kind node_in
folder_among nodes nid is = by_kind (is_folder nid) refl is
  where
    by_node : (o : Option Roots) → option_map entry_roots (node_with nid nodes) ≡ o → is_folder nid ≡ true → is_some o ≡ true → is_folder_of nodes nid ≡ true
    by_node None f e there = absurd cc
    by_node (Some r) f e there = in_ids nodes nid r f e

    by_kind : (v : Bool) → is_folder nid ≡ v → is_some (cond v (option_map entry_roots (node_with nid nodes)) None) ≡ true → is_folder_of nodes nid ≡ true
    by_kind false e there = absurd cc
    by_kind true e there = by_node (option_map entry_roots (node_with nid nodes)) refl e there

nothing_named : (nid : ℕ) → Contains [] nid → ⊥
nothing_named nid w = omega (arith, w.1)

pub all_named : (t : Table) (nodes : List NodeEntry) → AllNamed t nodes
unfolding subfolders_of
all_named t nodes parent nid named = by_node (node_of_kind is_folder nodes parent) named
  where
    named_in : Option Roots → List ℕ
    named_in None = []
    named_in (Some r) = folders_named nodes (rows_there t (folder_table nodes Subfolders r.top))

    by_node : (o : Option Roots) → Contains (named_in o) nid → is_folder_of nodes nid ≡ true
    by_node None w = absurd (nothing_named nid w)
    by_node (Some r) w = folder_among nodes nid (of_filter (is_folder_among nodes) (ids_of (rows_there t (folder_table nodes Subfolders r.top))) nid w).1

-- ---- the folders, one after another

abbrev pub tops : List Roots → List ℕ
tops nodes = map (λ (r : Roots). r.top) nodes

pub lower : (a b : ℕ) (xs : List ℕ) → a ≤ b → Rises b None xs → Rises a None xs
lower a b [] h r = tt
lower a b (x ∷ xs) h r = (omega (arith, h, r.0), r.1, r.2)

folders_rise : (low : ℕ) (nodes : List NodeEntry) → Rises low None (map node_key nodes) → Rises low None (tops (of_kind is_folder (all_roots nodes)))
folders_rise low [] rises = tt
folders_rise low (e ∷ rest) rises = by_kind (is_folder e.nid) (folders_rise (e.nid + 1) rest rises.2)
  where
    by_kind : (v : Bool) → Rises (e.nid + 1) None (tops (of_kind is_folder (all_roots rest))) → Rises low None (tops (cond v (entry_roots e ∷ of_kind is_folder (all_roots rest)) (of_kind is_folder (all_roots rest))))
    by_kind true later = (rises.0, refl, later)
    by_kind false later = lower low (e.nid + 1) (tops (of_kind is_folder (all_roots rest))) (omega (arith, rises.0)) later

pub ids_rise : (nodes : List NodeEntry) → Rises 0 None (map node_key nodes) → Rises 0 None (folder_ids nodes)
ids_rise nodes rises = folders_rise 0 nodes rises
