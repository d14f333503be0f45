-- The folders that are reached, whether the root folder is among the nodes or not.
use Rattle.std.proofs.Common.{◌≡◌, ℕ, zero, suc, ◌+◌, Bool, true, false, cond, List, [], ◌∷◌, length, Option, Some, None, refl, sym, ap, subst, ◌∙◌, ◌⊎◌, inl, inr, arith}
use Rattle.std.specs.Prelude.{nat_eq, is_some, is_none, ◌&&◌, map, option_map}
use Rattle.std.specs.List.{Contains, cons_option, filter, filter_map}
use Rattle.std.specs.Option.{option_or}
use Rattle.pst_fault.proofs.GeneralLemmas.{number_of_test, test_of_number}
use Rattle.pst_fault.proofs.EachLemmas.{contains_here, contains_later}
use Rattle.pst_page.specs.declared.entry.NodeEntry.{NodeEntry}
use Rattle.pst_block.specs.Table.{Table}
use Rattle.pst_btree.specs.Entries.{first_with, node_key, node_with}
use Rattle.pst_btree.specs.Order.{Rises}
use Rattle.pst_ndb.specs.Counts.{capped}
use Rattle.pst_ndb.specs.Roots.{Roots, entry_roots, node_in, all_roots}
use Rattle.pst_store.specs.pst_msg.pst_mail.declared.nid.TheConstants.{ROOT}
use Rattle.pst_store.specs.pst_msg.Values.{is_folder}
use Rattle.pst_store.specs.Kind.{of_kind, node_of_kind}
use Rattle.pst_reach.specs.declared.reached.Reach.{Reach}
use Rattle.pst_reach.specs.Reach.{folder_ids, is_folder_among}
use Rattle.pst_reach.specs.Levels.{FolderStep, steps_from, at_root, is_new, found, level, reaches_of, folders_in}
use Rattle.pst_reach.specs.Path.{reach_nid}
use Rattle.pst_reach.proofs.FolderLemmas.{no_folder}
use Rattle.pst_reach.proofs.LevelLemmas.{no_more}
use Rattle.pst_reach.proofs.ListLemmas.{in_none, in_more}
use Rattle.pst_reach.proofs.StoreLemmas.{tops, folder_among, all_named, ids_rise}
use Rattle.pst_reach.proofs.WayLaws.{are_reached}

-- ---- a folder of the list is among the nodes

in_tops : (b : Bool) (e : NodeEntry) (rest : List Roots) (nid : ℕ) → Contains (tops (cond b (entry_roots e ∷ rest) rest)) nid → (e.nid ≡ nid) ⊎ Contains (tops rest) nid
in_tops true e rest nid w = in_more e.nid (tops rest) nid w
in_tops false e rest nid w = inr w

entry_there : (nodes : List NodeEntry) (nid : ℕ) → Contains (folder_ids nodes) nid → is_some (node_with nid nodes) ≡ true
unfolding first_with
entry_there [] nid w = absurd (in_none nid w)
entry_there (e ∷ rest) nid w = elim (in_tops (is_folder e.nid) e (of_kind is_folder (all_roots rest)) nid w) [
  | inl same ↦ rw (test_of_number e.nid nid same) refl
  | inr later ↦ behind (nat_eq e.nid nid) (entry_there rest nid later)
]
  where
    behind : (v : Bool) → is_some (node_with nid rest) ≡ true → is_some (cond v (Some e) (node_with nid rest)) ≡ true
    behind true is = refl
    behind false is = is

some_roots : (o : Option NodeEntry) → is_some o ≡ true → is_some (option_map entry_roots o) ≡ true
some_roots None is = is
some_roots (Some e) is = refl

root_among : (nodes : List NodeEntry) → Contains (folder_ids nodes) ROOT → is_folder_among nodes ROOT ≡ true
unfolding node_of_kind node_in
root_among nodes w = some_roots (node_with ROOT nodes) (entry_there nodes ROOT w)

-- ---- where the root folder is not among them, none is reached

no_new : (xs : List ℕ) (f : ℕ → Option Reach) → filter (is_new f []) xs ≡ []
unfolding first_with
no_new [] f = refl
no_new (x ∷ xs) f = by_case (is_none (f x)) (no_new xs f)
  where
    by_case : (b : Bool) → filter (is_new f []) xs ≡ [] → cond (b && false) (x ∷ filter (is_new f []) xs) (filter (is_new f []) xs) ≡ []
    by_case true e = e
    by_case false e = e

or_nothing : (o : Option Reach) → option_or o None ≡ o
or_nothing None = refl
or_nothing (Some x) = refl

none_listed : (h : ℕ → Option Reach) (xs : List ℕ) → ((nid : ℕ) → h nid ≡ at_root nid) → (Contains xs ROOT → ⊥) → filter_map h xs ≡ []
none_listed h [] root none = refl
none_listed h (x ∷ xs) root none = by_test (nat_eq ROOT x) refl (none_listed h xs root (λ w. none (contains_later x ROOT xs w)))
  where
    by_test : (v : Bool) → nat_eq ROOT x ≡ v → filter_map h xs ≡ [] → cons_option (h x) (filter_map h xs) ≡ []
    by_test true e rest = let same = number_of_test ROOT x e in absurd (none (subst (λ y. Contains (x ∷ xs) y) (sym same) (contains_here x xs)))
    by_test false e rest = rw (root x, e, rest) refl

module _ (t : Table) (nodes : List NodeEntry) (none : node_of_kind is_folder nodes ROOT ≡ None) where
  no_steps : steps_from t nodes (level t nodes 0) ≡ []
  unfolding level
  no_steps = rw (no_folder t nodes ROOT none) refl

  first_level : level t nodes 1 ≡ []
  unfolding level
  first_level = ap (λ (steps : List FolderStep). filter (is_new (found t nodes 0) steps) (folder_ids nodes)) no_steps ∙ no_new (folder_ids nodes) (found t nodes 0)

  first_found : (nid : ℕ) → found t nodes 1 nid ≡ at_root nid
  unfolding found first_with
  first_found nid = rw no_steps (or_nothing (at_root nid))

  root_alone : (n nid : ℕ) → found t nodes n nid ≡ at_root nid
  unfolding found
  root_alone zero nid = refl
  root_alone (suc n) nid =
      let one : 1 + n ≡ suc n = omega arith in
      ap (λ m. found t nodes m nid) (sym one) ∙ (no_more t nodes 1 n first_level).1 nid ∙ first_found nid

  none_reached : reaches_of t nodes ≡ []
  unfolding reaches_of
  none_reached = none_listed (found t nodes (length (folder_ids nodes))) (folder_ids nodes) (root_alone (length (folder_ids nodes))) (λ w. let is = root_among nodes w in let no : is_folder_among nodes ROOT ≡ false = rw none refl in let bad : true ≡ false = sym is ∙ no in cc)

pub nothing_reached : (t : Table) (nodes : List NodeEntry) (items : List Reach) → None ≡ node_of_kind is_folder nodes ROOT → items ≡ [] → items ≡ reaches_of t nodes
nothing_reached t nodes items none is = is ∙ sym (none_reached t nodes (sym none))

pub nothing_walked : (t : Table) (nodes : List NodeEntry) (walked before : ℕ) → None ≡ node_of_kind is_folder nodes ROOT → walked ≡ capped before → walked ≡ capped (before + folders_in (reaches_of t nodes))
nothing_walked t nodes walked before none is = let same : before + 0 ≡ before = omega arith in rw (none_reached t nodes (sym none), same) is

-- ---- their identifiers rise

pub reaches_rise : (t : Table) (nodes : List NodeEntry) (reached : List Reach) → Rises 0 None (map node_key nodes) → reached ≡ reaches_of t nodes → Rises 0 None (map reach_nid reached)
reaches_rise t nodes reached rises is = rw is (by_root (node_of_kind is_folder nodes ROOT) refl)
  where
    by_root : (o : Option Roots) → node_of_kind is_folder nodes ROOT ≡ o → Rises 0 None (map reach_nid (reaches_of t nodes))
    by_root None e = rw (none_reached t nodes e) tt
    by_root (Some r) e = (are_reached t nodes (all_named t nodes) (ids_rise nodes rises) (folder_among nodes ROOT (rw e refl))).rise
