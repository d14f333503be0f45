-- The folders at a depth, from those at the depth before.
use Rattle.std.proofs.Common.{◌≡◌, ℕ, zero, suc, ◌+◌, ◌<◌, Bool, true, false, cond, List, [], ◌∷◌, ◌++◌, Option, Some, None, refl, sym, ap, ◌∙◌, ◌⊎◌, inl, inr, arith, BTreeMap, BTreeSet}
use Rattle.std.specs.Prelude.{nat_eq, is_some, is_none, ◌||◌, ◌&&◌}
use Rattle.std.specs.List.{Contains, AllByRecursion, filter, list_any}
use Rattle.std.specs.List.Sorted.{IsStrictlySortedBy}
use Rattle.std.specs.Option.{option_or}
use Rattle.std.specs.Ordering.{nat_cmp}
use Rattle.std.specs.declared.cmp.Ordering.TheVariants.{Less}
use Rattle.std.specs.BTreeMap.{is_at}
use Rattle.std.specs.Cmp.{nat_cmp_total, nat_cmp_is}
use Rattle.std.proofs.lemmas.List.Kept.{IsStrictlySortedBy-filter}
use Rattle.std.proofs.lemmas.Map.Lookups.{exact_unsigned, btree_set_from_contains}
use Rattle.std.proofs.lemmas.Map.Views.{tells_apart, any-filter_same}
use Rattle.pst_fault.proofs.EachLemmas.{contains_here, contains_later}
use Rattle.pst_fault.proofs.GeneralLemmas.{number_of_test}
use Rattle.pst_page.specs.declared.entry.NodeEntry.{NodeEntry}
use Rattle.pst_block.specs.Table.{Table}
use Rattle.pst_btree.specs.Entries.{first_with}
use Rattle.pst_btree.specs.Order.{Rises}
use Rattle.pst_reach.specs.declared.reached.Reach.{Reach}
use Rattle.pst_reach.specs.Reach.{folder_ids, subfolders_of}
use Rattle.pst_reach.specs.Levels.{FolderStep, step_nid, folder_step, steps_named, steps_from, is_new, found, level}
use Rattle.pst_reach.specs.Search.{reach_so_far, is_in, found_with, new_with, Takes, IsReachedWithin, IsLevel}

-- ---- numbers that rise are in order

below : (a y : ℕ) → a < y → nat_cmp a y ≡ Less
below a y lt = sym (nat_cmp_is a y Less lt)

all_above : (a low : ℕ) (high : Option ℕ) (xs : List ℕ) → a < low → Rises low high xs → AllByRecursion (λ y. nat_cmp a y ≡ Less) xs
all_above a low high [] lt rises = tt
all_above a low high (x ∷ xs) lt rises = (below a x (omega (arith, lt, rises.0)), all_above a (x + 1) high xs (omega (arith, lt, rises.0)) rises.2)

pub sorted_of : (low : ℕ) (high : Option ℕ) (xs : List ℕ) → Rises low high xs → IsStrictlySortedBy nat_cmp xs
unfolding IsStrictlySortedBy
sorted_of low high [] rises = tt
sorted_of low high (x ∷ xs) rises = (all_above x (x + 1) high xs (omega arith) rises.2, sorted_of (x + 1) high xs rises.2)

-- ---- what rows name is a folder of the store

abbrev pub is_folder_of : List NodeEntry → ℕ → Bool
is_folder_of nodes nid = list_any (is_at (nat_cmp nid)) (folder_ids nodes)

abbrev pub AllNamed : Table → List NodeEntry → Type 0
AllNamed t nodes = (parent nid : ℕ) → Contains (subfolders_of t nodes parent) nid → is_folder_of nodes nid ≡ true

named_in : (parent : ℕ) (ids : List ℕ) (rest : List FolderStep) (nid : ℕ) → is_some (first_with step_nid nid (steps_named parent ids ++ rest)) ≡ true → Contains ids nid ⊎ (is_some (first_with step_nid nid rest) ≡ true)
unfolding first_with
named_in parent [] rest nid there = inr there
named_in parent (id ∷ ids) rest nid there = by_test (nat_eq id nid) refl (λ is. named_in parent ids rest nid is) there
  where
    later : Contains ids nid ⊎ (is_some (first_with step_nid nid rest) ≡ true) → Contains (id ∷ ids) nid ⊎ (is_some (first_with step_nid nid rest) ≡ true)
    later w = elim w [
      | inl c ↦ inl (contains_later id nid ids c)
      | inr r ↦ inr r
    ]

    by_test : (v : Bool) → nat_eq id nid ≡ v → (is_some (first_with step_nid nid (steps_named parent ids ++ rest)) ≡ true → Contains ids nid ⊎ (is_some (first_with step_nid nid rest) ≡ true)) → is_some (cond v (Some (folder_step parent id)) (first_with step_nid nid (steps_named parent ids ++ rest))) ≡ true → Contains (id ∷ ids) nid ⊎ (is_some (first_with step_nid nid rest) ≡ true)
    by_test true e more is = inl (rw (← number_of_test id nid e) (contains_here id ids))
    by_test false e more is = later (more is)

pub named_is_folder : (t : Table) (nodes : List NodeEntry) (ps : List ℕ) (nid : ℕ) → AllNamed t nodes → is_some (first_with step_nid nid (steps_from t nodes ps)) ≡ true → is_folder_of nodes nid ≡ true
unfolding first_with
named_is_folder t nodes [] nid named there = cc
named_is_folder t nodes (p ∷ ps) nid named there = elim (named_in p (subfolders_of t nodes p) (steps_from t nodes ps) nid there) [
  | inl c ↦ named p nid c
  | inr r ↦ named_is_folder t nodes ps nid named r
]

-- ---- a depth is gone through

none_added : (depth : ℕ) (m : BTreeMap ℕ Reach) (nid : ℕ) → reach_so_far m nid ≡ found_with depth m [] nid
unfolding first_with
none_added depth m nid = by_case (reach_so_far m nid)
  where
    by_case : (o : Option Reach) → o ≡ option_or o None
    by_case None = refl
    by_case (Some x) = refl

append_nil : {X : Type 0} (xs : List X) → xs ++ [] ≡ xs
append_nil [] = refl
append_nil (x ∷ xs) = ap (λ l. x ∷ l) (append_nil xs)

pub within_next : (t : Table) (nodes : List NodeEntry) (n depth : ℕ) (old new : BTreeMap ℕ Reach) (before after : BTreeSet ℕ) (ps : List ℕ) → depth ≡ suc n → IsReachedWithin t nodes n old → ps ≡ level t nodes n → Takes depth (steps_from t nodes ps) old before new after → IsReachedWithin t nodes (suc n) new
unfolding found
within_next t nodes n depth old new before after ps deep within is takes nid =
    none_added depth new nid ∙ takes.found [] nid
    ∙ ap (λ l. found_with depth old l nid) (append_nil (steps_from t nodes ps))
    ∙ rw (deep, is, within nid) refl

none_new : (b c : Bool) → b ≡ (b || (c && false))
none_new true c = refl
none_new false true = refl
none_new false false = refl

no_news : (m : BTreeMap ℕ Reach) (next : BTreeSet ℕ) (nid : ℕ) → is_in next nid ≡ new_with m next [] nid
unfolding first_with
no_news m next nid = none_new (is_in next nid) (is_none (reach_so_far m nid))

-- in the set of the next depth are those that are new
new_in : (t : Table) (nodes : List NodeEntry) (n depth : ℕ) (old new : BTreeMap ℕ Reach) (empty next : BTreeSet ℕ) (ps : List ℕ) → IsReachedWithin t nodes n old → empty.keys ≡ [] → Takes depth (steps_from t nodes ps) old empty new next → (nid : ℕ) → is_in next nid ≡ is_new (found t nodes n) (steps_from t nodes ps) nid
new_in t nodes n depth old new empty next ps within none takes nid =
    no_news new next nid ∙ takes.news [] nid
    ∙ ap (λ l. new_with old empty l nid) (append_nil (steps_from t nodes ps))
    ∙ rw (none, within nid) refl

is_named : (a b : Bool) → (a && b) ≡ true → b ≡ true
is_named true b e = e
is_named false b e = cc

both : (a b : Bool) → (a ≡ true → b ≡ true) → (a && b) ≡ a
both true b h = h refl
both false b h = refl

abbrev set_of : List ℕ → BTreeSet ℕ
set_of ks = record { keys = ks }

pub level_next : (t : Table) (nodes : List NodeEntry) (n depth : ℕ) (old new : BTreeMap ℕ Reach) (empty next : BTreeSet ℕ) (ps : List ℕ) → AllNamed t nodes → Rises 0 None (folder_ids nodes) → IsReachedWithin t nodes n old → ps ≡ level t nodes n → empty.keys ≡ [] → IsStrictlySortedBy nat_cmp next.keys → Takes depth (steps_from t nodes ps) old empty new next → IsLevel t nodes (suc n) next
unfolding level
level_next t nodes n depth old new empty next ps named rises within is none ordered takes =
    let p : ℕ → Bool = is_new (found t nodes n) (steps_from t nodes ps) in
    btree_set_from_contains nat_cmp_total next (set_of (filter p (folder_ids nodes))) ordered (IsStrictlySortedBy-filter nat_cmp p (folder_ids nodes) (sorted_of 0 None (folder_ids nodes) rises)) same exact_unsigned
    ∙ rw is refl
  where
    test : ℕ → Bool
    test = is_new (found t nodes n) (steps_from t nodes ps)

    is_one : (nid : ℕ) → test nid ≡ true → is_folder_of nodes nid ≡ true
    is_one nid e = named_is_folder t nodes ps nid named (is_named (is_none (found t nodes n nid)) (is_some (first_with step_nid nid (steps_from t nodes ps))) e)

    alike : (nid k : ℕ) → is_at (nat_cmp nid) k ≡ true → test k ≡ test nid
    alike nid k e = ap test (sym (tells_apart exact_unsigned nid k e))

    same : (nid : ℕ) → is_in next nid ≡ list_any (is_at (nat_cmp nid)) (filter test (folder_ids nodes))
    same nid =
        new_in t nodes n depth old new empty next ps within none takes nid
        ∙ sym (both (test nid) (is_folder_of nodes nid) (is_one nid))
        ∙ sym (any-filter_same (is_at (nat_cmp nid)) test (test nid) (alike nid) (folder_ids nodes))

-- ---- behind the last level nothing is found

pub no_more : (t : Table) (nodes : List NodeEntry) (n k : ℕ) → level t nodes n ≡ [] → (level t nodes (n + k) ≡ []) × ((nid : ℕ) → found t nodes (n + k) nid ≡ found t nodes n nid)
unfolding found level first_with
no_more t nodes n zero none = let same : n + 0 ≡ n = omega arith in (rw same none, λ nid. rw same refl)
no_more t nodes n (suc k) none =
    let before = no_more t nodes n k none in
    let more : n + suc k ≡ suc (n + k) = omega arith in
    rw more (rw before.0 (no_new (folder_ids nodes) (found t nodes (n + k))), λ nid. rw before.0 (sym (or_nothing (found t nodes (n + k) nid))) ∙ before.1 nid)
  where
    or_nothing : (o : Option Reach) → o ≡ option_or o None
    or_nothing None = refl
    or_nothing (Some x) = refl

    no_new : (xs : List ℕ) (f : ℕ → Option Reach) → filter (is_new f []) xs ≡ []
    no_new [] f = refl
    no_new (x ∷ xs) f = by_case (is_none (f x)) (no_new xs f)
      where
        by_case : (b : Bool) → filter (is_new f []) xs ≡ [] → cond (b && false) (x ∷ filter (is_new f []) xs) (filter (is_new f []) xs) ≡ []
        by_case true e = e
        by_case false e = e
