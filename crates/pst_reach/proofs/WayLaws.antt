-- What is found level by level is what ways lead to: of each folder the least depth, and the least parent.
use Rattle.std.proofs.Common.{◌≡◌, ℕ, zero, suc, ◌+◌, ◌≤◌, Bool, true, false, cond, List, [], ◌∷◌, ◌++◌, length, Option, Some, None, refl, sym, ap, ◌∙◌, ◌⊎◌, inl, inr, arith}
use Rattle.std.specs.Prelude.{nat_eq, is_some, is_none, ◌-◌, ◌&&◌, option_map}
use Rattle.std.specs.List.{Contains, filter_map}
use Rattle.std.specs.Option.{option_or}
use Rattle.std.proofs.lemmas.Map.Lookups.{exact_unsigned}
use Rattle.std.proofs.lemmas.Map.Views.{tells_apart, Contains-from_any}
use Rattle.pst_fault.proofs.EachLemmas.{contains_here, contains_later}
use Rattle.pst_fault.proofs.GeneralLemmas.{number_of_test, test_of_number}
use Rattle.pst_page.specs.declared.entry.NodeEntry.{NodeEntry}
use Rattle.pst_block.specs.Table.{Table}
use Rattle.pst_btree.specs.Entries.{first_with}
use Rattle.pst_btree.specs.Order.{Rises}
use Rattle.pst_store.specs.pst_msg.pst_mail.declared.nid.TheConstants.{ROOT}
use Rattle.pst_reach.specs.declared.reached.Reach.{Reach}
use Rattle.pst_reach.specs.Reach.{folder_ids, subfolders_of, IsWay, IsDepth, MayBeParent, IsParent, IsReach, AreAllReached}
use Rattle.pst_reach.specs.Levels.{FolderStep, step_nid, folder_step, steps_named, steps_from, reached_by, by_rows, root_reach, is_new, found, level, reaches_of}
use Rattle.pst_reach.proofs.FolderLemmas.{named_first}
use Rattle.pst_reach.proofs.LevelLemmas.{is_folder_of, AllNamed, named_is_folder}
use Rattle.pst_reach.proofs.ListLemmas.{in_none, in_more, at_most_or_more, in_filter, of_filter, filter_rises, least_first, in_map, of_map, map_rises, how_many, not_more, one_passes, one_more}

module _ (t : Table) (nodes : List NodeEntry) (named : AllNamed t nodes) (rises : Rises 0 None (folder_ids nodes)) (root_there : is_folder_of nodes ROOT ≡ true) where
  abbrev at : ℕ → ℕ → Option Reach
  at n nid = found t nodes n nid

  abbrev steps_at : ℕ → List FolderStep
  steps_at n = steps_from t nodes (level t nodes n)

  -- ---- rows of the folders at a depth

  pub in_ids : (nid : ℕ) → is_folder_of nodes nid ≡ true → Contains (folder_ids nodes) nid
  in_ids nid e = Contains-from_any (tells_apart exact_unsigned) nid (folder_ids nodes) e

  later_first : (parent : ℕ) (ids : List ℕ) (rest : List FolderStep) (nid : ℕ) → is_some (first_with step_nid nid rest) ≡ true → is_some (first_with step_nid nid (steps_named parent ids ++ rest)) ≡ true
  unfolding first_with
  later_first parent [] rest nid e = e
  later_first parent (id ∷ ids) rest nid e = by_test (nat_eq id nid) (later_first parent ids rest nid e)
    where
      by_test : (v : Bool) → is_some (first_with step_nid nid (steps_named parent ids ++ rest)) ≡ true → is_some (cond v (Some (folder_step parent id)) (first_with step_nid nid (steps_named parent ids ++ rest))) ≡ true
      by_test true e = refl
      by_test false e = e

  some_step : (ps : List ℕ) (parent nid : ℕ) → Contains ps parent → Contains (subfolders_of t nodes parent) nid → is_some (first_with step_nid nid (steps_from t nodes ps)) ≡ true
  some_step [] parent nid w c = absurd (in_none parent w)
  some_step (p ∷ ps) parent nid w c = elim (in_more p ps parent w) [
    | inl e ↦ named_first p (subfolders_of t nodes p) (steps_from t nodes ps) nid (rw e c)
    | inr later ↦ later_first p (subfolders_of t nodes p) (steps_from t nodes ps) nid (some_step ps parent nid later c)
  ]

  -- the row by which a folder is found: of the first folder that names it
  record IsFirstStep (ps : List ℕ) (nid : ℕ) (s : FolderStep) : Type 0 where
    own : s.nid ≡ nid
    parent : Contains ps s.parent
    names : Contains (subfolders_of t nodes s.parent) nid

  here_or_later : (parent : ℕ) (ids : List ℕ) (rest : List FolderStep) (nid : ℕ) (s : FolderStep) → first_with step_nid nid (steps_named parent ids ++ rest) ≡ Some s → ((s.nid ≡ nid) × (s.parent ≡ parent) × Contains ids nid) ⊎ ((first_with step_nid nid rest ≡ Some s) × (Contains ids nid → ⊥))
  unfolding first_with
  here_or_later parent [] rest nid s is = inr (is, in_none nid)
  here_or_later parent (id ∷ ids) rest nid s is = by_test (nat_eq id nid) refl (λ found. here_or_later parent ids rest nid s found) is
    where
      Answer : Type 0
      Answer = ((s.nid ≡ nid) × (s.parent ≡ parent) × Contains (id ∷ ids) nid) ⊎ ((first_with step_nid nid rest ≡ Some s) × (Contains (id ∷ ids) nid → ⊥))

      some_is : (x : FolderStep) → (let o : Option FolderStep = Some x in o ≡ Some s) → x ≡ s
      some_is x e = cc

      not_here : nat_eq id nid ≡ false → (Contains ids nid → ⊥) → Contains (id ∷ ids) nid → ⊥
      not_here e none w = elim (in_more id ids nid w) [
        | inl same ↦ let both : true ≡ false = sym (test_of_number id nid same) ∙ e in cc
        | inr later ↦ none later
      ]

      by_test : (v : Bool) → nat_eq id nid ≡ v → (first_with step_nid nid (steps_named parent ids ++ rest) ≡ Some s → ((s.nid ≡ nid) × (s.parent ≡ parent) × Contains ids nid) ⊎ ((first_with step_nid nid rest ≡ Some s) × (Contains ids nid → ⊥))) → cond v (Some (folder_step parent id)) (first_with step_nid nid (steps_named parent ids ++ rest)) ≡ Some s → Answer
      by_test true e more found =
          let same : folder_step parent id ≡ s = some_is (folder_step parent id) found in
          let one : id ≡ nid = number_of_test id nid e in
          inl (sym (ap (λ (x : FolderStep). x.nid) same) ∙ one, sym (ap (λ (x : FolderStep). x.parent) same), rw one (contains_here nid ids))
      by_test false e more found = elim (more found) [
        | inl w ↦ inl (w.0, w.1, contains_later id nid ids w.2)
        | inr w ↦ inr (w.0, not_here e w.1)
      ]

  first_step : (ps : List ℕ) (nid : ℕ) (s : FolderStep) → first_with step_nid nid (steps_from t nodes ps) ≡ Some s → IsFirstStep ps nid s
  unfolding first_with
  first_step [] nid s is = cc
  first_step (p ∷ ps) nid s is = elim (here_or_later p (subfolders_of t nodes p) (steps_from t nodes ps) nid s is) [
    | inl w ↦ record {
      own = w.0;
      parent = rw w.1 (contains_here p ps);
      names = rw w.1 w.2;
    }
    | inr w ↦ let more = first_step ps nid s w.0 in record {
      own = more.own;
      parent = contains_later p s.parent ps more.parent;
      names = more.names;
    }
  ]

  -- no folder before it names it: where they rise, it is the least
  least_parent : (low : ℕ) (ps : List ℕ) (nid : ℕ) (s : FolderStep) (other : ℕ) → Rises low None ps → first_with step_nid nid (steps_from t nodes ps) ≡ Some s → Contains ps other → Contains (subfolders_of t nodes other) nid → s.parent ≤ other
  least_parent low [] nid s other up is w c = absurd (in_none other w)
  least_parent low (p ∷ ps) nid s other up is w c = elim (here_or_later p (subfolders_of t nodes p) (steps_from t nodes ps) nid s is) [
    | inl v ↦ let least = least_first p (p ∷ ps) other (omega arith, up.1, up.2) w in omega (arith, v.1, least)
    | inr v ↦ elim (in_more p ps other w) [
      | inl e ↦ absurd (v.1 (rw e c))
      | inr later ↦ least_parent (p + 1) ps nid s other up.2 v.0 later c
    ]
  ]

  -- ---- what is found, and at which depth

  stays : (n k nid : ℕ) (x : Reach) → at n nid ≡ Some x → at (n + k) nid ≡ Some x
  unfolding found
  stays n zero nid x is = let same : n + 0 ≡ n = omega arith in rw same is
  stays n (suc k) nid x is = let more : n + suc k ≡ suc (n + k) = omega arith in rw (more, stays n k nid x is) refl

  stays_to : (n m nid : ℕ) (x : Reach) → n ≤ m → at n nid ≡ Some x → at m nid ≡ Some x
  stays_to n m nid x le is = let same : n + (m - n) ≡ m = omega (arith, le) in rw same at (stays n (m - n) nid x is)

  -- how a folder is found at a depth
  abbrev IsFoundAt : ℕ → ℕ → Reach → Type 0
  IsFoundAt zero nid x = (nid ≡ ROOT) × (x ≡ root_reach)
  IsFoundAt (suc n) nid x = (at n nid ≡ None) × ((s : FolderStep) × (first_with step_nid nid (steps_at n) ≡ Some s) × (x ≡ reached_by (suc n) s))

  record FoundBy (n nid : ℕ) (x : Reach) : Type 0 where
    depth : ℕ
    within : depth ≤ n
    there : Contains (level t nodes depth) nid
    how : IsFoundAt depth nid x

  one_more_depth : (n nid : ℕ) (x : Reach) → FoundBy n nid x → FoundBy (suc n) nid x
  one_more_depth n nid x w = record {
    depth = w.depth;
    within = omega (arith, w.within);
    there = w.there;
    how = w.how;
  }

  new_one : (n nid : ℕ) → at n nid ≡ None → is_some (first_with step_nid nid (steps_at n)) ≡ true → Contains (level t nodes (suc n)) nid
  unfolding level
  new_one n nid none some =
      in_filter (is_new (at n) (steps_at n)) (folder_ids nodes) nid
      (in_ids nid (named_is_folder t nodes (level t nodes n) nid named some))
      (rw (none, some) refl)

  found_by : (n nid : ℕ) (x : Reach) → at n nid ≡ Some x → FoundBy n nid x
  unfolding found level
  found_by zero nid x is = by_test (nat_eq ROOT nid) refl is
    where
      some_is : (y : Reach) → (let o : Option Reach = Some y in o ≡ Some x) → y ≡ x
      some_is y e = cc

      by_test : (v : Bool) → nat_eq ROOT nid ≡ v → cond v (Some root_reach) None ≡ Some x → FoundBy zero nid x
      by_test false e found = cc
      by_test true e found = let one : ROOT ≡ nid = number_of_test ROOT nid e in record {
        depth = 0;
        within = omega arith;
        there = rw (← one) (contains_here ROOT []);
        how = (sym one, sym (some_is root_reach found));
      }
  found_by (suc n) nid x is = by_case (at n nid) refl (λ y e. one_more_depth n nid y (found_by n nid y e)) is
    where
      some_is : (y : Reach) → (let o : Option Reach = Some y in o ≡ Some x) → y ≡ x
      some_is y e = cc

      by_step : at n nid ≡ None → (o : Option FolderStep) → first_with step_nid nid (steps_at n) ≡ o → option_map (reached_by (suc n)) o ≡ Some x → FoundBy (suc n) nid x
      by_step none None e found = cc
      by_step none (Some s) e found = record {
        depth = suc n;
        within = omega arith;
        there = new_one n nid none (ap is_some e);
        how = (none, (s, e, sym (some_is (reached_by (suc n) s) found)));
      }

      by_case : (o : Option Reach) → at n nid ≡ o → ((y : Reach) → at n nid ≡ Some y → FoundBy (suc n) nid y) → option_or o (by_rows (suc n) (steps_at n) nid) ≡ Some x → FoundBy (suc n) nid x
      by_case (Some y) e more found = more x (e ∙ found)
      by_case None e more found = by_step e (first_with step_nid nid (steps_at n)) refl found

  -- a row of a folder that is found leads on
  leads_on : (n parent nid : ℕ) → Contains (level t nodes n) parent → Contains (subfolders_of t nodes parent) nid → is_some (at (suc n) nid) ≡ true
  unfolding found
  leads_on n parent nid w c = by_case (at n nid) (first_with step_nid nid (steps_at n)) (some_step (level t nodes n) parent nid w c)
    where
      by_case : (o : Option Reach) (s : Option FolderStep) → is_some s ≡ true → is_some (option_or o (option_map (reached_by (suc n)) s)) ≡ true
      by_case (Some x) s e = refl
      by_case None (Some s) e = refl
      by_case None None e = cc

  the_one : (o : Option Reach) → is_some o ≡ true → (x : Reach) × (o ≡ Some x)
  the_one (Some x) e = (x, refl)
  the_one None e = cc

  is_there : (n m nid : ℕ) → n ≤ m → is_some (at n nid) ≡ true → is_some (at m nid) ≡ true
  is_there n m nid le there = let x = the_one (at n nid) there in ap is_some (stays_to n m nid x.0 le x.1)

  at_first : is_some (at 0 ROOT) ≡ true
  unfolding found
  at_first = refl

  -- a way of so many rows is found within as many
  complete : (nid m n : ℕ) → IsWay t nodes nid m → m ≤ n → is_some (at n nid) ≡ true
  complete nid zero n way le = rw way (is_there 0 n ROOT (omega arith) at_first)
  complete nid (suc m) n way le =
      let x = the_one (at m way.0) (complete way.0 m m way.1 (omega arith)) in
      let by = found_by m way.0 x.0 x.1 in
      is_there (suc by.depth) n nid (omega (arith, by.within, le)) (leads_on by.depth way.0 nid by.there way.2)

  -- ---- the folders at a depth are those whose least way is as long

  some_none : (o : Option Reach) → is_some o ≡ true → o ≡ None → ⊥
  some_none None e f = cc
  some_none (Some x) e f = cc

  split_new : (o : Option Reach) (s : Option FolderStep) → (is_none o && is_some s) ≡ true → (o ≡ None) × ((x : FolderStep) × (s ≡ Some x))
  split_new None (Some x) e = (refl, (x, refl))
  split_new None None e = cc
  split_new (Some y) s e = cc

  at_depth : (n nid : ℕ) → Contains (level t nodes n) nid → IsDepth t nodes nid n
  unfolding level
  at_depth zero nid w = elim (in_more ROOT [] nid w) [
    | inl e ↦ record { way = sym e; least = λ m way. omega arith }
    | inr later ↦ absurd (in_none nid later)
  ]
  at_depth (suc n) nid w =
      let both = of_filter (is_new (at n) (steps_at n)) (folder_ids nodes) nid w in
      let parts = split_new (at n nid) (first_with step_nid nid (steps_at n)) both.1 in
      let step = first_step (level t nodes n) nid parts.1.0 parts.1.1 in
      let above = at_depth n parts.1.0.parent step.parent in
      record {
        way = (parts.1.0.parent, above.way, step.names);
        least = λ m way. elim (at_most_or_more m n) [
          | inl few ↦ absurd (some_none (at n nid) (complete nid m n way few) parts.0)
          | inr more ↦ omega (arith, more)
        ];
      }

  in_level : (n nid : ℕ) → IsDepth t nodes nid n → Contains (level t nodes n) nid
  in_level n nid is =
      let x = the_one (at n nid) (complete nid n n is.way (omega arith)) in
      let by = found_by n nid x.0 x.1 in
      let least = is.least by.depth (at_depth by.depth nid by.there).way in
      let same : by.depth ≡ n = omega (arith, least, by.within) in
      rw (← same) by.there

  level_rises : (n : ℕ) → Rises 0 None (level t nodes n)
  unfolding level
  level_rises zero = (omega arith, refl, tt)
  level_rises (suc n) = filter_rises (is_new (at n) (steps_at n)) 0 (folder_ids nodes) rises

  -- ---- what is found is a folder's reach

  pub is_own : (n nid : ℕ) (x : Reach) → at n nid ≡ Some x → x.nid ≡ nid
  is_own n nid x is = let by = found_by n nid x is in by_depth by.depth by.how
    where
      by_depth : (d : ℕ) → IsFoundAt d nid x → x.nid ≡ nid
      by_depth zero how = ap (λ (y : Reach). y.nid) how.1 ∙ sym how.0
      by_depth (suc d) how = ap (λ (y : Reach). y.nid) how.1.2 ∙ (first_step (level t nodes d) nid how.1.0 how.1.1).own

  reach_at : (d nid : ℕ) (x : Reach) → Contains (level t nodes d) nid → IsFoundAt d nid x → (x.nid ≡ nid) × (x.depth ≡ d) × IsParent t nodes nid d x.parent
  reach_at zero nid x there how = (ap (λ (y : Reach). y.nid) how.1 ∙ sym how.0, ap (λ (y : Reach). y.depth) how.1, ap (λ (y : Reach). y.parent) how.1)
  reach_at (suc d) nid x there how =
      let s = how.1.0 in
      let step = first_step (level t nodes d) nid s how.1.1 in
      let parent : x.parent ≡ s.parent = ap (λ (y : Reach). y.parent) how.1.2 in
      let least : (other : ℕ) → MayBeParent t nodes nid d other → s.parent ≤ other = λ other may. least_parent 0 (level t nodes d) nid s other (level_rises d) how.1.1 (in_level d other may.0) may.1 in
      (ap (λ (y : Reach). y.nid) how.1.2 ∙ step.own, ap (λ (y : Reach). y.depth) how.1.2, rw parent ((at_depth d s.parent step.parent, step.names), least))

  pub is_reach : (n nid : ℕ) (x : Reach) → at n nid ≡ Some x → IsReach t nodes x
  is_reach n nid x is =
      let by = found_by n nid x is in
      let r = reach_at by.depth nid x by.there by.how in
      record {
        depth = rw (r.0, r.1) (at_depth by.depth nid by.there);
        parent = rw (r.0, r.1) r.2;
      }

  -- ---- no way is as long as there are folders, unless it goes in a circle

  is_one : (n nid : ℕ) → Contains (level t nodes n) nid → Contains (folder_ids nodes) nid
  unfolding level
  is_one zero nid w = elim (in_more ROOT [] nid w) [
    | inl e ↦ rw (← e) (in_ids ROOT root_there)
    | inr later ↦ absurd (in_none nid later)
  ]
  is_one (suc n) nid w = (of_filter (is_new (at n) (steps_at n)) (folder_ids nodes) nid w).0

  abbrev pub is_found : ℕ → ℕ → Bool
  is_found n nid = is_some (at n nid)

  none_some : (o : Option Reach) → o ≡ None → is_some o ≡ false
  none_some o e = rw e refl

  -- as many are found within a depth at which a folder is, and one more
  pub as_many : (n nid : ℕ) → Contains (level t nodes n) nid → n + 1 ≤ how_many (is_found n) (folder_ids nodes)
  unfolding level
  as_many zero nid w = let one = one_passes (is_found 0) (folder_ids nodes) ROOT (in_ids ROOT root_there) at_first in omega (arith, one)
  as_many (suc n) nid w =
      let both = of_filter (is_new (at n) (steps_at n)) (folder_ids nodes) nid w in
      let parts = split_new (at n nid) (first_with step_nid nid (steps_at n)) both.1 in
      let step = first_step (level t nodes n) nid parts.1.0 parts.1.1 in
      let before = as_many n parts.1.0.parent step.parent in
      let more = one_more (is_found n) (is_found (suc n)) (folder_ids nodes) nid (λ y there. is_there n (suc n) y (omega arith) there) both.0 (none_some (at n nid) parts.0) (leads_on n parts.1.0.parent nid step.parent step.names) in
      omega (arith, before, more)

  abbrev all : ℕ
  all = length (folder_ids nodes)

  pub all_found : (nid n : ℕ) → IsWay t nodes nid n → is_some (at all nid) ≡ true
  all_found nid zero way = rw way (is_there 0 all ROOT (omega arith) at_first)
  all_found nid (suc n) way =
      let x = the_one (at all way.0) (all_found way.0 n way.1) in
      let by = found_by all way.0 x.0 x.1 in
      let many = as_many by.depth way.0 by.there in
      let few = not_more (is_found by.depth) (folder_ids nodes) in
      is_there (suc by.depth) all nid (omega (arith, many, few)) (leads_on by.depth way.0 nid by.there way.2)

  pub are_reached : AreAllReached t nodes (reaches_of t nodes)
  unfolding reaches_of
  are_reached = record {
    rise = map_rises (at all) (is_own all) 0 (folder_ids nodes) rises;
    sound = λ x w. let one = of_map (at all) (folder_ids nodes) x w in is_reach all one.0 x one.1;
    all = λ nid n way. every nid (the_one (at all nid) (all_found nid n way));
  }
    where
      every : (nid : ℕ) → (x : Reach) × (at all nid ≡ Some x) → (x : Reach) × Contains (filter_map (at all) (folder_ids nodes)) x × (x.nid ≡ nid)
      every nid one =
          let by = found_by all nid one.0 one.1 in
          (one.0, in_map (at all) (folder_ids nodes) nid one.0 (is_one by.depth nid by.there) one.1, is_own all nid one.0 one.1)
