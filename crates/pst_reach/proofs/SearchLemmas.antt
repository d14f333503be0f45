-- Rows of hierarchy tables, taken one after another.
use Rattle.std.proofs.Common.{◌≡◌, ℕ, Bool, true, false, cond, List, [], ◌∷◌, ◌++◌, Option, Some, None, refl, sym, ap, ◌∙◌, BTreeMap, BTreeSet}
use Rattle.std.specs.Prelude.{nat_eq, is_some, is_none, ◌||◌, ◌&&◌, option_map}
use Rattle.std.specs.Option.{option_or}
use Rattle.std.specs.Ordering.{nat_cmp}
use Rattle.std.specs.BTreeMap.{is_at}
use Rattle.std.specs.Cmp.{unsigned_tied}
use Rattle.pst_fault.proofs.GeneralLemmas.{number_of_test}
use Rattle.std.specs.List.{filter}
use Rattle.pst_page.specs.declared.entry.NodeEntry.{NodeEntry}
use Rattle.pst_btree.specs.Entries.{first_with}
use Rattle.pst_tc.specs.Values.{RowParts}
use Rattle.pst_reach.specs.declared.reached.Reach.{Reach}
use Rattle.pst_reach.specs.Levels.{FolderStep, step_nid, folder_step, steps_named, reached_by, by_rows}
use Rattle.pst_reach.specs.Reach.{folders_named, is_folder_among}
use Rattle.pst_reach.specs.Search.{reach_so_far, is_in, found_with, new_with, Takes, TookAllBut}

-- a row that names a folder which is found adds nothing
met_found : (depth : ℕ) (s : FolderStep) (o : Option Reach) (rest : List FolderStep) (nid : ℕ) → (nat_eq s.nid nid ≡ true → is_some o ≡ true) → option_or o (by_rows depth rest nid) ≡ option_or o (by_rows depth (s ∷ rest) nid)
unfolding first_with
met_found depth s (Some x) rest nid met = refl
met_found depth s None rest nid met = by_test (nat_eq s.nid nid) refl
  where
    by_test : (v : Bool) → nat_eq s.nid nid ≡ v → by_rows depth rest nid ≡ option_map (reached_by depth) (cond v (Some s) (first_with step_nid nid rest))
    by_test false e = refl
    by_test true e = let bad : false ≡ true = met e in cc

met_new : (s : FolderStep) (o : Option Reach) (b : Bool) (rest : List FolderStep) (nid : ℕ) → (nat_eq s.nid nid ≡ true → is_some o ≡ true) → (b || (is_none o && is_some (first_with step_nid nid rest))) ≡ (b || (is_none o && is_some (first_with step_nid nid (s ∷ rest))))
unfolding first_with
met_new s (Some x) b rest nid met = refl
met_new s None b rest nid met = by_test (nat_eq s.nid nid) refl
  where
    by_test : (v : Bool) → nat_eq s.nid nid ≡ v → (b || is_some (first_with step_nid nid rest)) ≡ (b || is_some (cond v (Some s) (first_with step_nid nid rest)))
    by_test false e = refl
    by_test true e = let bad : false ≡ true = met e in cc

met_at : (m : BTreeMap ℕ Reach) (s : FolderStep) (nid : ℕ) → is_some (reach_so_far m s.nid) ≡ true → nat_eq s.nid nid ≡ true → is_some (reach_so_far m nid) ≡ true
met_at m s nid met e = rw (← number_of_test s.nid nid e) met

pub step_met : (depth : ℕ) (s : FolderStep) (m : BTreeMap ℕ Reach) (next : BTreeSet ℕ) → is_some (reach_so_far m s.nid) ≡ true → Takes depth (s ∷ []) m next m next
step_met depth s m next met = record {
  found = λ rest nid. met_found depth s (reach_so_far m nid) rest nid (met_at m s nid met);
  news = λ rest nid. met_new s (reach_so_far m nid) (is_in next nid) rest nid (met_at m s nid met);
}

pub row_met : (m : BTreeMap ℕ Reach) (next : BTreeSet ℕ) (row : Reach) → is_some (reach_so_far m row.nid) ≡ true → Takes row.depth (steps_named row.parent (row.nid ∷ [])) m next m next
row_met m next row met = step_met row.depth (folder_step row.parent row.nid) m next met

-- a row that names a folder which is not found adds that
put_found : (depth : ℕ) (s : FolderStep) (v : Bool) (o p : Option Reach) (rest : List FolderStep) (nid : ℕ) → nat_eq s.nid nid ≡ v → (v ≡ true → is_some o ≡ false) → p ≡ cond v (Some (reached_by depth s)) o → option_or p (by_rows depth rest nid) ≡ option_or o (by_rows depth (s ∷ rest) nid)
unfolding first_with
put_found depth s false o p rest nid e none is = rw (is, e) refl
put_found depth s true (Some x) p rest nid e none is = let bad : true ≡ false = none refl in cc
put_found depth s true None p rest nid e none is = rw (is, e) refl

put_new : (s : FolderStep) (v : Bool) (o p : Option Reach) (b c : Bool) (rest : List FolderStep) (nid : ℕ) (x : Reach) → nat_eq s.nid nid ≡ v → (v ≡ true → is_some o ≡ false) → p ≡ cond v (Some x) o → c ≡ cond v true b → (c || (is_none p && is_some (first_with step_nid nid rest))) ≡ (b || (is_none o && is_some (first_with step_nid nid (s ∷ rest))))
unfolding first_with
put_new s false o p b c rest nid x e none is in_set = rw (is, in_set, e) refl
put_new s true (Some y) p b c rest nid x e none is in_set = let bad : true ≡ false = none refl in cc
put_new s true None p true c rest nid x e none is in_set = rw in_set refl
put_new s true None p false c rest nid x e none is in_set = rw (in_set, e) refl

none_at : (m : BTreeMap ℕ Reach) (s : FolderStep) (nid : ℕ) → is_some (reach_so_far m s.nid) ≡ false → nat_eq s.nid nid ≡ true → is_some (reach_so_far m nid) ≡ false
none_at m s nid none e = rw (← number_of_test s.nid nid e) none

pub row_put : (m new : BTreeMap ℕ Reach) (next after : BTreeSet ℕ) (row : Reach) → is_some (reach_so_far m row.nid) ≡ false → ((q : ℕ) → reach_so_far new q ≡ cond (is_at (nat_cmp row.nid) q) (Some row) (reach_so_far m q)) → ((q : ℕ) → is_in after q ≡ cond (is_at (nat_cmp row.nid) q) true (is_in next q)) → Takes row.depth (steps_named row.parent (row.nid ∷ [])) m next new after
row_put m new next after row none puts adds =
    let s = folder_step row.parent row.nid in record {
      found = λ rest nid. put_found row.depth s (nat_eq s.nid nid) (reach_so_far m nid) (reach_so_far new nid) rest nid refl (none_at m s nid none)
          (puts nid ∙ ap (λ b. cond b (Some row) (reach_so_far m nid)) (unsigned_tied row.nid nid));
      news = λ rest nid. put_new s (nat_eq s.nid nid) (reach_so_far m nid) (reach_so_far new nid) (is_in next nid) (is_in after nid) rest nid row refl (none_at m s nid none)
          (puts nid ∙ ap (λ b. cond b (Some row) (reach_so_far m nid)) (unsigned_tied row.nid nid))
          (adds nid ∙ ap (λ b. cond b true (is_in next nid)) (unsigned_tied row.nid nid));
    }

-- ---- what is found stays so

pub kept_by_put : (m new : BTreeMap ℕ Reach) (row : Reach) (nid : ℕ) → ((q : ℕ) → reach_so_far new q ≡ cond (is_at (nat_cmp row.nid) q) (Some row) (reach_so_far m q)) → is_some (reach_so_far m nid) ≡ true → is_some (reach_so_far new nid) ≡ true
kept_by_put m new row nid puts there = ap is_some (puts nid) ∙ by_test (is_at (nat_cmp row.nid) nid)
  where
    by_test : (v : Bool) → is_some (cond v (Some row) (reach_so_far m nid)) ≡ true
    by_test true = refl
    by_test false = there

-- ---- rows of a table, and tables of folders

pub none_taken : (depth : ℕ) (m : BTreeMap ℕ Reach) (next : BTreeSet ℕ) → Takes depth [] m next m next
none_taken depth m next = record { found = λ rest nid. refl; news = λ rest nid. refl }

-- all rows are left at first
pub all_left : (depth : ℕ) (left all : List FolderStep) (m : BTreeMap ℕ Reach) (next : BTreeSet ℕ) → left ≡ all → TookAllBut depth left all m next m next
all_left depth left all m next is = rw is (record { found = λ rest nid. refl; news = λ rest nid. refl })

pub append_assoc : {X : Type 0} (xs ys zs : List X) → (xs ++ ys) ++ zs ≡ xs ++ (ys ++ zs)
append_assoc [] ys zs = refl
append_assoc (x ∷ xs) ys zs = ap (λ l. x ∷ l) (append_assoc xs ys zs)

-- some rows, and then others
pub takes_then : (depth : ℕ) (xs ys : List FolderStep) (m0 m new : BTreeMap ℕ Reach) (next0 next after : BTreeSet ℕ) → Takes depth xs m0 next0 m next → Takes depth ys m next new after → Takes depth (xs ++ ys) m0 next0 new after
takes_then depth xs ys m0 m new next0 next after first second = record {
  found = λ rest nid. second.found rest nid ∙ first.found (ys ++ rest) nid ∙ ap (λ l. found_with depth m0 l nid) (sym (append_assoc xs ys rest));
  news = λ rest nid. second.news rest nid ∙ first.news (ys ++ rest) nid ∙ ap (λ l. new_with m0 next0 l nid) (sym (append_assoc xs ys rest));
}

-- the next of them are taken
pub took_more : (depth : ℕ) (steps left rest all : List FolderStep) (m0 m new : BTreeMap ℕ Reach) (next0 next after : BTreeSet ℕ) → left ≡ steps ++ rest → TookAllBut depth left all m0 next0 m next → Takes depth steps m next new after → TookAllBut depth rest all m0 next0 new after
took_more depth steps left rest all m0 m new next0 next after is so_far takes = record {
  found = λ others nid. takes.found (rest ++ others) nid ∙ ap (λ l. found_with depth m l nid) (turned others) ∙ so_far.found others nid;
  news = λ others nid. takes.news (rest ++ others) nid ∙ ap (λ l. new_with m next l nid) (turned others) ∙ so_far.news others nid;
}
  where
    turned : (others : List FolderStep) → steps ++ (rest ++ others) ≡ left ++ others
    turned others = sym (append_assoc steps rest others) ∙ ap (λ l. l ++ others) (sym is)

-- the first of the rows that are left names a folder, or none
pub one_named : (nodes : List NodeEntry) (parent : ℕ) (x : RowParts) (rows rest : List RowParts) → rows ≡ x ∷ rest → steps_named parent (folders_named nodes rows) ≡ steps_named parent (filter (is_folder_among nodes) (x.id ∷ [])) ++ steps_named parent (folders_named nodes rest)
one_named nodes parent x rows rest is = ap (λ l. steps_named parent (folders_named nodes l)) is ∙ by_test (is_folder_among nodes x.id) (folders_named nodes rest)
  where
    by_test : (v : Bool) (others : List ℕ) → steps_named parent (cond v (x.id ∷ others) others) ≡ steps_named parent (cond v (x.id ∷ []) []) ++ steps_named parent others
    by_test false others = refl
    by_test true others = refl

-- none is left
pub took_all : (depth : ℕ) (left all : List FolderStep) (m0 m : BTreeMap ℕ Reach) (next0 next : BTreeSet ℕ) → left ≡ [] → TookAllBut depth left all m0 next0 m next → Takes depth all m0 next0 m next
took_all depth left all m0 m next0 next done so_far = record {
  found = λ rest nid. ap (λ l. found_with depth m (l ++ rest) nid) (sym done) ∙ so_far.found rest nid;
  news = λ rest nid. ap (λ l. new_with m next (l ++ rest) nid) (sym done) ∙ so_far.news rest nid;
}
