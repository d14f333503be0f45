-- The hierarchy tables of folders, each gone through once.
use Rattle.std.proofs.Common.{◌≡◌, ℕ, Bool, true, false, cond, List, [], ◌∷◌, ◌++◌, map, Option, Some, None, refl, sym, ap, ◌∙◌, inl, inr, BTreeMap, BTreeSet}
use Rattle.std.specs.Prelude.{nat_eq, is_some, option_map}
use Rattle.std.specs.List.{Contains, filter}
use Rattle.std.specs.Option.{option_or}
use Rattle.std.specs.Ordering.{nat_cmp}
use Rattle.std.specs.BTreeMap.{is_at}
use Rattle.std.proofs.lemmas.Map.Lookups.{exact_unsigned}
use Rattle.std.proofs.lemmas.Map.Views.{tells_apart}
use Rattle.pst_fault.proofs.EachLemmas.{contains_here, contains_later}
use Rattle.pst_fault.proofs.GeneralLemmas.{test_of_number}
use Rattle.pst_page.specs.declared.entry.NodeEntry.{NodeEntry}
use Rattle.pst_block.specs.Table.{Table}
use Rattle.pst_btree.specs.Entries.{first_with}
use Rattle.pst_ndb.specs.Roots.{Roots}
use Rattle.pst_tc.specs.Values.{RowParts, info_of, tc_records, row_parts_at, tc_rows}
use Rattle.pst_tc.proofs.AlikeLaws.{rows_alike}
use Rattle.pst_store.specs.pst_msg.pst_mail.declared.items.Items.TheVariants.{Subfolders}
use Rattle.pst_store.specs.pst_msg.Shown.{folder_table}
use Rattle.pst_store.specs.pst_msg.Values.{is_folder}
use Rattle.pst_store.specs.Kind.{node_of_kind}
use Rattle.pst_reach.specs.declared.reached.Reach.{Reach}
use Rattle.pst_reach.specs.Reach.{ids_of, is_folder_among, folders_named, subfolders_of}
use Rattle.pst_reach.specs.Levels.{FolderStep, step_nid, folder_step, steps_named, steps_of, reached_by}
use Rattle.pst_reach.specs.Search.{reach_so_far, is_in, Takes, was_taken, table_key, AreTaken}
use Rattle.pst_reach.proofs.ListLemmas.{in_none, in_more}
use Rattle.pst_reach.proofs.SearchLemmas.{step_met, row_met, takes_then, none_taken}

-- ---- which rows a folder has

pub no_folder : (t : Table) (nodes : List NodeEntry) (nid : ℕ) → node_of_kind is_folder nodes nid ≡ None → steps_of t nodes nid ≡ []
unfolding subfolders_of
no_folder t nodes nid none = rw none refl

pub no_table : (t : Table) (nodes : List NodeEntry) (nid : ℕ) (r : Roots) → node_of_kind is_folder nodes nid ≡ Some r → folder_table nodes Subfolders r.top ≡ None → steps_of t nodes nid ≡ []
unfolding subfolders_of
no_table t nodes nid r is none = rw (is, none) refl

pub table_steps : (t : Table) (nodes : List NodeEntry) (nid : ℕ) (r s : Roots) → node_of_kind is_folder nodes nid ≡ Some r → folder_table nodes Subfolders r.top ≡ Some s → steps_of t nodes nid ≡ steps_named nid (folders_named nodes (tc_rows t s))
unfolding subfolders_of
table_steps t nodes nid r s is there = rw (is, there) refl

-- the same, of a folder that was looked up
pub no_table_in : (t : Table) (nodes other : List NodeEntry) (nid : ℕ) (r : Roots) → other ≡ nodes → Some r ≡ node_of_kind is_folder nodes nid → None ≡ folder_table other Subfolders r.top → steps_of t nodes nid ≡ []
no_table_in t nodes other nid r same is none = let here : None ≡ folder_table nodes Subfolders r.top = (rw same at none) in no_table t nodes nid r (sym is) (sym here)

pub table_steps_in : (t u : Table) (nodes other : List NodeEntry) (nid : ℕ) (r s : Roots) → u ≡ t → other ≡ nodes → Some r ≡ node_of_kind is_folder nodes nid → Some s ≡ folder_table other Subfolders r.top → steps_of t nodes nid ≡ steps_named nid (folders_named nodes (tc_rows u s))
table_steps_in t u nodes other nid r s alike same is there =
    let here : Some s ≡ folder_table nodes Subfolders r.top = (rw same at there) in
    table_steps t nodes nid r s (sym is) (sym here) ∙ ap (λ v. steps_named nid (folders_named nodes (tc_rows v s))) (sym alike)

pub takes_nothing : (depth : ℕ) (steps : List FolderStep) (m : BTreeMap ℕ Reach) (next : BTreeSet ℕ) → steps ≡ [] → Takes depth steps m next m next
takes_nothing depth steps m next none = rw none (none_taken depth m next)

pub takes_same : (depth : ℕ) (steps same : List FolderStep) (m new : BTreeMap ℕ Reach) (next after : BTreeSet ℕ) → steps ≡ same → Takes depth same m next new after → Takes depth steps m next new after
takes_same depth steps same m new next after is takes = rw is takes

-- ---- a table that was gone through adds nothing

pub rows_met : (depth parent : ℕ) (ids : List ℕ) (m : BTreeMap ℕ Reach) (next : BTreeSet ℕ) → ((nid : ℕ) → Contains ids nid → is_some (reach_so_far m nid) ≡ true) → Takes depth (steps_named parent ids) m next m next
rows_met depth parent [] m next met = none_taken depth m next
rows_met depth parent (x ∷ ids) m next met =
    takes_then depth (folder_step parent x ∷ []) (steps_named parent ids) m m m next next next
    (step_met depth (folder_step parent x) m next (met x (contains_here x ids)))
    (rows_met depth parent ids m next (λ y w. met y (contains_later x y ids w)))

-- ---- the rows of a table, one after another

steps_joined : (parent : ℕ) (xs ys : List ℕ) → steps_named parent (xs ++ ys) ≡ steps_named parent xs ++ steps_named parent ys
steps_joined parent [] ys = refl
steps_joined parent (x ∷ xs) ys = ap (λ l. folder_step parent x ∷ l) (steps_joined parent xs ys)

first_named : (nodes : List NodeEntry) (x : RowParts) (rest : List RowParts) → folders_named nodes (x ∷ rest) ≡ filter (is_folder_among nodes) (x.id ∷ []) ++ folders_named nodes rest
first_named nodes x rest = by_test (is_folder_among nodes x.id)
  where
    by_test : (v : Bool) → cond v (x.id ∷ folders_named nodes rest) (folders_named nodes rest) ≡ cond v (x.id ∷ []) [] ++ folders_named nodes rest
    by_test true = refl
    by_test false = refl

pub rows_more : (parent : ℕ) (nodes : List NodeEntry) (left rest : List RowParts) (x : RowParts) → left ≡ x ∷ rest → steps_named parent (folders_named nodes left) ≡ steps_named parent (filter (is_folder_among nodes) (x.id ∷ [])) ++ steps_named parent (folders_named nodes rest)
rows_more parent nodes left rest x is =
    ap (λ l. steps_named parent (folders_named nodes l)) is ∙ ap (steps_named parent) (first_named nodes x rest) ∙ steps_joined parent (filter (is_folder_among nodes) (x.id ∷ [])) (folders_named nodes rest)

-- a row that names no folder among the nodes adds nothing
pub row_passed : (depth parent nid : ℕ) (nodes : List NodeEntry) (m : BTreeMap ℕ Reach) (next : BTreeSet ℕ) → is_folder_among nodes nid ≡ false → Takes depth (steps_named parent (filter (is_folder_among nodes) (nid ∷ []))) m next m next
row_passed depth parent nid nodes m next none = rw none (none_taken depth m next)

-- one that names a folder that was found adds nothing, either
pub row_known : (nodes : List NodeEntry) (m : BTreeMap ℕ Reach) (next : BTreeSet ℕ) (row : Reach) → is_some (reach_so_far m row.nid) ≡ true → Takes row.depth (steps_named row.parent (filter (is_folder_among nodes) (row.nid ∷ []))) m next m next
row_known nodes m next row met = by_test (is_folder_among nodes row.nid)
  where
    by_test : (v : Bool) → Takes row.depth (steps_named row.parent (cond v (row.nid ∷ []) [])) m next m next
    by_test true = row_met m next row met
    by_test false = none_taken row.depth m next

pub row_new : (nodes : List NodeEntry) (m new : BTreeMap ℕ Reach) (next after : BTreeSet ℕ) (row : Reach) → is_folder_among nodes row.nid ≡ true → Takes row.depth (steps_named row.parent (row.nid ∷ [])) m next new after → Takes row.depth (steps_named row.parent (filter (is_folder_among nodes) (row.nid ∷ []))) m next new after
row_new nodes m new next after row is takes = rw is takes

-- ---- what the rows of a table name is found behind it

pub named_first : (parent : ℕ) (ids : List ℕ) (rest : List FolderStep) (nid : ℕ) → Contains ids nid → is_some (first_with step_nid nid (steps_named parent ids ++ rest)) ≡ true
unfolding first_with
named_first parent [] rest nid w = absurd (in_none nid w)
named_first parent (id ∷ ids) rest nid w = elim (in_more id ids nid w) [
  | inl e ↦ here (test_of_number id nid e)
  | inr later ↦ behind (nat_eq id nid) (named_first parent ids rest nid later)
]
  where
    here : nat_eq id nid ≡ true → is_some (first_with step_nid nid (steps_named parent (id ∷ ids) ++ rest)) ≡ true
    here e = rw e refl

    behind : (v : Bool) → is_some (first_with step_nid nid (steps_named parent ids ++ rest)) ≡ true → is_some (cond v (Some (folder_step parent id)) (first_with step_nid nid (steps_named parent ids ++ rest))) ≡ true
    behind true e = refl
    behind false e = e

or_none : (o : Option Reach) → option_or o None ≡ o
or_none None = refl
or_none (Some x) = refl

some_or : (depth : ℕ) (o : Option Reach) (p : Option FolderStep) → is_some p ≡ true → is_some (option_or o (option_map (reached_by depth) p)) ≡ true
some_or depth (Some x) p there = refl
some_or depth None (Some s) there = refl
some_or depth None None there = cc

pub rows_found : (depth parent : ℕ) (ids : List ℕ) (m new : BTreeMap ℕ Reach) (next after : BTreeSet ℕ) → Takes depth (steps_named parent ids) m next new after → (nid : ℕ) → Contains ids nid → is_some (reach_so_far new nid) ≡ true
unfolding first_with
rows_found depth parent ids m new next after takes nid w =
    ap is_some (sym (or_none (reach_so_far new nid)) ∙ takes.found [] nid)
    ∙ some_or depth (reach_so_far m nid) (first_with step_nid nid (steps_named parent ids ++ [])) (named_first parent ids [] nid w)

-- ---- the list of a table's subnodes says nothing of what its rows name

with_list : Roots → ℕ → Roots
with_list r list = record { top = r.top; bid_data = r.bid_data; bid_sub = list }

-- a row names what its record does, wherever it lies
ids_same : {X : Type 0} (f g : X → RowParts) → ((x : X) → (f x).id ≡ (g x).id) → (xs : List X) → ids_of (map f xs) ≡ ids_of (map g xs)
ids_same f g same [] = refl
ids_same f g same (x ∷ rest) = rw (same x, ids_same f g same rest) refl

records_same : (t : Table) (r : Roots) (list : ℕ) → tc_records t r (info_of t r) ≡ tc_records t (with_list r list) (info_of t (with_list r list))
unfolding tc_records info_of with_list
records_same t r list = refl

list_unasked : (t : Table) (r : Roots) (list : ℕ) → ids_of (tc_rows t r) ≡ ids_of (tc_rows t (with_list r list))
unfolding tc_rows
list_unasked t r list =
    ids_same (row_parts_at t r) (row_parts_at t (with_list r list)) (λ x. refl) (tc_records t r (info_of t r))
    ∙ ap ids_of (ap (map (row_parts_at t (with_list r list))) (records_same t r list))

-- so tables with the same data name the same folders
named_by_data : (t : Table) (nodes : List NodeEntry) (r s : Roots) → table_key r ≡ table_key s → folders_named nodes (tc_rows t r) ≡ folders_named nodes (tc_rows t s)
unfolding with_list
named_by_data t nodes r s e = ap (filter (is_folder_among nodes)) (list_unasked t r s.bid_sub ∙ ap ids_of (rows_alike t (with_list r s.bid_sub) s (e, refl)))

-- ---- one more table was gone through

pub table_taken : (t : Table) (nodes : List NodeEntry) (r : Roots) (tables more : BTreeSet ℕ) (m new : BTreeMap ℕ Reach) →
    ((q : ℕ) → is_in more q ≡ cond (is_at (nat_cmp (table_key r)) q) true (is_in tables q)) →
    ((nid : ℕ) → is_some (reach_so_far m nid) ≡ true → is_some (reach_so_far new nid) ≡ true) →
    ((nid : ℕ) → Contains (folders_named nodes (tc_rows t r)) nid → is_some (reach_so_far new nid) ≡ true) →
    AreTaken t nodes tables m → AreTaken t nodes more new
table_taken t nodes r tables more m new adds keeps named are s was nid w = by_test (is_at (nat_cmp (table_key r)) (table_key s)) refl (sym (adds (table_key s)) ∙ was)
  where
    by_test : (v : Bool) → is_at (nat_cmp (table_key r)) (table_key s) ≡ v → cond v true (was_taken tables s) ≡ true → is_some (reach_so_far new nid) ≡ true
    by_test false e before = keeps nid (are s before nid w)
    by_test true e before = named nid (rw (named_by_data t nodes r s (tells_apart exact_unsigned (table_key r) (table_key s) e)) w)

-- the same, by the key that was looked up
pub known_table : (depth parent : ℕ) (t : Table) (nodes : List NodeEntry) (s : Roots) (key : ℕ) (steps : List FolderStep) (tables : BTreeSet ℕ) (m : BTreeMap ℕ Reach) (next : BTreeSet ℕ) → key ≡ table_key s → is_in tables key ≡ true → AreTaken t nodes tables m → steps ≡ steps_named parent (folders_named nodes (tc_rows t s)) → Takes depth steps m next m next
known_table depth parent t nodes s key steps tables m next is was are same = rw same (rows_met depth parent (folders_named nodes (tc_rows t s)) m next (are s (rw is at was)))

pub table_taken_by : (depth parent : ℕ) (t u : Table) (nodes : List NodeEntry) (s : Roots) (key : ℕ) (tables more : BTreeSet ℕ) (m new : BTreeMap ℕ Reach) (next after : BTreeSet ℕ) → u ≡ t → key ≡ table_key s →
    ((q : ℕ) → is_in more q ≡ cond (is_at (nat_cmp key) q) true (is_in tables q)) →
    ((nid : ℕ) → is_some (reach_so_far m nid) ≡ true → is_some (reach_so_far new nid) ≡ true) →
    Takes depth (steps_named parent (folders_named nodes (tc_rows u s))) m next new after →
    AreTaken t nodes tables m → AreTaken t nodes more new
table_taken_by depth parent t u nodes s key tables more m new next after alike is adds keeps takes are =
    let here : Takes depth (steps_named parent (folders_named nodes (tc_rows t s))) m next new after = (rw alike at takes) in
    table_taken t nodes s tables more m new (rw is at adds) keeps (rows_found depth parent (folders_named nodes (tc_rows t s)) m new next after here) are
