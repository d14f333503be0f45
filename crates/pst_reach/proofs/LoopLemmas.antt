-- Level after level, and the list of what is found.
use Rattle.std.proofs.Common.{◌≡◌, ℕ, suc, ◌+◌, ◌^◌, ◌%◌, ◌<◌, ◌≤◌, Bool, true, false, cond, List, [], ◌∷◌, ◌++◌, length, Option, Some, None, refl, sym, ap, ◌∙◌, arith, BTreeMap, BTreeSet}
use Rattle.std.specs.Prelude.{min, IsSome, ◌-◌, ◌||◌, ◌↔◌}
use Rattle.std.specs.List.{filter_map}
use Rattle.std.specs.Ordering.{nat_cmp}
use Rattle.std.specs.BTreeMap.{is_at}
use Rattle.std.specs.BTreeSet.{insert_key}
use Rattle.std.specs.Cmp.{unsigned_tied}
use Rattle.std.proofs.lemmas.Bool.{eqb-true}
use Rattle.pst_page.specs.declared.entry.NodeEntry.{NodeEntry}
use Rattle.pst_block.specs.Table.{Table}
use Rattle.pst_btree.specs.Order.{Rises}
use Rattle.pst_ndb.specs.Counts.{capped}
use Rattle.pst_ndb.specs.Roots.{Roots}
use Rattle.pst_store.proofs.pst_msg.CountLemmas.{one_more}
use Rattle.pst_store.specs.pst_msg.pst_mail.declared.nid.TheConstants.{ROOT, FOLDER, SEARCH_FOLDER}
use Rattle.pst_store.specs.pst_msg.Nid.{type_of, is_type}
use Rattle.pst_store.specs.pst_msg.Values.{is_folder}
use Rattle.pst_reach.specs.declared.reached.Reach.{Reach}
use Rattle.pst_reach.specs.Reach.{folder_ids}
use Rattle.pst_reach.specs.Levels.{root_reach, found, level, reaches_of, folders_at, folders_below, folders_in}
use Rattle.pst_reach.specs.Search.{reach_so_far, AreTaken, IsReachedWithin, IsLevel, IsCountedTo}
use Rattle.pst_reach.proofs.SearchLemmas.{append_assoc}
use Rattle.pst_reach.proofs.LevelLemmas.{no_more}
use Rattle.pst_reach.proofs.StoreLemmas.{tops, lower}

-- a set that gives no first key has none
pub no_keys : (ks : List ℕ) → (let o : Option ℕ = None in IsSome o) ↔ (0 < length ks) → ks ≡ []
no_keys [] is = refl
no_keys (k ∷ ks) is = let bad = is.1 (omega arith) in cc

pub no_length : (ks : List ℕ) → length ks ≡ 0 → ks ≡ []
no_length [] is = refl
no_length (k ∷ ks) is = cc

-- ---- the beginning

pub root_found : (t : Table) (nodes : List NodeEntry) (empty m : BTreeMap ℕ Reach) → ((q : ℕ) → reach_so_far empty q ≡ None) → ((q : ℕ) → reach_so_far m q ≡ cond (is_at (nat_cmp ROOT) q) (Some root_reach) (reach_so_far empty q)) → IsReachedWithin t nodes 0 m
unfolding found
root_found t nodes empty m none puts nid = puts nid ∙ rw (unsigned_tied ROOT nid, none nid) refl

pub none_in_empty : (m : BTreeMap ℕ Reach) → m.entries ≡ [] → (q : ℕ) → reach_so_far m q ≡ None
none_in_empty m none q = rw none refl

pub root_level : (t : Table) (nodes : List NodeEntry) (empty s : BTreeSet ℕ) → empty.keys ≡ [] → s.keys ≡ insert_key nat_cmp empty.keys ROOT → IsLevel t nodes 0 s
unfolding level
root_level t nodes empty s none is = is ∙ rw none refl

pub none_taken_yet : (t : Table) (nodes : List NodeEntry) (tables : BTreeSet ℕ) (m : BTreeMap ℕ Reach) → tables.keys ≡ [] → AreTaken t nodes tables m
none_taken_yet t nodes tables m none r was nid w = let bad : false ≡ true = (rw none at was) in cc

-- a count of 64 bits is not capped
pub capped_small : (n : ℕ) → n < 2 ^ 64 → n ≡ capped n
capped_small n small = grind (arith, small)

-- ---- one folder more, and so one depth more

same_length : (xs : List Roots) → length (tops xs) ≡ length xs
same_length [] = refl
same_length (x ∷ xs) = ap suc (same_length xs)

pub all_to_go : (left all : List Roots) → left ≡ all → 0 + length left ≡ length (tops all)
all_to_go left all is = let same = same_length all in rw is (omega (arith, same))

pub all_rise : (left all : List Roots) → left ≡ all → Rises 0 None (tops all) → Rises 0 None (tops left)
all_rise left all is rises = rw is rises

pub one_less : (n total : ℕ) (left rest : List Roots) (x : Roots) → left ≡ x ∷ rest → n + length left ≡ total → n + 1 + length rest ≡ total
one_less n total left rest x is all = let here : n + length (x ∷ rest) ≡ total = (rw is at all) in omega (arith, here)

pub rise_on : (n : ℕ) (left rest : List Roots) (x : Roots) → left ≡ x ∷ rest → Rises n None (tops left) → Rises (n + 1) None (tops rest)
rise_on n left rest x is rises =
    let here : Rises n None (tops (x ∷ rest)) = (rw is at rises) in
    lower (n + 1) (x.top + 1) (tops rest) (omega (arith, here.0)) here.2

pub room_in : (n : ℕ) (left rest : List Roots) (x : Roots) → left ≡ x ∷ rest → Rises n None (tops left) → n ≤ x.top
room_in n left rest x is rises = let here : Rises n None (tops (x ∷ rest)) = (rw is at rises) in here.0

-- a folder's identifier is not the greatest number
low_bits : (nid : ℕ) → is_folder nid ≡ true → (nid % 32) ≤ 3
low_bits nid is = by_type (is_type FOLDER nid) refl (is_type SEARCH_FOLDER nid) refl is
  where
    by_type : (a : Bool) → is_type FOLDER nid ≡ a → (b : Bool) → is_type SEARCH_FOLDER nid ≡ b → (a || b) ≡ true → (nid % 32) ≤ 3
    by_type true e b f or = let same = eqb-true (type_of nid) FOLDER e in omega (arith, same)
    by_type false e true f or = let same = eqb-true (type_of nid) SEARCH_FOLDER f in omega (arith, same)
    by_type false e false f or = cc

-- ---- the end

pub stop_here : (t : Table) (nodes : List NodeEntry) (n k total : ℕ) (m : BTreeMap ℕ Reach) (s : BTreeSet ℕ) → n + k ≡ total → IsReachedWithin t nodes n m → IsLevel t nodes n s → s.keys ≡ [] → IsReachedWithin t nodes total m
stop_here t nodes n k total m s all within is none nid =
    within nid ∙ sym ((no_more t nodes n k (sym is ∙ none)).1 nid) ∙ ap (λ d. found t nodes d nid) all

pub all_done : (t : Table) (nodes : List NodeEntry) (n total : ℕ) (left : List Roots) (m : BTreeMap ℕ Reach) → left ≡ [] → n + length left ≡ total → IsReachedWithin t nodes n m → IsReachedWithin t nodes total m
all_done t nodes n total left m none all within nid =
    let here : n + length {A = Roots} [] ≡ total = (rw none at all) in
    let same : n ≡ total = omega (arith, here) in
    within nid ∙ ap (λ d. found t nodes d nid) same

-- ---- the list

pub listed_first : (h : ℕ → Option Reach) (left all : List Roots) → left ≡ all → [] ++ filter_map h (tops left) ≡ filter_map h (tops all)
listed_first h left all is = rw is refl

pub listed_more : (h : ℕ → Option Reach) (items more : List Reach) (left rest : List Roots) (x : Roots) (r : Reach) (all : List Reach) → left ≡ x ∷ rest → h x.top ≡ Some r → more ≡ items ++ (r ∷ []) → items ++ filter_map h (tops left) ≡ all → more ++ filter_map h (tops rest) ≡ all
listed_more h items more left rest x r all is found push so_far =
    rw push (append_assoc items (r ∷ []) (filter_map h (tops rest)) ∙ sym (rw (is, found) refl) ∙ so_far)

pub listed_none : (h : ℕ → Option Reach) (items : List Reach) (left rest : List Roots) (x : Roots) (all : List Reach) → left ≡ x ∷ rest → h x.top ≡ None → items ++ filter_map h (tops left) ≡ all → items ++ filter_map h (tops rest) ≡ all
listed_none h items left rest x all is none so_far = sym (rw (is, none) refl) ∙ so_far

append_none : {X : Type 0} (xs : List X) → xs ++ [] ≡ xs
append_none [] = refl
append_none (x ∷ xs) = ap (λ l. x ∷ l) (append_none xs)

pub listed_all : (t : Table) (nodes : List NodeEntry) (items : List Reach) (left : List Roots) → left ≡ [] → items ++ filter_map (found t nodes (length (folder_ids nodes))) (tops left) ≡ filter_map (found t nodes (length (folder_ids nodes))) (folder_ids nodes) → items ≡ reaches_of t nodes
unfolding reaches_of
listed_all t nodes items left none so_far = sym (append_none items) ∙ sym (rw none refl) ∙ so_far

-- ---- how many folders were walked from

pub one_counted : (walked nid : ℕ) → is_type FOLDER nid ≡ true → (before : ℕ) → walked ≡ capped before → min (walked + 1) (2 ^ 64 - 1) ≡ capped (before + folders_at (nid ∷ []))
one_counted walked nid is before so_far = rw is (one_more before (before + 1) walked so_far refl)

pub none_counted : (walked nid : ℕ) → is_type FOLDER nid ≡ false → (before : ℕ) → walked ≡ capped before → walked ≡ capped (before + folders_at (nid ∷ []))
none_counted walked nid is before so_far = let same : before + 0 ≡ before = omega arith in rw (is, same) so_far

pub none_yet : (all : List ℕ) (walked : ℕ) → IsCountedTo all all walked walked
none_yet all walked = (0, omega arith, λ before is. let same : before + 0 ≡ before = omega arith in rw same is)

pub one_to_go : (nid : ℕ) (rest : List ℕ) → folders_at (nid ∷ rest) ≡ folders_at (nid ∷ []) + folders_at rest
one_to_go nid rest = by_test (is_type FOLDER nid) refl
  where
    by_test : (v : Bool) → is_type FOLDER nid ≡ v → folders_at (nid ∷ rest) ≡ folders_at (nid ∷ []) + folders_at rest
    by_test true e = rw e (omega arith)
    by_test false e = rw e (omega arith)

pub counted_one : (left rest all : List ℕ) (nid old now new : ℕ) → left ≡ nid ∷ rest → IsCountedTo left all old now → ((before : ℕ) → now ≡ capped before → new ≡ capped (before + folders_at (nid ∷ []))) → IsCountedTo rest all old new
counted_one left rest all nid old now new is so_far one =
    let here : so_far.0 + folders_at (nid ∷ rest) ≡ folders_at all = (rw is at so_far.1) in (
      so_far.0 + folders_at (nid ∷ []),
      omega (arith, here, one_to_go nid rest),
      λ before start. let sum : before + so_far.0 + folders_at (nid ∷ []) ≡ before + (so_far.0 + folders_at (nid ∷ [])) = omega arith in rw sum at (one (before + so_far.0) (so_far.2 before start)),
    )

pub counted_all : (left all : List ℕ) (old now : ℕ) → left ≡ [] → IsCountedTo left all old now → (before : ℕ) → old ≡ capped before → now ≡ capped (before + folders_at all)
counted_all left all old now none so_far before start =
    let here : so_far.0 + folders_at [] ≡ folders_at all = (rw none at so_far.1) in
    let same : so_far.0 ≡ folders_at all = omega (arith, here) in
    rw same at (so_far.2 before start)

pub nothing_below : (walked before : ℕ) → walked ≡ capped before → walked ≡ capped (before + 0)
nothing_below walked before is = let same : before + 0 ≡ before = omega arith in rw same is

pub counted_deeper : (t : Table) (nodes : List NodeEntry) (n : ℕ) (keys : List ℕ) (before now new : ℕ) → keys ≡ level t nodes n → now ≡ capped (before + folders_below t nodes n) → ((b : ℕ) → now ≡ capped b → new ≡ capped (b + folders_at keys)) → new ≡ capped (before + folders_below t nodes (n + 1))
counted_deeper t nodes n keys before now new is so_far one =
    let next : new ≡ capped (before + folders_below t nodes n + folders_at keys) = one (before + folders_below t nodes n) so_far in
    let more : n + 1 ≡ suc n = omega arith in
    let sum : before + folders_below t nodes n + folders_at (level t nodes n) ≡ before + (folders_below t nodes n + folders_at (level t nodes n)) = omega arith in
    rw (more, ← sum, ← is) next

-- at the end as many folders were walked from as are reached
pub counted_in_all : (t : Table) (nodes : List NodeEntry) (n before walked : ℕ) → folders_below t nodes n ≡ folders_in (reaches_of t nodes) → walked ≡ capped (before + folders_below t nodes n) → walked ≡ capped (before + folders_in (reaches_of t nodes))
counted_in_all t nodes n before walked all is = rw (← all) is

pub at_last : (t : Table) (nodes : List NodeEntry) (n : ℕ) (left : List Roots) → left ≡ [] → n + length left ≡ length (folder_ids nodes) → folders_below t nodes (length (folder_ids nodes)) ≡ folders_in (reaches_of t nodes) → folders_below t nodes n ≡ folders_in (reaches_of t nodes)
at_last t nodes n left none all last =
    let here : n + length {A = Roots} [] ≡ length (folder_ids nodes) = (rw none at all) in
    let same : n ≡ length (folder_ids nodes) = omega (arith, here) in
    rw same last
