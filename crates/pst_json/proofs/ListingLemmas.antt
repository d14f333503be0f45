-- Which folders list each message, as they are gone through one by one.
use Rattle.std.proofs.Common.{◌≡◌, ◌<◌, ◌≤◌, ◌+◌, ◌||◌, ℕ, Bool, true, false, cond, List, [], ◌∷◌, ◌++◌, refl, sym, ap, subst, ◌∙◌, arith, append_assoc, append-nil}
use Rattle.std.specs.Prelude.{map, nat_eq, None, OnOk, Result, Ok, Err}
use Rattle.std.specs.List.{filter, list_any}
use Rattle.std.proofs.lemmas.Bool.Decides.{nat_tests}
use Rattle.pst_btree.specs.Order.{Rises}
use Rattle.pst_ndb.specs.Roots.{Roots}
use Rattle.pst_value_json.specs.pst_tc.Values.{RowParts, row_id_of}
use Rattle.pst_json.specs.Listings.{if_listed}
use Rattle.pst_json.specs.Messages.{names, top_of_roots}

-- no row behind names what lies below them all
none_behind : (nid low : ℕ) (xs : List RowParts) → nid < low → Rises low None (map row_id_of xs) → list_any (names nid) xs ≡ false
none_behind nid low [] lt rises = refl
none_behind nid low (x ∷ xs) lt rises =
    let other : nat_eq nid x.id ≡ false = grind (arith, nat_tests, lt, rises.0) in
    rw other (none_behind nid (x.id + 1) xs (omega (arith, lt, rises.0)) rises.2)

-- a row more: the folder is noted where it names the message, and no row behind it does
pub row_noted : (nid folder low : ℕ) (x : RowParts) (old left : List RowParts) (had has all : List ℕ) → Rises low None (map row_id_of old) → old ≡ x ∷ left
    → has ≡ had ++ if_listed (nat_eq nid x.id) folder → had ++ if_listed (list_any (names nid) old) folder ≡ all → has ++ if_listed (list_any (names nid) left) folder ≡ all
row_noted nid folder low x old left had has all rises is now so_far = by_row (nat_eq nid x.id) refl
  where
    row_rises : Rises low None (map row_id_of (x ∷ left))
    row_rises = subst (λ l. Rises low None (map row_id_of l)) is rises

    by_row : (b : Bool) → nat_eq nid x.id ≡ b → has ++ if_listed (list_any (names nid) left) folder ≡ all
    by_row true e =
        let same : nid ≡ x.id = grind (arith, nat_tests, e) in
        let none : list_any (names nid) left ≡ false = none_behind nid (x.id + 1) left (omega (arith, same)) row_rises.2 in
        rw (now, e, none) (append-nil _ ∙ (rw (is, e) at so_far))
    by_row false e = rw (now, e, append-nil had) (rw (is, e) at so_far)

-- the rows behind rise, too
pub row_rises_on : (low : ℕ) (x : RowParts) (old left : List RowParts) → Rises low None (map row_id_of old) → old ≡ x ∷ left → (low : ℕ) × Rises low None (map row_id_of left)
row_rises_on low x old left rises is = let all : Rises low None (map row_id_of (x ∷ left)) = subst (λ l. Rises low None (map row_id_of l)) is rises in (x.id + 1, all.2)

-- no row is left
pub rows_noted : (nid folder : ℕ) (left : List RowParts) (has all : List ℕ) → left ≡ [] → has ++ if_listed (list_any (names nid) left) folder ≡ all → has ≡ all
rows_noted nid folder left has all is so_far = sym (append-nil has) ∙ (rw is at so_far)

-- a folder more
pub folder_noted : (lists : Roots → Bool) (r : Roots) (old left : List Roots) (had has all : List ℕ) → old ≡ r ∷ left → has ≡ had ++ if_listed (lists r) r.top
    → had ++ map top_of_roots (filter lists old) ≡ all → has ++ map top_of_roots (filter lists left) ≡ all
folder_noted lists r old left had has all is now so_far = by_folder (lists r) refl
  where
    by_folder : (b : Bool) → lists r ≡ b → has ++ map top_of_roots (filter lists left) ≡ all
    by_folder true e = rw (now, e) (append_assoc had (r.top ∷ []) _ ∙ (rw (is, e) at so_far))
    by_folder false e = rw (now, e, append-nil had) (rw (is, e) at so_far)

-- no folder is left
pub folders_noted : (lists : Roots → Bool) (left : List Roots) (has all : List ℕ) → left ≡ [] → has ++ map top_of_roots (filter lists left) ≡ all → has ≡ all
folders_noted lists left has all is so_far = sym (append-nil has) ∙ (rw is at so_far)

-- ---- the identifiers of rows that are asked for

lower : (low less : ℕ) (xs : List ℕ) → less ≤ low → Rises low None xs → Rises less None xs
lower low less [] le rises = tt
lower low less (x ∷ xs) le rises = (omega (arith, le, rises.0), rises.1, rises.2)

-- they rise as those of all rows do
pub ids_rise : (asked : ℕ → Bool) (low : ℕ) (xs : List ℕ) → Rises low None xs → Rises low None (filter asked xs)
ids_rise asked low [] rises = tt
ids_rise asked low (x ∷ xs) rises = by_test (asked x) (ids_rise asked (x + 1) xs rises.2)
  where
    by_test : (b : Bool) → Rises (x + 1) None (filter asked xs) → Rises low None (cond b (x ∷ filter asked xs) (filter asked xs))
    by_test true later = (rises.0, refl, later)
    by_test false later = lower (x + 1) low (filter asked xs) (omega (arith, rises.0)) later

-- one that is asked for is among them exactly where a row names it
pub named_there : (asked : ℕ → Bool) (nid : ℕ) (xs : List RowParts) → asked nid ≡ true → list_any (nat_eq nid) (filter asked (map row_id_of xs)) ≡ list_any (names nid) xs
named_there asked nid [] there = refl
named_there asked nid (x ∷ xs) there = by_row (named_there asked nid xs there) (asked x.id) (nat_eq nid x.id) refl refl
  where
    by_row : list_any (nat_eq nid) (filter asked (map row_id_of xs)) ≡ list_any (names nid) xs → (kept named : Bool) → asked x.id ≡ kept → nat_eq nid x.id ≡ named
        → list_any (nat_eq nid) (cond kept (x.id ∷ filter asked (map row_id_of xs)) (filter asked (map row_id_of xs))) ≡ (named || list_any (names nid) xs)
    by_row later true named k n = rw n (ap (λ b. named || b) later)
    by_row later false false k n = later
    by_row later false true k n =
        let same : nid ≡ x.id = grind (arith, nat_tests, n) in
        let bad : true ≡ false = sym there ∙ ap asked same ∙ k in
        absurd cc

-- no identifier behind is what lies below them all
none_of_them : (nid low : ℕ) (xs : List ℕ) → nid < low → Rises low None xs → list_any (nat_eq nid) xs ≡ false
none_of_them nid low [] lt rises = refl
none_of_them nid low (x ∷ xs) lt rises =
    let other : nat_eq nid x ≡ false = grind (arith, nat_tests, lt, rises.0) in
    rw other (none_of_them nid (x + 1) xs (omega (arith, lt, rises.0)) rises.2)

-- an identifier more: the folder is noted for it, and for none behind it
pub id_noted : (nid folder low x : ℕ) (old left : List ℕ) (had has all : List ℕ) → Rises low None old → old ≡ x ∷ left
    → has ≡ had ++ if_listed (nat_eq nid x) folder → had ++ if_listed (list_any (nat_eq nid) old) folder ≡ all → has ++ if_listed (list_any (nat_eq nid) left) folder ≡ all
id_noted nid folder low x old left had has all rises is now so_far = by_id (nat_eq nid x) refl
  where
    id_rises : Rises low None (x ∷ left)
    id_rises = subst (λ l. Rises low None l) is rises

    by_id : (b : Bool) → nat_eq nid x ≡ b → has ++ if_listed (list_any (nat_eq nid) left) folder ≡ all
    by_id true e =
        let same : nid ≡ x = grind (arith, nat_tests, e) in
        let none : list_any (nat_eq nid) left ≡ false = none_of_them nid (x + 1) left (omega (arith, same)) id_rises.2 in
        rw (now, e, none) (append-nil _ ∙ (rw (is, e) at so_far))
    by_id false e = rw (now, e, append-nil had) (rw (is, e) at so_far)

-- those behind it rise, too
pub ids_rise_on : (low x : ℕ) (old left : List ℕ) → Rises low None old → old ≡ x ∷ left → (low : ℕ) × Rises low None left
ids_rise_on low x old left rises is = let all : Rises low None (x ∷ left) = subst (λ l. Rises low None l) is rises in (x + 1, all.2)

-- no identifier is left
pub ids_noted : (nid folder : ℕ) (left : List ℕ) (has all : List ℕ) → left ≡ [] → has ++ if_listed (list_any (nat_eq nid) left) folder ≡ all → has ≡ all
ids_noted nid folder left has all is so_far = sym (append-nil has) ∙ (rw is at so_far)

-- so the folder is noted for each message that is asked for and that a row names
noted_for : (asked : ℕ → Bool) (xs : List RowParts) (messages : List ℕ) (folder : ℕ) (had has : ℕ → List ℕ) → messages ≡ filter asked (map row_id_of xs)
    → ((nid : ℕ) → has nid ≡ had nid ++ if_listed (list_any (nat_eq nid) messages) folder) → (nid : ℕ) → asked nid ≡ true
    → has nid ≡ had nid ++ if_listed (list_any (names nid) xs) folder
noted_for asked xs messages folder had has are noted nid there =
    noted nid ∙ ap (λ b. had nid ++ if_listed b folder) (ap (list_any (nat_eq nid)) are ∙ named_there asked nid xs there)

pub noted_so : {X E : Type 0} (result : Result X E) (asked : ℕ → Bool) (xs : List RowParts) (messages : List ℕ) (folder : ℕ) (had has : ℕ → List ℕ)
    → messages ≡ filter asked (map row_id_of xs) → ((nid : ℕ) → has nid ≡ had nid ++ if_listed (list_any (nat_eq nid) messages) folder)
    → OnOk result ((nid : ℕ) → asked nid ≡ true → has nid ≡ had nid ++ if_listed (list_any (names nid) xs) folder)
noted_so (Err e) asked xs messages folder had has are noted = tt
noted_so (Ok x) asked xs messages folder had has are noted = noted_for asked xs messages folder had has are noted

pub noted_there : {X E : Type 0} (result : Result X E) (asked : ℕ → Bool) (xs : List RowParts) (messages : List ℕ) (folder : ℕ) (had has : ℕ → List ℕ)
    → messages ≡ filter asked (map row_id_of xs) → OnOk result ((nid : ℕ) → has nid ≡ had nid ++ if_listed (list_any (nat_eq nid) messages) folder)
    → OnOk result ((nid : ℕ) → asked nid ≡ true → has nid ≡ had nid ++ if_listed (list_any (names nid) xs) folder)
noted_there (Err e) asked xs messages folder had has are noted = tt
noted_there (Ok x) asked xs messages folder had has are noted = noted_for asked xs messages folder had has are noted
