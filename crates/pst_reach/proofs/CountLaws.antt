-- How many folders are walked from: each that is reached, once.
use Rattle.std.proofs.Common.{◌≡◌, ℕ, zero, suc, ◌+◌, ◌<◌, Bool, true, false, cond, List, [], ◌∷◌, length, Option, Some, None, refl, sym, ap, ◌∙◌, inl, inr, arith}
use Rattle.std.specs.Prelude.{nat_eq, is_some, is_none, ◌&&◌, option_map}
use Rattle.std.specs.List.{Contains, cons_option, filter, filter_map}
use Rattle.std.specs.Option.{option_or}
use Rattle.pst_fault.proofs.GeneralLemmas.{number_of_test, test_of_number}
use Rattle.pst_page.specs.declared.entry.NodeEntry.{NodeEntry}
use Rattle.pst_block.specs.Table.{Table}
use Rattle.pst_btree.specs.Entries.{first_with}
use Rattle.pst_btree.specs.Order.{Rises}
use Rattle.pst_store.specs.pst_msg.pst_mail.declared.nid.TheConstants.{ROOT, FOLDER}
use Rattle.pst_store.specs.pst_msg.Nid.{is_type}
use Rattle.pst_reach.specs.declared.reached.Reach.{Reach}
use Rattle.pst_reach.specs.Reach.{folder_ids}
use Rattle.pst_reach.specs.Levels.{FolderStep, step_nid, steps_from, reached_by, root_reach, is_new, found, level, reaches_of, folders_at, folders_below, folders_in}
use Rattle.pst_reach.proofs.LevelLemmas.{is_folder_of, AllNamed, no_more}
use Rattle.pst_reach.proofs.ListLemmas.{in_none, in_more, least_first, how_many, not_more}
use Rattle.pst_reach.proofs.WayLaws.{in_ids, is_found, as_many, is_own}

-- ---- counts of those that pass two tests

abbrev both : (ℕ → Bool) → (ℕ → Bool) → ℕ → Bool
both p q x = p x && q x

among : (p q : ℕ → Bool) (xs : List ℕ) → length (filter p (filter q xs)) ≡ how_many (both p q) xs
among p q [] = refl
among p q (x ∷ xs) = by_test (q x) (p x) (among p q xs)
  where
    by_test : (b a : Bool) → length (filter p (filter q xs)) ≡ how_many (both p q) xs → length (filter p (cond b (x ∷ filter q xs) (filter q xs))) ≡ cond (p x && b) 1 0 + how_many (both p q) xs
    by_test b a e = inner b (p x) refl
      where
        inner : (b v : Bool) → p x ≡ v → length (filter p (cond b (x ∷ filter q xs) (filter q xs))) ≡ cond (p x && b) 1 0 + how_many (both p q) xs
        inner true true f = rw f (omega (arith, e))
        inner true false f = rw f (omega (arith, e))
        inner false true f = rw f (omega (arith, e))
        inner false false f = rw f (omega (arith, e))

same_count : (p q : ℕ → Bool) → ((x : ℕ) → p x ≡ q x) → (xs : List ℕ) → how_many p xs ≡ how_many q xs
same_count p q same [] = refl
same_count p q same (x ∷ xs) = rw (same x, same_count p q same xs) refl

sum_of : (p q r : ℕ → Bool) → ((x : ℕ) → cond (p x) 1 0 + cond (q x) 1 0 ≡ cond (r x) 1 0) → (xs : List ℕ) → how_many p xs + how_many q xs ≡ how_many r xs
sum_of p q r sum [] = refl
sum_of p q r sum (x ∷ xs) = let one = sum x in let rest = sum_of p q r sum xs in omega (arith, one, rest)

-- a number that rises past another is not it
none_behind : (x low : ℕ) (xs : List ℕ) → x < low → Rises low None xs → how_many (λ y. nat_eq x y) xs ≡ 0
none_behind x low [] lt rises = refl
none_behind x low (y ∷ xs) lt rises = by_test (nat_eq x y) refl (none_behind x (y + 1) xs (omega (arith, lt, rises.0)) rises.2)
  where
    by_test : (v : Bool) → nat_eq x y ≡ v → how_many (λ z. nat_eq x z) xs ≡ 0 → cond (nat_eq x y) 1 0 + how_many (λ z. nat_eq x z) xs ≡ 0
    by_test true e later = let same = number_of_test x y e in absurd (omega (arith, lt, rises.0, same))
    by_test false e later = rw e (omega (arith, later))

once : (x low : ℕ) (xs : List ℕ) → Rises low None xs → Contains xs x → how_many (λ y. nat_eq x y) xs ≡ 1
once x low [] rises w = absurd (in_none x w)
once x low (y ∷ xs) rises w = elim (in_more y xs x w) [
  | inl e ↦ here e
  | inr later ↦ behind (nat_eq x y) refl later (once x (y + 1) xs rises.2 later)
]
  where
    here : y ≡ x → how_many (λ z. nat_eq x z) (y ∷ xs) ≡ 1
    here e = let none = none_behind x (y + 1) xs (omega (arith, e)) rises.2 in rw (test_of_number x y (sym e), none) refl

    behind : (v : Bool) → nat_eq x y ≡ v → Contains xs x → how_many (λ z. nat_eq x z) xs ≡ 1 → cond (nat_eq x y) 1 0 + how_many (λ z. nat_eq x z) xs ≡ 1
    behind true e later one = let same = number_of_test x y e in let more = least_first (y + 1) xs x rises.2 later in absurd (omega (arith, same, more))
    behind false e later one = rw e (omega (arith, one))

-- ---- the folders at all depths

module _ (t : Table) (nodes : List NodeEntry) (named : AllNamed t nodes) (rises : Rises 0 None (folder_ids nodes)) (root_there : is_folder_of nodes ROOT ≡ true) where
  abbrev ids : List ℕ
  ids = folder_ids nodes

  abbrev found_at : ℕ → ℕ → Bool
  found_at n nid = is_some (found t nodes n nid)

  abbrev walked_at : ℕ → ℕ → Bool
  walked_at n nid = is_type FOLDER nid && found_at n nid

  root_only : (nid : ℕ) → nat_eq ROOT nid ≡ walked_at 0 nid
  unfolding found
  root_only nid = by_test (nat_eq ROOT nid) refl
    where
      none : (b : Bool) → false ≡ (b && false)
      none true = refl
      none false = refl

      by_test : (v : Bool) → nat_eq ROOT nid ≡ v → nat_eq ROOT nid ≡ (is_type FOLDER nid && is_some (cond (nat_eq ROOT nid) (Some root_reach) None))
      by_test true e = rw (e, ← number_of_test ROOT nid e) refl
      by_test false e = rw e (none (is_type FOLDER nid))

  one_or_other : (n nid : ℕ) → cond (walked_at n nid) 1 0 + cond (is_type FOLDER nid && is_new (found t nodes n) (steps_from t nodes (level t nodes n)) nid) 1 0 ≡ cond (walked_at (suc n) nid) 1 0
  unfolding found
  one_or_other n nid = by_case (is_type FOLDER nid) (found t nodes n nid) (first_with step_nid nid (steps_from t nodes (level t nodes n)))
    where
      by_case : (b : Bool) (o : Option Reach) (s : Option FolderStep) → cond (b && is_some o) 1 0 + cond (b && (is_none o && is_some s)) 1 0 ≡ cond (b && is_some (option_or o (option_map (reached_by (suc n)) s))) 1 0
      by_case false o s = refl
      by_case true (Some x) s = refl
      by_case true None (Some s) = refl
      by_case true None None = refl

  pub so_many : (n : ℕ) → folders_below t nodes n + folders_at (level t nodes n) ≡ how_many (walked_at n) ids
  unfolding level
  so_many zero =
      let one = once ROOT 0 ids rises (in_ids t nodes named rises root_there ROOT root_there) in
      sym one ∙ same_count (λ nid. nat_eq ROOT nid) (walked_at 0) root_only ids
  so_many (suc n) =
      let p : ℕ → Bool = is_new (found t nodes n) (steps_from t nodes (level t nodes n)) in
      rw (so_many n, among (is_type FOLDER) p ids) (sum_of (walked_at n) (both (is_type FOLDER) p) (walked_at (suc n)) (one_or_other n) ids)

  -- ---- those that are reached

  reached_count : (h : ℕ → Option Reach) → ((nid : ℕ) (x : Reach) → h nid ≡ Some x → x.nid ≡ nid) → (xs : List ℕ) → folders_in (filter_map h xs) ≡ how_many (λ nid. is_type FOLDER nid && is_some (h nid)) xs
  reached_count h own [] = refl
  reached_count h own (x ∷ xs) = by_case (h x) refl (reached_count h own xs)
    where
      none : (b : Bool) → ◌≡◌ {A = ℕ} (cond (b && false) 1 0) 0
      none true = refl
      none false = refl

      same_one : (b : Bool) → (b && true) ≡ b
      same_one true = refl
      same_one false = refl

      by_kind : (r : Reach) (v : Bool) → is_type FOLDER r.nid ≡ v → folders_in (r ∷ filter_map h xs) ≡ cond v 1 0 + folders_in (filter_map h xs)
      by_kind r true e = rw e (omega arith)
      by_kind r false e = rw e (omega arith)

      by_case : (o : Option Reach) → h x ≡ o → folders_in (filter_map h xs) ≡ how_many (λ nid. is_type FOLDER nid && is_some (h nid)) xs → folders_in (cons_option o (filter_map h xs)) ≡ cond (is_type FOLDER x && is_some (h x)) 1 0 + how_many (λ nid. is_type FOLDER nid && is_some (h nid)) xs
      by_case None e so_far = rw (e, none (is_type FOLDER x)) (omega (arith, so_far))
      by_case (Some r) e so_far = rw (e, same_one (is_type FOLDER x)) (by_kind r (is_type FOLDER x) (ap (is_type FOLDER) (own x r e)) ∙ ap (λ k. cond (is_type FOLDER x) 1 0 + k) so_far)

  abbrev all : ℕ
  all = length ids

  -- at the last depth there is no folder
  last_is_empty : level t nodes all ≡ []
  last_is_empty = by_list (level t nodes all) refl
    where
      by_list : (xs : List ℕ) → level t nodes all ≡ xs → xs ≡ []
      by_list [] e = refl
      by_list (x ∷ xs) e =
          let many = as_many t nodes named rises root_there all x (rw e (0, omega arith, refl)) in
          let few = not_more (is_found t nodes named rises root_there all) ids in
          absurd (omega (arith, many, few))

  -- behind a depth without folders all were walked from
  pub all_walked : (n k : ℕ) → n + k ≡ all → level t nodes n ≡ [] → folders_below t nodes n ≡ folders_in (reaches_of t nodes)
  unfolding reaches_of
  all_walked n k sum none =
      let here : folders_below t nodes n + folders_at (level t nodes n) ≡ how_many (walked_at n) ids = so_many n in
      let now : folders_below t nodes n + 0 ≡ how_many (walked_at n) ids = (rw none at here) in
      let later : (nid : ℕ) → found t nodes n nid ≡ found t nodes all nid = λ nid. sym ((no_more t nodes n k none).1 nid) ∙ ap (λ d. found t nodes d nid) sum in
      let below : folders_below t nodes n ≡ how_many (walked_at n) ids = omega (arith, now) in
      below ∙ same_count (walked_at n) (walked_at all) (λ nid. ap (λ o. is_type FOLDER nid && is_some o) (later nid)) ids
      ∙ sym (reached_count (found t nodes all) (is_own t nodes named rises root_there all) ids)

  pub all_walked_at_last : folders_below t nodes all ≡ folders_in (reaches_of t nodes)
  all_walked_at_last = all_walked all 0 (omega arith) last_is_empty
