-- What is known of identifiers by their numbers is true.
use Rattle.std.proofs.Common.{◌≡◌, ℕ, ◌+◌, Bool, true, false, List, [], ◌∷◌, ◌++◌, map, Option, Some, None, refl, sym, ap, ◌∙◌}
use Rattle.std.specs.Global.{Vec}
use Rattle.std.specs.Prelude.{cond, not, nat_eq}
use Rattle.std.specs.List.{list_any}
use Rattle.std.specs.Ordering.{nat_cmp, eq_by_cmp}
use Rattle.std.specs.BTreeMap.{BTreeMap, get, is_at, IsEmpty, IsUnchanged}
use Rattle.std.specs.Cmp.{unsigned_tied}
use Rattle.std.proofs.lemmas.Bool.{ne_eqb, and_parts, or_parts, not-true}
use Rattle.std.proofs.lemmas.List.{map-append}
use Rattle.std.proofs.lemmas.Map.Lookups.{exact_unsigned}
use Rattle.std.proofs.lemmas.Map.Views.{tells_apart}
use Rattle.pst_bytes.specs.declared.Image.{Image}
use Rattle.pst_bytes.specs.Image.{bytes_of}
use Rattle.pst_fault.specs.First.{join_below}
use Rattle.pst_fault.proofs.FirstLemmas.{join_more}
use Rattle.pst_fault.proofs.GeneralLemmas.{test_of_number, true_false}
use Rattle.pst_page.specs.declared.entry.BlockEntry.{BlockEntry}
use Rattle.pst_block.specs.Block.{bid_key}
use Rattle.pst_block.specs.Table.{Table, entry_of}
use Rattle.pst_datatree.proofs.KeyLemmas.{entry_same}
use Rattle.pst_subnode.specs.declared.sub.Sub.{Sub}
use Rattle.pst_subnode.specs.declared.numbers.Numbers.{Numbers}
use Rattle.pst_subnode.specs.declared.ranges.Ranges.{Ranges}
use Rattle.pst_subnode.specs.declared.stamps.Stamps.{Stamps}
use Rattle.pst_subnode.specs.Body.{leaf_bid_in, sub_in, sub_at, subs_in}
use Rattle.pst_subnode.specs.List.{sub_nid, subs_at, slblock_subs, leaf_subs, are_distinct}
use Rattle.pst_subnode.specs.ListBlock.{HasEntries}
use Rattle.pst_subnode.specs.Numbers.{nid_number, numbers_kept, HaveNumbers, KeepsNumbers, AreNumbersTrue, AreMetOnce, AreSubsMet}
use Rattle.pst_subnode.specs.Ranges.{range_of, AreRangesTrue}
use Rattle.pst_subnode.proofs.StampLemmas.{none_met}

-- ---- numbers that stay

each_kept : (f g : ℕ → Option ℕ) → ((x k : ℕ) → f x ≡ Some k → g x ≡ Some k) → (xs ks : List ℕ) → map f xs ≡ map Some ks → map g xs ≡ map Some ks
each_kept f g stay [] [] are = refl
each_kept f g stay [] (k ∷ ks) are = cc
each_kept f g stay (x ∷ xs) [] are = cc
each_kept f g stay (x ∷ xs) (k ∷ ks) are =
    let first : f x ≡ Some k = cc in
    let others : map f xs ≡ map Some ks = cc in
    rw (stay x k first, each_kept f g stay xs ks others) refl

pub keeps_none : (n : Numbers) → KeepsNumbers n n
keeps_none n = record { stay = λ nid number known. known; leaves = refl }

pub keeps_more : (a b c : Numbers) → KeepsNumbers a b → KeepsNumbers b c → KeepsNumbers a c
keeps_more a b c one two = record { stay = λ nid number known. two.stay nid number (one.stay nid number known); leaves = two.leaves ∙ one.leaves }

-- no identifier has another number
pub keeps_same : (old new : Numbers) → IsUnchanged old.numbers new.numbers → new.leaves ≡ old.leaves → KeepsNumbers old new
unfolding nid_number
keeps_same old new same leaves = record { stay = λ nid number known. rw same known; leaves = leaves }

-- an identifier that had no number has one
pub keeps_put : (old new : Numbers) (nid number : ℕ) → get nat_cmp old.numbers nid ≡ None → ((key : ℕ) → get nat_cmp new.numbers key ≡ cond (eq_by_cmp nat_cmp nid key) (Some number) (get nat_cmp old.numbers key)) → new.leaves ≡ old.leaves → KeepsNumbers old new
unfolding nid_number
keeps_put old new nid number none put leaves = record { stay = λ q k known. put q ∙ by_test q k (eq_by_cmp nat_cmp nid q) refl known; leaves = leaves }
  where
    by_test : (q k : ℕ) (v : Bool) → eq_by_cmp nat_cmp nid q ≡ v → get nat_cmp old.numbers q ≡ Some k → cond v (Some number) (get nat_cmp old.numbers q) ≡ Some k
    by_test q k false here known = known
    by_test q k true here known =
        let same : nid ≡ q = tells_apart exact_unsigned nid q here in
        let bad : None ≡ Some k = sym none ∙ rw (← same) at known in
        cc

pub number_put : (n : Numbers) (old : BTreeMap ℕ ℕ) (nid number : ℕ) → ((key : ℕ) → get nat_cmp n.numbers key ≡ cond (is_at (nat_cmp nid) key) (Some number) (get nat_cmp old key)) → nid_number n nid ≡ Some number
unfolding nid_number
number_put n old nid number put = put nid ∙ ap (λ b. cond b (Some number) (get nat_cmp old nid)) (unsigned_tied nid nid ∙ test_of_number nid nid refl)

-- the numbers of identifiers are as they were
have_same : (old new : Numbers) (subs : List Sub) (numbers : List ℕ) → new.numbers ≡ old.numbers → HaveNumbers old subs numbers → HaveNumbers new subs numbers
unfolding nid_number
have_same old new subs numbers same have = record { each = each_kept (nid_number old) (nid_number new) (λ nid number known. rw same known) (map sub_nid subs) numbers have.each }

-- ---- numbers of entries

pub no_entries : (n : Numbers) → HaveNumbers n [] []
no_entries n = record { each = refl }

joined : (n : Numbers) (xs ys : List Sub) (ks js : List ℕ) → HaveNumbers n xs ks → HaveNumbers n ys js → HaveNumbers n (xs ++ ys) (ks ++ js)
joined n xs ys ks js one two = record {
  each = rw (map-append sub_nid xs ys, map-append (nid_number n) (map sub_nid xs) (map sub_nid ys), one.each, two.each) (sym (map-append Some ks js));
}

-- one entry more
pub entry_numbered : (old new : Numbers) (body : List ℕ) (i nid number : ℕ) (numbers : List ℕ) → nid ≡ (sub_in body i).nid → nid_number new nid ≡ Some number → KeepsNumbers old new → HaveNumbers old (join_below (sub_at body) i) numbers → HaveNumbers new (join_below (sub_at body) (i + 1)) (numbers ++ number ∷ [])
entry_numbered old new body i nid number numbers is known keeps have =
    let before : HaveNumbers new (join_below (sub_at body) i) numbers = record { each = each_kept (nid_number old) (nid_number new) keeps.stay (map sub_nid (join_below (sub_at body) i)) numbers have.each } in
    let one : HaveNumbers new (sub_at body i) (number ∷ []) = record { each = rw (← is, known) refl } in
    rw (join_more (sub_at body) i) (joined new (join_below (sub_at body) i) (sub_at body i) numbers (number ∷ []) before one)

-- the entries of an SLBLOCK
pub leaf_have : (t : Table) (n : Numbers) (bid : ℕ) (e : BlockEntry) (b : Image) (numbers : List ℕ) → entry_of t bid ≡ Some e → HasEntries t e b → HaveNumbers n (subs_in (bytes_of b)) numbers → HaveNumbers n (subs_at (slblock_subs t) (entry_of t bid)) numbers
unfolding slblock_subs
leaf_have t n bid e b numbers named w have = rw (named, w.is, ← w.bytes) have

-- ---- what is known

pub no_numbers : (t : Table) (n : Numbers) → IsEmpty n.leaves → AreNumbersTrue t n
unfolding numbers_kept AreNumbersTrue
no_numbers t n empty = λ bid numbers known. let bad : None ≡ Some numbers = (rw empty at known) in cc

-- a new identifier has a number
pub numbers_keep : (t : Table) (old new : Numbers) → KeepsNumbers old new → AreNumbersTrue t old → AreNumbersTrue t new
unfolding numbers_kept AreNumbersTrue
numbers_keep t old new keeps are = λ bid numbers known.
    record { each = each_kept (nid_number old) (nid_number new) keeps.stay (map sub_nid (subs_at (slblock_subs t) (entry_of t bid))) numbers.items (are bid numbers (rw keeps.leaves at known)).each }

-- nothing is put in
pub numbers_same : (t : Table) (old new : Numbers) → new.numbers ≡ old.numbers → IsUnchanged old.leaves new.leaves → AreNumbersTrue t old → AreNumbersTrue t new
unfolding numbers_kept AreNumbersTrue
numbers_same t old new others same are = λ bid numbers known. have_same old new _ _ others (are bid numbers (rw same at known))

-- the numbers of an SLBLOCK are put in
pub numbers_put : (t : Table) (old new : Numbers) (bid : ℕ) (numbers : Vec ℕ) → new.numbers ≡ old.numbers → ((key : ℕ) → get nat_cmp new.leaves key ≡ cond (eq_by_cmp nat_cmp (bid_key bid) key) (Some numbers) (get nat_cmp old.leaves key)) → HaveNumbers old (subs_at (slblock_subs t) (entry_of t bid)) numbers.items → AreNumbersTrue t old → AreNumbersTrue t new
unfolding numbers_kept AreNumbersTrue
numbers_put t old new bid numbers others put have are = λ q kept known. by_test q kept (eq_by_cmp nat_cmp (bid_key bid) (bid_key q)) refl (sym (put (bid_key q)) ∙ known)
  where
    by_test : (q : ℕ) (kept : Vec ℕ) (v : Bool) → eq_by_cmp nat_cmp (bid_key bid) (bid_key q) ≡ v → cond v (Some numbers) (get nat_cmp old.leaves (bid_key q)) ≡ Some kept → HaveNumbers new (subs_at (slblock_subs t) (entry_of t q)) kept.items
    by_test q kept true here known =
        let same : numbers ≡ kept = cc in
        let entry : entry_of t bid ≡ entry_of t q = entry_same t bid q (tells_apart exact_unsigned (bid_key bid) (bid_key q) here) in
        rw (← same, ← entry) (have_same old new _ _ others have)
    by_test q kept false here known = have_same old new _ _ others (are q kept known)

-- beside the ranges
pub with_numbers : (t : Table) (r : Ranges) (n : Numbers) (s : Stamps) → AreRangesTrue t r → AreNumbersTrue t n → AreRangesTrue t (record { ranges = r.ranges; numbers = n; stamps = s })
unfolding range_of AreRangesTrue
with_numbers t r n s are numbers = (are.0, numbers)

-- ---- identifiers whose numbers are distinct

none_numbered : (f : ℕ → Option ℕ) (x k : ℕ) (xs ks : List ℕ) → f x ≡ Some k → map f xs ≡ map Some ks → list_any (nat_eq k) ks ≡ false → list_any (nat_eq x) xs ≡ false
none_numbered f x k [] ks is are none = refl
none_numbered f x k (y ∷ ys) [] is are none = cc
none_numbered f x k (y ∷ ys) (j ∷ js) is are none =
    let first : f y ≡ Some j = cc in
    let others : map f ys ≡ map Some js = cc in
    let p = or_parts (nat_eq k j) (list_any (nat_eq k) js) none in
    let other : x ≡ y → ⊥ = λ same. (let one : k ≡ j = cc in true_false (nat_eq k j) (test_of_number k j one) p.0) in
    rw (ne_eqb x y other, none_numbered f x k ys js is others p.1) refl

by_numbers : (f : ℕ → Option ℕ) (xs ks : List ℕ) → map f xs ≡ map Some ks → are_distinct ks ≡ true → are_distinct xs ≡ true
unfolding are_distinct
by_numbers f [] ks have are = refl
by_numbers f (x ∷ xs) [] have are = cc
by_numbers f (x ∷ xs) (k ∷ ks) have are =
    let first : f x ≡ Some k = cc in
    let others : map f xs ≡ map Some ks = cc in
    let p = and_parts (not (list_any (nat_eq k) ks)) (are_distinct ks) are in
    rw (none_numbered f x k xs ks first others (not-true _ p.0), by_numbers f xs ks others p.1) refl

-- ---- SLBLOCK after SLBLOCK

pub no_leaves : (n : Numbers) (s : Stamps) → AreSubsMet n s []
no_leaves n s = record { numbers = []; have = no_entries n; met = none_met s }

pub leaf_met : (t : Table) (n : Numbers) (s new : Stamps) (body : List ℕ) (i bid : ℕ) (kept : Vec ℕ) → bid ≡ leaf_bid_in body i → numbers_kept n bid ≡ Some kept → ((before : List ℕ) → AreMetOnce s before → AreMetOnce new (before ++ kept.items)) → AreNumbersTrue t n → AreSubsMet n s (join_below (leaf_subs t body) i) → AreSubsMet n new (join_below (leaf_subs t body) (i + 1))
unfolding leaf_subs AreNumbersTrue
leaf_met t n s new body i bid kept named is meets are met = record {
  numbers = met.numbers ++ kept.items;
  have = rw (join_more (leaf_subs t body) i) (joined n (join_below (leaf_subs t body) i) (leaf_subs t body i) met.numbers kept.items met.have (rw named at (are bid kept is)));
  met = meets met.numbers met.met;
}

pub met_distinct : (n : Numbers) (s : Stamps) (subs : List Sub) → AreSubsMet n s subs → are_distinct (map sub_nid subs) ≡ true
met_distinct n s subs met = by_numbers (nid_number n) (map sub_nid subs) met.numbers met.have.each met.met.once
