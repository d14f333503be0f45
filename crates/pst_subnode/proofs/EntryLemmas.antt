-- What is known of lists, by their keys: an entry is put in, and one may stand apart.
use Rattle.std.proofs.Common.{◌≡◌, ℕ, ◌+◌, Bool, true, false, cond, List, [], ◌∷◌, length, Option, Some, None, refl, sym, ap, ◌∙◌, arith}
use Rattle.std.specs.List.{AllByRecursion}
use Rattle.std.specs.List.Sorted.{IsStrictlySortedBy}
use Rattle.std.specs.Ordering.{nat_cmp, eq_by_cmp, is_eq, match_ordering, ordering_reverse}
use Rattle.std.specs.declared.cmp.Ordering.{Ordering}
use Rattle.std.specs.declared.cmp.Ordering.TheVariants.{Less, Equal, Greater}
use Rattle.std.specs.Map.{keys_of}
use Rattle.std.specs.BTreeMap.{insert_entry}
use Rattle.std.proofs.lemmas.Cmp.{nat_cmp_total}
use Rattle.std.proofs.lemmas.Map.Lookups.{exact_unsigned}
use Rattle.std.proofs.lemmas.Map.Views.{tells_apart}
use Rattle.pst_subnode.specs.declared.states.Latest.{Latest}
use Rattle.pst_subnode.specs.States.{Entry, entry_at, with_last, is_at_last, state_at_last, IsApart, AreUpTo, AreKept}

-- ---- tests of keys

turned : (x y : ℕ) (r : Ordering) → nat_cmp x y ≡ r → nat_cmp y x ≡ ordering_reverse r
turned x y r e = nat_cmp_total.antisymm y x ∙ ap ordering_reverse e

same_test : (k q : ℕ) → is_eq (nat_cmp q k) ≡ is_eq (nat_cmp k q)
same_test k q = by (nat_cmp k q) refl
  where
    by : (r : Ordering) → nat_cmp k q ≡ r → is_eq (nat_cmp q k) ≡ is_eq r
    by Less e = ap is_eq (turned k q Less e)
    by Equal e = ap is_eq (turned k q Equal e)
    by Greater e = ap is_eq (turned k q Greater e)

same_key : (x y : ℕ) → eq_by_cmp nat_cmp x y ≡ true → x ≡ y
same_key x y e = tells_apart exact_unsigned x y e

itself : (x : ℕ) → eq_by_cmp nat_cmp x x ≡ true
itself x = by (nat_cmp x x) (nat_cmp_total.antisymm x x)
  where
    by : (r : Ordering) → r ≡ ordering_reverse r → is_eq r ≡ true
    by Less e = absurd cc
    by Equal e = refl
    by Greater e = absurd cc

cond_twice : {X : Type 0} (b : Bool) (x y z : X) → cond b x z ≡ cond b x (cond b y z)
cond_twice true x y z = refl
cond_twice false x y z = refl

-- of two tests of which one fails, either may come first
cond_turned : {X : Type 0} (a b : Bool) (x y z : X) → (a ≡ true → b ≡ true → ⊥) → cond a x (cond b y z) ≡ cond b y (cond a x z)
cond_turned true true x y z apart = absurd (apart refl refl)
cond_turned true false x y z apart = refl
cond_turned false true x y z apart = refl
cond_turned false false x y z apart = refl

-- two keys that differ are not both the one that is asked for
not_both : (j k q : ℕ) → eq_by_cmp nat_cmp j k ≡ false → eq_by_cmp nat_cmp j q ≡ true → eq_by_cmp nat_cmp k q ≡ true → ⊥
not_both j k q differ first second =
    let e : j ≡ k = same_key j q first ∙ sym (same_key k q second) in
    let bad : true ≡ false = sym (itself k) ∙ (rw e at differ) in cc

-- ---- an entry is put in

-- what is found then
pub put_at : (es : List Entry) (k s q : ℕ) → entry_at (insert_entry nat_cmp es k s) q ≡ cond (eq_by_cmp nat_cmp k q) (Some s) (entry_at es q)
put_at [] k s q = ap (λ b. cond b (Some s) None) (same_test k q)
put_at (e ∷ es) k s q = by (nat_cmp k e.0) refl (put_at es k s q)
  where
    by : (r : Ordering) → nat_cmp k e.0 ≡ r → entry_at (insert_entry nat_cmp es k s) q ≡ cond (eq_by_cmp nat_cmp k q) (Some s) (entry_at es q)
        → entry_at (match_ordering r ((k, s) ∷ e ∷ es) ((e.0, s) ∷ es) (e ∷ insert_entry nat_cmp es k s)) q ≡ cond (eq_by_cmp nat_cmp k q) (Some s) (entry_at (e ∷ es) q)
    by Less is later = ap (λ b. cond b (Some s) (entry_at (e ∷ es) q)) (same_test k q)
    by Equal is later =
        let test : is_eq (nat_cmp q e.0) ≡ eq_by_cmp nat_cmp k q = ap (λ x. is_eq (nat_cmp q x)) (sym (same_key k e.0 (ap is_eq is))) ∙ same_test k q in
        ap (λ b. cond b (Some s) (entry_at es q)) test ∙ cond_twice (eq_by_cmp nat_cmp k q) (Some s) (Some e.1) (entry_at es q) ∙ ap (λ b. cond (eq_by_cmp nat_cmp k q) (Some s) (cond b (Some e.1) (entry_at es q))) (sym test)
    by Greater is later =
        ap (λ found. cond (is_eq (nat_cmp q e.0)) (Some e.1) found) later
        ∙ cond_turned (is_eq (nat_cmp q e.0)) (eq_by_cmp nat_cmp k q) (Some e.1) (Some s) (entry_at es q) (λ first second. not_both e.0 k q (ap is_eq (turned k e.0 Greater is)) (sym (same_test e.0 q) ∙ first) second)

-- one of which nothing was known makes them more by one
pub put_more : (es : List Entry) (k s : ℕ) → entry_at es k ≡ None → length (insert_entry nat_cmp es k s) ≡ length es + 1
put_more [] k s none = refl
put_more (e ∷ es) k s none = by (nat_cmp k e.0) none (put_more es k s)
  where
    by : (r : Ordering) → cond (is_eq r) (Some e.1) (entry_at es k) ≡ None → (entry_at es k ≡ None → length (insert_entry nat_cmp es k s) ≡ length es + 1)
        → length (match_ordering r ((k, s) ∷ e ∷ es) ((e.0, s) ∷ es) (e ∷ insert_entry nat_cmp es k s)) ≡ length (e ∷ es) + 1
    by Less is later = omega arith
    by Equal is later = absurd cc
    by Greater is later = omega (arith, later is)

all_put : (P : ℕ → Type 0) (es : List Entry) (k s : ℕ) → P k → AllByRecursion P (keys_of es) → AllByRecursion P (keys_of (insert_entry nat_cmp es k s))
all_put P [] k s p all = (p, tt)
all_put P (e ∷ es) k s p all = by (nat_cmp k e.0) (all_put P es k s p all.1)
  where
    by : (r : Ordering) → AllByRecursion P (keys_of (insert_entry nat_cmp es k s)) → AllByRecursion P (keys_of (match_ordering r ((k, s) ∷ e ∷ es) ((e.0, s) ∷ es) (e ∷ insert_entry nat_cmp es k s)))
    by Less later = (p, all)
    by Equal later = all
    by Greater later = (all.0, later)

all_above : (k x : ℕ) (ks : List ℕ) → nat_cmp k x ≡ Less → AllByRecursion (λ y. nat_cmp x y ≡ Less) ks → AllByRecursion (λ y. nat_cmp k y ≡ Less) ks
all_above k x [] less all = tt
all_above k x (y ∷ ys) less all = (nat_cmp_total.trans k x y less all.0, all_above k x ys less all.1)

-- the keys still rise
pub put_rises : (es : List Entry) (k s : ℕ) → IsStrictlySortedBy nat_cmp (keys_of es) → IsStrictlySortedBy nat_cmp (keys_of (insert_entry nat_cmp es k s))
unfolding IsStrictlySortedBy
put_rises [] k s rise = (tt, tt)
put_rises (e ∷ es) k s rise = by (nat_cmp k e.0) refl (put_rises es k s rise.1)
  where
    by : (r : Ordering) → nat_cmp k e.0 ≡ r → IsStrictlySortedBy nat_cmp (keys_of (insert_entry nat_cmp es k s)) → IsStrictlySortedBy nat_cmp (keys_of (match_ordering r ((k, s) ∷ e ∷ es) ((e.0, s) ∷ es) (e ∷ insert_entry nat_cmp es k s)))
    by Less is later = ((is, all_above k e.0 (keys_of es) is rise.0), rise)
    by Equal is later = rise
    by Greater is later = (all_put (λ y. nat_cmp e.0 y ≡ Less) es k s (turned k e.0 Greater is) rise.0, later)

-- ---- one stands apart

pub with_last_rises : (last : Option Latest) (es : List Entry) → IsStrictlySortedBy nat_cmp (keys_of es) → IsStrictlySortedBy nat_cmp (keys_of (with_last last es))
with_last_rises None es rise = rise
with_last_rises (Some last) es rise = put_rises es last.key last.state rise

-- what is known of its key
pub at_last : (last : Option Latest) (es : List Entry) (q state : ℕ) → state_at_last last q ≡ Some state → entry_at (with_last last es) q ≡ Some state
at_last None es q state is = absurd cc
at_last (Some last) es q state is = put_at es last.key last.state q ∙ by (eq_by_cmp nat_cmp last.key q) is
  where
    by : (b : Bool) → cond b (Some last.state) None ≡ Some state → cond b (Some last.state) (entry_at es q) ≡ Some state
    by true found = found
    by false found = absurd cc

-- of another key it tells nothing
pub none_at_last : (last : Option Latest) (es : List Entry) (q : ℕ) → state_at_last last q ≡ None → entry_at (with_last last es) q ≡ entry_at es q
none_at_last None es q none = refl
none_at_last (Some last) es q none = put_at es last.key last.state q ∙ by (eq_by_cmp nat_cmp last.key q) none
  where
    by : (b : Bool) → cond b (Some last.state) None ≡ None → cond b (Some last.state) (entry_at es q) ≡ entry_at es q
    by true found = absurd cc
    by false found = refl

-- of another key the others tell
pub not_at_last : (last : Option Latest) (es : List Entry) (q : ℕ) → is_at_last last q ≡ false → entry_at (with_last last es) q ≡ entry_at es q
not_at_last None es q other = refl
not_at_last (Some last) es q other = put_at es last.key last.state q ∙ ap (λ b. cond b (Some last.state) (entry_at es q)) other

last_more : (last : Latest) (es : List Entry) → IsApart (Some last) es → length (with_last (Some last) es) ≡ length es + 1
last_more last es apart = put_more es last.key last.state (apart last.key (itself last.key))

-- ---- one gets another state

-- the one that stands apart
pub last_put : (last : Option Latest) (es : List Entry) (key state q : ℕ) → is_at_last last key ≡ true → entry_at (with_last (Some (record { key = key; state = state })) es) q ≡ cond (eq_by_cmp nat_cmp key q) (Some state) (entry_at (with_last last es) q)
last_put None es key state q is = absurd cc
last_put (Some last) es key state q is =
    put_at es key state q
    ∙ cond_twice (eq_by_cmp nat_cmp key q) (Some state) (Some last.state) (entry_at es q)
    ∙ ap (λ found. cond (eq_by_cmp nat_cmp key q) (Some state) found) (ap (λ k. cond (eq_by_cmp nat_cmp k q) (Some last.state) (entry_at es q)) (sym (same_key last.key key is)) ∙ sym (put_at es last.key last.state q))

pub last_put_count : (last : Option Latest) (es : List Entry) (key state : ℕ) → is_at_last last key ≡ true → IsApart last es → length (with_last (Some (record { key = key; state = state })) es) ≡ length (with_last last es) + 0
last_put_count None es key state is apart = absurd cc
last_put_count (Some last) es key state is apart = omega (arith, put_more es key state (apart key is), last_more last es apart)

-- one of the others
pub rest_put : (last : Option Latest) (es : List Entry) (key state q : ℕ) → is_at_last last key ≡ false → entry_at (with_last last (insert_entry nat_cmp es key state)) q ≡ cond (eq_by_cmp nat_cmp key q) (Some state) (entry_at (with_last last es) q)
rest_put None es key state q other = put_at es key state q
rest_put (Some last) es key state q other =
    put_at (insert_entry nat_cmp es key state) last.key last.state q
    ∙ ap (λ found. cond (eq_by_cmp nat_cmp last.key q) (Some last.state) found) (put_at es key state q)
    ∙ cond_turned (eq_by_cmp nat_cmp last.key q) (eq_by_cmp nat_cmp key q) (Some last.state) (Some state) (entry_at es q) (λ first second. not_both last.key key q other first second)
    ∙ ap (λ found. cond (eq_by_cmp nat_cmp key q) (Some state) found) (sym (put_at es last.key last.state q))

apart_put : (last : Option Latest) (es : List Entry) (key state : ℕ) → is_at_last last key ≡ false → IsApart last es → IsApart last (insert_entry nat_cmp es key state)
apart_put None es key state other apart q is = absurd cc
apart_put (Some last) es key state other apart q is = put_at es key state q ∙ by (eq_by_cmp nat_cmp key q) refl
  where
    by : (b : Bool) → eq_by_cmp nat_cmp key q ≡ b → cond b (Some state) (entry_at es q) ≡ None
    by true there = absurd (not_both last.key key q other is there)
    by false there = apart q is

pub rest_put_kept : (last : Option Latest) (es fs : List Entry) (key state top new : ℕ) → is_at_last last key ≡ false → AreKept last es top → fs ≡ insert_entry nat_cmp es key state → AreUpTo new fs → AreKept last fs new
rest_put_kept last es fs key state top new other kept are up_to = record { apart = rw are (apart_put last es key state other kept.apart); up_to = up_to }

pub rest_put_count : (last : Option Latest) (es : List Entry) (key state more : ℕ) → is_at_last last key ≡ false → IsApart last es → length (insert_entry nat_cmp es key state) ≡ length es + more → length (with_last last (insert_entry nat_cmp es key state)) ≡ length (with_last last es) + more
rest_put_count None es key state more other apart is = is
rest_put_count (Some last) es key state more other apart is = omega (arith, is, last_more last es apart, last_more last (insert_entry nat_cmp es key state) (apart_put (Some last) es key state other apart))

-- ---- one is removed

-- the one that stands apart
pub last_removed : (last : Option Latest) (es : List Entry) (key q : ℕ) → is_at_last last key ≡ true → IsApart last es → entry_at es q ≡ cond (eq_by_cmp nat_cmp key q) None (entry_at (with_last last es) q)
last_removed None es key q is apart = absurd cc
last_removed (Some last) es key q is apart = by (eq_by_cmp nat_cmp key q) refl
  where
    by : (b : Bool) → eq_by_cmp nat_cmp key q ≡ b → entry_at es q ≡ cond b None (entry_at (with_last (Some last) es) q)
    by true there = rw (← same_key key q there) (apart key is)
    by false there = sym (not_at_last (Some last) es q (rw (same_key last.key key is) there))

-- one of the others
pub rest_removed : (last : Option Latest) (es fs : List Entry) (key q : ℕ) → is_at_last last key ≡ false → entry_at fs q ≡ cond (eq_by_cmp nat_cmp key q) None (entry_at es q) → entry_at (with_last last fs) q ≡ cond (eq_by_cmp nat_cmp key q) None (entry_at (with_last last es) q)
rest_removed None es fs key q other is = is
rest_removed (Some last) es fs key q other is =
    put_at fs last.key last.state q
    ∙ ap (λ found. cond (eq_by_cmp nat_cmp last.key q) (Some last.state) found) is
    ∙ cond_turned (eq_by_cmp nat_cmp last.key q) (eq_by_cmp nat_cmp key q) (Some last.state) None (entry_at es q) (λ first second. not_both last.key key q other first second)
    ∙ ap (λ found. cond (eq_by_cmp nat_cmp key q) None found) (sym (put_at es last.key last.state q))
