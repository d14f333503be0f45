-- Numbers in a list, those of them that pass a test, and how many there are.
use Rattle.std.proofs.Common.{◌≡◌, ℕ, zero, suc, ◌+◌, ◌<◌, ◌≤◌, Bool, true, false, cond, List, [], ◌∷◌, length, Option, Some, None, refl, sym, ap, ◌∙◌, ◌⊎◌, inl, inr, arith}
use Rattle.std.specs.Prelude.{map}
use Rattle.std.specs.List.{Contains, cons_option, filter, filter_map, slice_index_or}
use Rattle.pst_fault.proofs.EachLemmas.{contains_here, contains_later}
use Rattle.pst_btree.specs.Order.{Rises}
use Rattle.pst_reach.specs.declared.reached.Reach.{Reach}

-- ---- a number in a list

pub in_none : {X : Type 0} (x : X) → Contains [] x → ⊥
in_none x w = omega (arith, w.1)

pub in_more : {X : Type 0} (y : X) (rest : List X) (x : X) → Contains (y ∷ rest) x → (y ≡ x) ⊎ Contains rest x
in_more y rest x w = by_place w.0 w.1 w.2
  where
    by_place : (k : ℕ) → k < length (y ∷ rest) → slice_index_or (y ∷ rest) k x ≡ x → (y ≡ x) ⊎ Contains rest x
    by_place zero lt is = inl is
    by_place (suc k) lt is = inr (k, omega (arith, lt), is)

pub at_most_or_more : (m n : ℕ) → (m ≤ n) ⊎ (n < m)
at_most_or_more zero n = inl (omega arith)
at_most_or_more (suc m) zero = inr (omega arith)
at_most_or_more (suc m) (suc n) = elim (at_most_or_more m n) [
  | inl l ↦ inl (omega (arith, l))
  | inr r ↦ inr (omega (arith, r))
]

-- ---- those that pass a test

pub in_filter : (p : ℕ → Bool) (xs : List ℕ) (x : ℕ) → Contains xs x → p x ≡ true → Contains (filter p xs) x
in_filter p [] x w is = absurd (in_none x w)
in_filter p (y ∷ rest) x w is = elim (in_more y rest x w) [
  | inl e ↦ here e
  | inr later ↦ behind (p y) (in_filter p rest x later is)
]
  where
    here : y ≡ x → Contains (filter p (y ∷ rest)) x
    here e = rw (e, is) (contains_here x (filter p rest))

    behind : (b : Bool) → Contains (filter p rest) x → Contains (cond b (y ∷ filter p rest) (filter p rest)) x
    behind true w = contains_later y x (filter p rest) w
    behind false w = w

pub of_filter : (p : ℕ → Bool) (xs : List ℕ) (x : ℕ) → Contains (filter p xs) x → Contains xs x × (p x ≡ true)
of_filter p [] x w = absurd (in_none x w)
of_filter p (y ∷ rest) x w = by_test (p y) refl (λ v. of_filter p rest x v) w
  where
    by_test : (b : Bool) → p y ≡ b → (Contains (filter p rest) x → Contains rest x × (p x ≡ true)) → Contains (cond b (y ∷ filter p rest) (filter p rest)) x → Contains (y ∷ rest) x × (p x ≡ true)
    by_test true e more v = elim (in_more y (filter p rest) x v) [
      | inl same ↦ rw (← same) (contains_here y rest, e)
      | inr later ↦ let both = more later in (contains_later y x rest both.0, both.1)
    ]
    by_test false e more v = let both = more v in (contains_later y x rest both.0, both.1)

lower : (a b : ℕ) (xs : List ℕ) → a ≤ b → Rises b None xs → Rises a None xs
lower a b [] h r = tt
lower a b (x ∷ xs) h r = (omega (arith, h, r.0), r.1, r.2)

pub filter_rises : (p : ℕ → Bool) (low : ℕ) (xs : List ℕ) → Rises low None xs → Rises low None (filter p xs)
filter_rises p low [] rises = tt
filter_rises p low (x ∷ xs) rises = by_test (p x) (filter_rises p (x + 1) xs rises.2)
  where
    by_test : (b : Bool) → Rises (x + 1) None (filter p xs) → Rises low None (cond b (x ∷ filter p xs) (filter p xs))
    by_test true later = (rises.0, refl, later)
    by_test false later = lower low (x + 1) (filter p xs) (omega (arith, rises.0)) later

pub least_first : (low : ℕ) (xs : List ℕ) (x : ℕ) → Rises low None xs → Contains xs x → low ≤ x
least_first low [] x rises w = absurd (in_none x w)
least_first low (y ∷ rest) x rises w = elim (in_more y rest x w) [
  | inl e ↦ omega (arith, rises.0, e)
  | inr later ↦ let more = least_first (y + 1) rest x rises.2 later in omega (arith, rises.0, more)
]

-- ---- what a function gives of them

pub in_map : (h : ℕ → Option Reach) (xs : List ℕ) (x : ℕ) (r : Reach) → Contains xs x → h x ≡ Some r → Contains (filter_map h xs) r
in_map h [] x r w is = absurd (in_none x w)
in_map h (y ∷ rest) x r w is = elim (in_more y rest x w) [
  | inl e ↦ here e
  | inr later ↦ behind (h y) (in_map h rest x r later is)
]
  where
    here : y ≡ x → Contains (filter_map h (y ∷ rest)) r
    here e = rw (e, is) (contains_here r (filter_map h rest))

    behind : (o : Option Reach) → Contains (filter_map h rest) r → Contains (cons_option o (filter_map h rest)) r
    behind None w = w
    behind (Some s) w = contains_later s r (filter_map h rest) w

pub of_map : (h : ℕ → Option Reach) (xs : List ℕ) (r : Reach) → Contains (filter_map h xs) r → (x : ℕ) × (h x ≡ Some r)
of_map h [] r w = absurd (in_none r w)
of_map h (y ∷ rest) r w = by_case (h y) refl (λ v. of_map h rest r v) w
  where
    by_case : (o : Option Reach) → h y ≡ o → (Contains (filter_map h rest) r → (x : ℕ) × (h x ≡ Some r)) → Contains (cons_option o (filter_map h rest)) r → (x : ℕ) × (h x ≡ Some r)
    by_case None e more v = more v
    by_case (Some s) e more v = elim (in_more s (filter_map h rest) r v) [
      | inl same ↦ (y, e ∙ ap (λ (z : Reach). Some z) same)
      | inr later ↦ more later
    ]

abbrev nids : List Reach → List ℕ
nids rs = map (λ (r : Reach). r.nid) rs

pub map_rises : (h : ℕ → Option Reach) → ((x : ℕ) (r : Reach) → h x ≡ Some r → r.nid ≡ x) → (low : ℕ) (xs : List ℕ) → Rises low None xs → Rises low None (nids (filter_map h xs))
map_rises h own low [] rises = tt
map_rises h own low (x ∷ xs) rises = by_case (h x) refl (map_rises h own (x + 1) xs rises.2)
  where
    by_case : (o : Option Reach) → h x ≡ o → Rises (x + 1) None (nids (filter_map h xs)) → Rises low None (nids (cons_option o (filter_map h xs)))
    by_case None e later = lower low (x + 1) (nids (filter_map h xs)) (omega (arith, rises.0)) later
    by_case (Some r) e later = let same = own x r e in (omega (arith, rises.0, same), refl, rw same later)

-- ---- how many pass a test

abbrev pub how_many : (ℕ → Bool) → List ℕ → ℕ
how_many p [] = 0
how_many p (x ∷ xs) = cond (p x) 1 0 + how_many p xs

at_most : (b : Bool) → cond b 1 0 ≤ 1
at_most true = omega arith
at_most false = omega arith

pub not_more : (p : ℕ → Bool) (xs : List ℕ) → how_many p xs ≤ length xs
not_more p [] = omega arith
not_more p (x ∷ xs) = let one = at_most (p x) in let rest = not_more p xs in omega (arith, one, rest)

pub one_passes : (p : ℕ → Bool) (xs : List ℕ) (x : ℕ) → Contains xs x → p x ≡ true → 1 ≤ how_many p xs
one_passes p [] x w is = absurd (in_none x w)
one_passes p (y ∷ rest) x w is = elim (in_more y rest x w) [
  | inl e ↦ here (rw e is)
  | inr later ↦ let more = one_passes p rest x later is in omega (arith, more)
]
  where
    here : p y ≡ true → 1 ≤ cond (p y) 1 0 + how_many p rest
    here e = rw e (omega arith)

as_many : (p q : ℕ → Bool) → ((x : ℕ) → p x ≡ true → q x ≡ true) → (x : ℕ) → cond (p x) 1 0 ≤ cond (q x) 1 0
as_many p q more x = by_test (p x) refl (q x) refl
  where
    by_test : (a : Bool) → p x ≡ a → (b : Bool) → q x ≡ b → cond a 1 0 ≤ cond b 1 0
    by_test false e b f = omega arith
    by_test true e true f = omega arith
    by_test true e false f = let bad : true ≡ false = sym (more x e) ∙ f in cc

pub no_fewer : (p q : ℕ → Bool) → ((x : ℕ) → p x ≡ true → q x ≡ true) → (xs : List ℕ) → how_many p xs ≤ how_many q xs
no_fewer p q more [] = omega arith
no_fewer p q more (x ∷ xs) = let one = as_many p q more x in let rest = no_fewer p q more xs in omega (arith, one, rest)

pub one_more : (p q : ℕ → Bool) (xs : List ℕ) (x : ℕ) → ((y : ℕ) → p y ≡ true → q y ≡ true) → Contains xs x → p x ≡ false → q x ≡ true → how_many p xs + 1 ≤ how_many q xs
one_more p q [] x more w fails passes = absurd (in_none x w)
one_more p q (y ∷ rest) x more w fails passes = elim (in_more y rest x w) [
  | inl e ↦ here (rw e fails) (rw e passes)
  | inr later ↦ let one = as_many p q more y in let others = one_more p q rest x more later fails passes in omega (arith, one, others)
]
  where
    here : p y ≡ false → q y ≡ true → how_many p (y ∷ rest) + 1 ≤ how_many q (y ∷ rest)
    here e f = let others = no_fewer p q more rest in rw (e, f) (omega (arith, others))
