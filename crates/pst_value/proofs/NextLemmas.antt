-- The next of several values is the one with its number.
use Rattle.std.proofs.Common.{◌≡◌, ℕ, ◌-◌, ◌<◌, ◌≤◌, true, false, List, [], ◌∷◌, Option, Some, None, arith, refl, ap, ◌∙◌, inl, inr}
use Rattle.std.specs.Prelude.{IfSome, nat_lt, option_map}
use Rattle.std.proofs.lemmas.Bool.{cases_lt}
use Rattle.std.proofs.lemmas.Bool.Decides.{nat_tests}
use Rattle.pst_datatree.specs.declared.value_view.Value.{Value}
use Rattle.pst_datatree.specs.Shown.{bytes_in}
use Rattle.pst_value.specs.declared.elements_view.Elements.{Elements}
use Rattle.pst_value.specs.Elements.{elements_left, elements_value, elements_type, element_next, IsElement, TakesElement}
use Rattle.pst_value.specs.Multi.{element_count, element_bytes, elements_behind, elements_of, element_of}
use Rattle.pst_value.proofs.ElementLemmas.{behind_none, behind_next}

-- ---- the value with a number, by how many there are

none_there : (t : ℕ) (bytes : List ℕ) (n count : ℕ) → element_count t bytes ≡ Some count → count ≤ n → None ≡ element_of t bytes n
none_there t bytes n count is le = let no : nat_lt n count ≡ false = grind (arith, nat_tests) in rw (is, no) refl

one_there : (t : ℕ) (bytes : List ℕ) (n count : ℕ) → element_count t bytes ≡ Some count → n < count → Some (element_bytes t bytes n) ≡ element_of t bytes n
one_there t bytes n count is lt = let yes : nat_lt n count ≡ true = grind (arith, nat_tests) in rw (is, yes) refl

pub none_of : (t : ℕ) (bytes : List ℕ) (n : ℕ) → None ≡ elements_of t bytes → None ≡ element_of t bytes n
unfolding elements_of
none_of t bytes n e = by_count (element_count t bytes) refl e
  where
    by_count : (o : Option ℕ) → element_count t bytes ≡ o → None ≡ option_map (elements_behind t bytes 0) o → None ≡ element_of t bytes n
    by_count None is h = rw is refl
    by_count (Some count) is h = absurd cc

-- ---- what an iterator has left

left_is : (e : Elements) (all : Value) (t n : ℕ) → elements_value e ≡ all → elements_type e ≡ t → element_next e ≡ n → elements_left e ≡ elements_behind t (bytes_in all) n (e.count - n)
left_is e all t n v k x = rw (← v, ← k, ← x) refl

count_is : (e : Elements) (all : Value) (t : ℕ) → elements_value e ≡ all → elements_type e ≡ t → element_count t (bytes_in all) ≡ Some e.count
count_is e all t v k = rw (← v, ← k) e.counted

-- nothing is left behind all of them
pub none_left : (e : Elements) (all : Value) (t i n : ℕ) → elements_left e ≡ [] → elements_value e ≡ all → elements_type e ≡ t → element_next e ≡ i → i ≤ n → None ≡ element_of t (bytes_in all) n
none_left e all t i n none v k x le =
    let left = left_is e all t i v k x in
    elim (cases_lt i e.count) [
      | inl lt ↦ absurd (let more = behind_next t (bytes_in all) i e.count lt in cc)
      | inr past ↦ none_there t (bytes_in all) n e.count (count_is e all t v k) (omega arith)
    ]

element_as : (t s : ℕ) (v all : Value) (n m : ℕ) (part : Value) → t ≡ s → v ≡ all → n ≡ m → IsElement t v n part → IsElement s all m part
element_as t s v all n m part a b c is = rw (a, b, c) at is

-- the one that is taken
pub next_is : (e : Elements) (found : Option Value) (new : Elements) (all : Value) (t n : ℕ) → TakesElement e found new → elements_value e ≡ all → elements_type e ≡ t → element_next e ≡ n
    → option_map bytes_in found ≡ element_of t (bytes_in all) n
next_is e None new all t n takes v k x = none_left e all t n n takes.0.0 v k x (omega arith)
next_is e (Some w) new all t n takes v k x =
    let left = left_is e all t n v k x in
    let first : elements_left e ≡ bytes_in w ∷ elements_left new = takes.0 in
    elim (cases_lt n e.count) [
      | inl lt ↦
          let more = behind_next t (bytes_in all) n e.count lt in
          let same : bytes_in w ≡ element_bytes t (bytes_in all) n = cc in
          ap (λ (bs : List ℕ). Some bs) same ∙ one_there t (bytes_in all) n e.count (count_is e all t v k) lt
      | inr past ↦ absurd (let none = behind_none t (bytes_in all) n (e.count - n) (omega arith) in cc)
    ]

pub next_element : (e : Elements) (found : Option Value) (new : Elements) (all : Value) (t n : ℕ) → TakesElement e found new → elements_value e ≡ all → elements_type e ≡ t → element_next e ≡ n
    → IfSome found (IsElement t all n)
next_element e None new all t n takes v k x = tt
next_element e (Some w) new all t n takes v k x = element_as (elements_type e) t (elements_value e) all (element_next e) n w k v x takes.1.element
